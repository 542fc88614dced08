use Rattle.std.proofs.Common.{ℕ, ◌+◌, ◌%◌, ◌≤◌, ◌∙◌, List, All, ap, sym, subst, arith, rules}
use Rattle.std.specs.Prelude.{slice_set, sum}
use Rattle.hub_core.proofs.Growing.{writes-put, by-put}
use Rattle.hub_core.proofs.HubGroups.{hub-sizes}
use Rattle.hub_core.proofs.Hubs.{laid-word, stays-put, party-place, start-at, word-at, writer-size, writer-start}
use Rattle.hub_core.proofs.Led.{put-may}
use Rattle.hub_core.proofs.Looks.{cells-few}
use Rattle.hub_core.proofs.Rows.{occupied}
use Rattle.hub_core.proofs.Shown.{after-put}
use Rattle.hub_core.proofs.Starts.{words-put}
use Rattle.hub_core.proofs.plain.PlainHubPort.put.Goals as goal
use Rattle.hub_core.specs.HubPort.{groups_of}
use Rattle.hub_core.specs.Past.{view_after}
use Rattle.hub_core.specs.Plain.{IsShown, start_of}
use Rattle.hub_core.specs.View.{Put}
use Rattle.hub_core.specs.declared.token.End.TheVariants.{Write}

pub index-start-requires : goal.index-start-requires
index-start-requires c = start-at c.args.self.now c.args.at.now.buf.0 c.args.at.now.cells c.from.result (writer-size c.args.self.now c.args.at.now c.requires.writes) c.from.ensures

pub overflow_add-start : goal.overflow_add-start
overflow_add-start c =
    let start = writer-start c.args.self.now c.args.at.now c.from.result c.index-start.result.now c.requires.writes c.from.ensures c.index-start.ensures in
    let low = (word-at c.args.self.now c.args.at.now.buf.0 c.args.at.now.cells c.args.at.now.put c.index-start.result.now (writer-size c.args.self.now c.args.at.now c.requires.writes) start).1 in
    record { fits = low }

pub index_mut-requires : goal.index_mut-requires
index_mut-requires c =
    let start = writer-start c.args.self.now c.args.at.now c.from.result c.index-start.result.now c.requires.writes c.from.ensures c.index-start.ensures in
    (word-at c.args.self.now c.args.at.now.buf.0 c.args.at.now.cells c.args.at.now.put c.index-start.result.now (writer-size c.args.self.now c.args.at.now c.requires.writes) start).0

pub overflow_add-at : goal.overflow_add-at
overflow_add-at c =
    let known = c.requires.writes in
    let few = cells-few known.session.cells (c.args.self.now.shown.words_show.cells c.args.at.now.path.0 c.args.at.now.seq known.session known.known) in
    omega (arith, few, known.says.put, known.says.given, c.requires.len, c.requires.cell.some)

pub invariant_of-self : goal.invariant_of-self
invariant_of-self c =
    let hub = c.args.self.now in
    let v = view_after hub.past.seat.me.0.deeds in
    let t = c.args.at.now in
    let known = c.requires.writes in
    let start = writer-start hub t c.from.result c.index-start.result.now known c.from.ensures c.index-start.ensures in
    let place = occupied _ t.path.0 t.seq (party-place hub (Write t) known) in
    let more = slice_set hub.words.items (c.index-start.result.now + t.put % t.cells) c.args.cell in
    let begin = start ∙ ap (λ (l : List ℕ). start_of l t.buf.0) (sym (hub-sizes hub)) in
    let shows = words-put (groups_of hub) hub.places.items hub.words.items more hub.pools.items hub.takes v t c.args.cell hub.shown known c.requires.cell
    (hub.laid.words_are ∙ ap (λ (l : List ℕ). sum l) (sym (hub-sizes hub))) (subst (λ (l : List ℕ). All (λ n. (1 ≤ n) × (n ≤ 8192)) l) (sym (hub-sizes hub)) hub.laid.each)
    (ap (λ (s : ℕ). slice_set hub.words.items (s + t.put % t.cells) c.args.cell) begin) in
    let after = after-put (groups_of hub) hub.places.items hub.words.items hub.pools.items hub.takes v hub.shown t place.0 more c.args.cell known place.1 place.2 place.3 shows
    (put-may v t c.args.cell known c.requires.room c.requires.cell c.requires.len) in
    let all = subst (IsShown (groups_of hub) hub.places.items more hub.pools.items hub.takes) (sym (ap view_after c.note.ensures)) after in
    record { laid = laid-word _ _ _ _ _ _ _ hub.laid; shown = all }

pub returns-clause-writes : goal.returns-clause-writes
returns-clause-writes c = writes-put _ _ _ _ _ c.requires.writes c.requires.room c.requires.len (ap view_after c.note.ensures) (search rules)

pub returns-clause-stays : goal.returns-clause-stays
returns-clause-stays c = stays-put c.args.self.now (Put c.args.at.now.path.0 c.args.at.now.seq c.args.cell) _ (ap view_after c.note.ensures) (by-put _ _ _ _ _ (ap view_after c.note.ensures))
