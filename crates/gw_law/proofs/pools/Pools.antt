-- The law of the pool: the changes of the joined view as moves, and what a receiver's records say of them.
use Rattle.std.proofs.Common.{◌≡◌, ℕ, ◌+◌, ◌-◌, ◌<◌, Some, option_map, List, [], ◌∷◌, ◌++◌, map, refl, ap, sym, ◌∙◌, subst, arith, append-nil}
use Rattle.hub_core.specs.Moves.{move_of}
use Rattle.hub_core.specs.Turns.{calls_by, came_by, records_by}
use Rattle.tp_receiver.specs.Effects.{OfWriter}
use Rattle.tp_receiver.specs.Runs.{HasReceived, frames_in}
use Rattle.std.specs.Prelude.{slice_get}
use Rattle.std.specs.List.{AllByRecursion, AllZip, flat_map}
use Rattle.std.proofs.lemmas.List.{length-map}
use Rattle.std.proofs.lemmas.Option.{slice_get-map}
use Rattle.gw_base.specs.declared.numbers.BufNo.{BufNo}
use Rattle.hub_core.specs.Journal.{AreInOrder, IsNextChange, numbered, replay}
use Rattle.hub_core.specs.Groups.{changes_in, group_of, place_of, sizes_of}
use Rattle.hub_core.specs.Joint.{Joint}
use Rattle.hub_core.specs.View.{View, Taken, Freed, Session, session_at}
use Rattle.hub_core.specs.declared.record.Move.{Move}
use Rattle.hub_core.specs.declared.record.OpenedAt.{OpenedAt}
use Rattle.hub_core.specs.declared.record.SessionRecord.{SessionRecord}
use Rattle.tp_attempts.specs.Attempts.{attempts_in}
use Rattle.tp_attempts.specs.Cuts.{Cut}
use Rattle.tp_attempts.specs.Seen.{Seen}
use Rattle.tp_receiver.specs.declared.set.RxSet.{RxSet}
use Rattle.gw_law.specs.Pool.{AreAllOver, AreAllUsed, AreFreed, AreNamed, Asks, Channel, IsOpened, IsPoolRun, IsUnnamed, IsWholeRun, NamesTake, PoolEnds, PoolLaw, Source, channel_of, place_in, start_need, taking}
use Rattle.receiver_law.specs.Source.{Tells}
use Rattle.gw_law.proofs.pools.FreeSets.{whole-again}
use Rattle.receiver_law.proofs.sessions.Entries.{need_by, outcome_by, outcome_going, outcome_of}
use Rattle.receiver_law.proofs.sessions.Openings.{openings}
use Rattle.receiver_law.proofs.records.SourceLaws.{source_law_of}
use Rattle.gw_base.proofs.Lists.{all-at, mapped-at}
use Rattle.hub_core.proofs.Changed.{all-by}
use Rattle.gw_law.proofs.pools.Changes.{None-before, changes-buf, first-after, free-is, lawful, next-change, next-move, numbered-map, numbers-map, take-in}
use Rattle.gw_law.proofs.pools.Needs.{Answered, LiesInGroup, answered, asks, needs-are}
use Rattle.gw_law.proofs.runs.OwnCalls.{received-writes}
use Rattle.gw_law.proofs.pools.Entries.{IsOpenedBy, opened-by, same-place, told-by}

-- pairs of two lists, where something holds of each item of the second one
zip-held : {A B : Type 0} (S : B → Type 0) (P Q R : A → B → Type 0) (xs : List A) (ys : List B) → ((x : A) (y : B) → S y → P x y → Q x y → R x y) → AllByRecursion S ys → AllZip P xs ys → AllZip Q xs ys → AllZip R xs ys
zip-held S P Q R [] [] on all first second = tt
zip-held S P Q R [] (y ∷ ys) on all first second = absurd first
zip-held S P Q R (x ∷ xs) [] on all first second = absurd first
zip-held S P Q R (x ∷ xs) (y ∷ ys) on all first second = (on x y all.0 first.0 second.0, zip-held S P Q R xs ys on all.1 first.1 second.1)

-- over groups of buffers, for one of them
module _ (groups : List (List ℕ)) (group : ℕ) where
  -- a record of a channel of the group has its session there
  lies-there : (v : View) (source : Source) (place : ℕ) (told : SessionRecord) → IsWholeRun groups group v source → slice_get (records_by source.turns) place ≡ Some told → LiesInGroup groups group v told
  lies-there v source place told run there opened is =
      let one = opened-by v source place told opened run there is in
      ap (group_of groups) (sym one.buf) ∙ run.its opened.seq one.session one.there

  -- what the records of one channel ask
  asks-of : (v : View) (source : Source) → Joint groups v → AreInOrder (changes_in groups group v) → IsWholeRun groups group v source →
      AllZip (Asks groups group (map move_of (changes_in groups group v)) source.set) (attempts_in source.set.functional (came_by frames_in source.turns)) (records_by source.turns)
  asks-of v source joint counts run =
      let set : RxSet = source.set in
      let attempts : List (Cut Seen) = attempts_in set.functional (came_by frames_in source.turns) in
      let records : List SessionRecord = records_by source.turns in
      let put = openings set source.turns run.received in
      let outs : flat_map outcome_by (calls_by source.turns) ≡ map outcome_of records = put.outcomes ∙ ap (λ b. map outcome_of records ++ outcome_going b) run.idle ∙ append-nil (map outcome_of records) in
      let needs : flat_map need_by (calls_by source.turns) ≡ map (start_need set) attempts = put.needs_are ∙ needs-are set source.turns in
      let happened : HasReceived set (source.turns ++ []) = (let H : List _ → Type 0 = λ l. HasReceived set l in subst H (sym (append-nil source.turns)) run.received) in
      let P : ℕ → Type 0 = λ g. AllByRecursion (OfWriter set.path.0 g) (calls_by source.turns) in
      let own : AllByRecursion (OfWriter set.path.0 group) (calls_by source.turns) = subst P run.group_is (received-writes set source.turns [] happened) in
      zip-held (LiesInGroup groups group v) (Tells set.chan.0 set.a) (Answered groups group v set) (Asks groups group (map move_of (changes_in groups group v)) set) attempts records
      (λ attempt told lies tells said. asks groups group v set attempt told joint counts lies tells said)
      (all-by (LiesInGroup groups group v) records (λ place told there. lies-there v source place told run there))
      (source_law_of set source.turns run.received run.idle).tells (answered groups group v set (calls_by source.turns) attempts records outs needs own run.calls)

  each-channel : (v : View) (sources : List Source) → Joint groups v → AreInOrder (changes_in groups group v) → AllByRecursion (IsWholeRun groups group v) sources →
      AllByRecursion (λ (channel : Channel). AllZip (Asks groups group (map move_of (changes_in groups group v)) channel.set) channel.attempts channel.records) (map channel_of sources)
  each-channel v [] joint counts runs = tt
  each-channel v (source ∷ sources) joint counts runs = (asks-of v source joint counts runs.0, each-channel v sources joint counts runs.1)

  run-at : (v : View) (sources : List Source) (chan : ℕ) (source : Source) → AllByRecursion (IsWholeRun groups group v) sources → slice_get sources chan ≡ Some source → IsWholeRun groups group v source
  run-at v sources chan source runs there = all-at (IsWholeRun groups group v) sources chan source runs there

  -- the session of a record of any channel
  record HasSession (v : View) (sources : List Source) (chan place : ℕ) (opened : OpenedAt) : Type 0 where
    source : Source
    source_is : slice_get sources chan ≡ Some source
    told : SessionRecord
    told_is : slice_get (records_by source.turns) place ≡ Some told
    opened_is : told.opened ≡ Some opened
    run : IsWholeRun groups group v source
    known : IsOpenedBy v source.set.path.0 opened
    its : group_of groups known.session.buf ≡ group

  session-of : (v : View) (sources : List Source) (chan place : ℕ) (opened : OpenedAt) → AllByRecursion (IsWholeRun groups group v) sources → IsOpened (map channel_of sources) chan place opened → HasSession v sources chan place opened
  session-of v sources chan place opened runs is =
      let one = mapped-at channel_of chan sources is.channel is.channel_is in
      let run = run-at v sources chan one.0 runs one.1 in
      let there : slice_get (records_by one.0.turns) place ≡ Some is.told = ap (λ (c : Channel). slice_get c.records place) one.2 ∙ is.told_is in
      let known = opened-by v one.0 place is.told opened run there is.opened_is in
      record { source = one.0; source_is = one.1; told = is.told; told_is = there; opened_is = is.opened_is; run = run; known = known; its = run.its opened.seq known.session known.there }

  same-no : (one other : BufNo) → one.0 ≡ other.0 → one ≡ other
  same-no one other is = ap (λ (n : ℕ). record { 0 = n }) is

  same-take : (number buf need other another asked : ℕ) → Some (Taken number buf need) ≡ Some (Taken other another asked) → buf ≡ another
  same-take number buf need other another asked is = cc

  -- a run of the receivers whose paths have the group's buffers
  module _ (sources : List Source) (count free : ℕ) (v : View) (moves : List Move) (run : IsPoolRun sources groups group count free v moves) where
    own-take : (chan other_chan place other : ℕ) (opened reopened : OpenedAt) → opened.change ≡ reopened.change → HasSession v sources chan place opened → HasSession v sources other_chan other reopened → (chan ≡ other_chan) × (place ≡ other)
    own-take chan other_chan place other opened reopened same one two =
        let equal = run.joint.owned.own one.source.set.path.0 opened.seq two.source.set.path.0 reopened.seq one.known.session two.known.session one.known.there two.known.there
        (two.its ∙ sym one.its, two.known.number ∙ sym same ∙ sym one.known.number) in
        let chans : chan ≡ other_chan = run.apart chan other_chan one.source two.source one.source_is two.source_is equal.0 in
        let both : Some two.source ≡ Some one.source = sym two.source_is ∙ ap (slice_get sources) (sym chans) ∙ one.source_is in
        let alike : two.source ≡ one.source = cc in
        let there : slice_get (records_by one.source.turns) other ≡ Some two.told = ap (λ (s : Source). slice_get (records_by s.turns) other) (sym alike) ∙ two.told_is in
        (chans, same-place 0 (records_by one.source.turns) place other one.told two.told opened reopened (source_law_of one.source.set one.source.turns one.run.received one.run.idle).sessions one.told_is there one.opened_is two.opened_is equal.1)

    -- a session's take is named by a record
    named-by : (path seq : ℕ) (s : Session) (move : Move) → session_at v path seq ≡ Some s → group_of groups s.buf ≡ group → place_of groups s.buf ≡ move.buf.0 → NamesTake groups (map channel_of sources) s.number move
    named-by path seq s move at its buf =
        let by = run.all path seq s at its in
        let told = told-by v by.1 seq s (run-at v sources by.0 by.1 run.runs by.2) (ap (λ p. session_at v p seq) by.3 ∙ at) in
        record {
          chan = by.0;
          place = told.place;
          opened = told.opened;
          is = record {
            channel = channel_of by.1;
            channel_is = slice_get-map channel_of sources by.0 ∙ ap (option_map channel_of) by.2;
            told = told.told;
            told_is = told.told_is;
            opened_is = told.opened_is;
          };
          change_is = told.change_is;
          buf_is = same-no (place_in groups told.opened.buf) move.buf (ap (place_of groups) told.buf_is ∙ buf);
        }

    unused-by : (path seq : ℕ) (s : Session) → session_at v path seq ≡ Some s → group_of groups s.buf ≡ group → IsUnnamed (map channel_of sources) s.number → ⊥
    unused-by path seq s at its unnamed =
        let named = named-by path seq s (taking 0 (record { 0 = place_of groups s.buf })) at its refl in
        unnamed named.chan named.place named.opened named.is named.change_is

    named-in : AreAllUsed groups group v → AreNamed groups (map channel_of sources) (map move_of (changes_in groups group v))
    named-in used number move is took =
        let take = take-in (changes_in groups group v) number move is took in
        let by = used number move.buf.0 take.0 take.1 in
        let taken = run.joint.owned.taken by.0 by.1 by.2 by.3 in
        let J : ℕ → Type 0 = λ g. numbered (changes_in groups g v) by.2.number ≡ Some (Taken by.2.number (place_of groups by.2.buf) taken.need) in
        let mine = subst J by.5 taken.take in
        let buf : place_of groups by.2.buf ≡ move.buf.0 = same-take by.2.number (place_of groups by.2.buf) taken.need number move.buf.0 take.0 (sym mine ∙ ap (numbered (changes_in groups group v)) by.4 ∙ take.1) in
        let P : ℕ → Type 0 = λ n. NamesTake groups (map channel_of sources) n move in
        subst P by.4 (named-by by.0 by.1 by.2 move by.3 by.5 buf)

    law-in : PoolLaw groups group count free (map channel_of sources) (map move_of (changes_in groups group v))
    law-in =
        let journal = run.joint.journal group in
        record {
          replayed = record {
            numbered = rw (numbers-map (changes_in groups group v)) run.in_order;
            count_is = run.word.number_is ∙ sym (length-map (changes_in groups group v) move_of);
            each = λ number below.
                let one = journal.each number (omega (arith, below, run.word.number_is)) in
                (move_of one.0, numbered-map (changes_in groups group v) (number + 1) ∙ ap (option_map move_of) one.1, rw (free-is (sizes_of groups group) (changes_in groups group v) number) (lawful (sizes_of groups group) (replay (sizes_of groups group) (changes_in groups group v) number) one.0 one.2));
            free_is = run.word.free_is ∙ ap (replay (sizes_of groups group) (changes_in groups group v)) (sym run.word.number_is) ∙ sym (free-is (sizes_of groups group) (changes_in groups group v) count);
          };
          asks = each-channel v sources run.joint run.in_order run.runs;
          own = λ chan other_chan place other opened reopened is at same.
              own-take chan other_chan place other opened reopened same (session-of v sources chan place opened run.runs is) (session-of v sources other_chan other reopened run.runs at);
          unused = λ number later buf takes unnamed moves_buf.
              let take = take-in (changes_in groups group v) number (taking number buf) takes refl in
              let Q : ℕ → Type 0 = λ n. IsUnnamed (map channel_of sources) n in
              run.joint.owned.unused group number buf.0 take.0 later take.1 (λ path seq s at mine. unused-by path seq s at mine.0 (subst Q (sym mine.1) unnamed)) (changes-buf (changes_in groups group v) buf.0 later moves_buf);
          next = λ number later buf takes is.
              let take = take-in (changes_in groups group v) number (taking number buf) takes refl in
              numbered-map (changes_in groups group v) later ∙ ap (option_map move_of) (run.joint.owned.next group number buf.0 take.0 later take.1 (next-change (changes_in groups group v) buf.0 number later is));
        }

    freed-in : AreAllOver v → AreFreed groups (map channel_of sources) (map move_of (changes_in groups group v))
    freed-in over chan place opened is =
        let of = session-of v sources chan place opened run.runs is in
        let path : ℕ = of.source.set.path.0 in
        let one = of.known in
        let s : Session = one.session in
        let at : ℕ = place_of groups s.buf in
        let J : ℕ → Type 0 = λ g. (later : ℕ) × (s.number < later) × (numbered (changes_in groups g v) later ≡ Some (Freed later at)) in
        let K : ℕ → Type 0 = λ g. (need : ℕ) × (numbered (changes_in groups g v) s.number ≡ Some (Taken s.number at need)) in
        let gone = subst J of.its (run.joint.owned.freed path opened.seq s one.there (over path opened.seq s one.there)) in
        let taken = run.joint.owned.taken path opened.seq s one.there in
        let take = subst K of.its (taken.need, taken.take) in
        let none : None-before (changes_in groups group v) at s.number (s.number + 1) = λ other here after. omega (arith, after) in
        let next = first-after (changes_in groups group v) at s.number gone.0 (gone.0 - (s.number + 1)) (s.number + 1) (omega (arith, gone.1)) (omega arith) none (Freed gone.0 at, gone.2, refl) in
        let freed : numbered (changes_in groups group v) next.0 ≡ Some (Freed next.0 at) = run.joint.owned.next group s.number at take.0 next.0 take.1 next.1 in
        let place_is : at ≡ place_of groups opened.buf.0 = ap (place_of groups) one.buf in
        let P : ℕ → Type 0 = λ buf. IsNextChange (changes_in groups group v) buf s.number next.0 in
        let Q : ℕ → Type 0 = λ number. IsNextChange (changes_in groups group v) (place_of groups opened.buf.0) number next.0 in (
          next.0,
          next-move (changes_in groups group v) (place_of groups opened.buf.0) opened.change next.0 (subst Q one.number (subst P place_is next.1)),
          numbered-map (changes_in groups group v) next.0 ∙ ap (option_map move_of) (freed ∙ ap (λ b. Some (Freed next.0 b)) place_is),
        )

pub named_of : (sources : List Source) (groups : List (List ℕ)) (group count free : ℕ) (v : View) (moves : List Move) → IsPoolRun sources groups group count free v moves → AreAllUsed groups group v → AreNamed groups (map channel_of sources) moves
named_of sources groups group count free v moves run used = let P : List Move → Type 0 = λ l. AreNamed groups (map channel_of sources) l in subst P (sym run.moves_are) (named-in groups group sources count free v moves run used)

pub pool_law_of : (sources : List Source) (groups : List (List ℕ)) (group count free : ℕ) (v : View) (moves : List Move) → IsPoolRun sources groups group count free v moves → PoolLaw groups group count free (map channel_of sources) moves
pool_law_of sources groups group count free v moves run = let P : List Move → Type 0 = λ l. PoolLaw groups group count free (map channel_of sources) l in subst P (sym run.moves_are) (law-in groups group sources count free v moves run)

pub pool_ends_of : (sources : List Source) (groups : List (List ℕ)) (group count free : ℕ) (v : View) (moves : List Move) → IsPoolRun sources groups group count free v moves → AreAllOver v → PoolEnds groups group free (map channel_of sources) moves
pool_ends_of sources groups group count free v moves run over =
    let P : List Move → Type 0 = λ l. AreFreed groups (map channel_of sources) l in
    let freed : AreFreed groups (map channel_of sources) moves = subst P (sym run.moves_are) (freed-in groups group sources count free v moves run over) in
    record { freed = freed; whole = λ named buf there. whole-again groups group count free (map channel_of sources) moves (pool_law_of sources groups group count free v moves run).replayed freed named buf there }
