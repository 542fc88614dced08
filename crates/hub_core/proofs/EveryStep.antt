-- Each step of the machine that may happen keeps all that its law says.
use Rattle.std.proofs.Common.{◌≡◌, ℕ, ◌<◌, inl, inr, List, [], ◌∷◌, ◌++◌, length, All, refl, ap, sym, ◌∙◌, subst, arith, append-nil}
use Rattle.std.proofs.lemmas.List.Elements.{All-nil, All-push, All-weaker}
use Rattle.std.proofs.lemmas.Option.{slice_get_within}
use Rattle.gw_base.proofs.Lists.{same-some}
use Rattle.hub_core.proofs.Grouped.{Journals, ComesNext, journals-pushed, overflow-stays}
use Rattle.hub_core.proofs.Numbered.{own-numbers, taken-clear}
use Rattle.hub_core.proofs.Owning.{OwnedIn, OwnedBy, taken_by, goes-on, changed, entered, took, freed, session-taken, session-own, session-turn, unused, free-next}
use Rattle.hub_core.proofs.Streamed.{Streamed, Goes, calls, streams, own, roomy, none}
use Rattle.hub_core.specs.Core.{Step, after, May, MayDo, Leads, AreJoint, CoreLaw}
use Rattle.hub_core.specs.Core.{Takes, Refuses, Does, Frees}
use Rattle.hub_core.specs.Groups.{group_of, place_of, sizes_of, journal_of, changes_in}
use Rattle.hub_core.specs.Journal.{replay, IsOverflow}
use Rattle.hub_core.specs.Joint.{IsOverflowIn}
use Rattle.hub_core.specs.View.{View, Change, Taken, Freed, Refusal, Session, Event, grow, empty_view}
use Rattle.hub_core.specs.View.{Took, Refused, Entered, Asked, Put, Published, Joining, Missed, Saw, Read, Closed, Parted}

-- an overflow of one of the groups, by the changes alone
abbrev IsOverflowOf : List (List ℕ) → List Change → Refusal → Type 0
IsOverflowOf groups changes r =
    (r.group < length groups) × IsOverflow (sizes_of groups r.group) (journal_of groups r.group changes) r

-- what every step keeps
pub record Lawful (groups : List (List ℕ)) (v : View) : Type 0 where
  pub journals : Journals groups v.changes
  pub overflows : All (IsOverflowOf groups v.changes) v.refused
  pub streamed : Streamed v
  pub owned : OwnedIn groups v

begins : (groups : List (List ℕ)) → Lawful groups empty_view
begins groups = record {
  journals = λ g. record { order = tt; lawful = λ number below. absurd (omega (arith, below)) };
  overflows = All-nil (IsOverflowOf groups []);
  streamed = λ path dest seq. refl;
  owned = record {
    taken = λ o t at. grind (arith, at);
    own = λ o p t u at. grind (arith, at);
    freed = λ g n buf need at. absurd cc;
  };
}

module _ (groups : List (List ℕ)) (v : View) (so : Lawful groups v) where
  -- the pool stays, and the parties go on
  goes : (w : View) → v.changes ≡ w.changes → v.refused ≡ w.refused → OwnedBy groups v w.held w.sessions → Goes v w →
      Lawful groups w
  goes w changes refused owned on = record {
    journals = subst (Journals groups) changes so.journals;
    overflows = rw (← changes, ← refused) so.overflows;
    streamed = λ path dest seq. (on path dest seq).0;
    owned = rw (← changes) (goes-on groups v.changes (taken_by w.held w.sessions) v w on owned);
  }

  -- after a call of a party; where it leaves, it frees nothing itself
  does : (event : Event) → MayDo v event → Goes v (after (Does event) v) → Lawful groups (after (Does event) v)
  unfolding grow
  does (Took group number buf size need) may = absurd may
  does (Refused group number free need) may = absurd may
  does (Entered path seq buf number size len readers) may =
      goes _ refl refl (entered groups v so.owned path buf number size len readers may.0)
  does (Asked path seq cells readers) may = goes _ refl refl (changed groups v so.owned path seq _ (λ s. refl))
  does (Put path seq cell) may = goes _ refl refl (changed groups v so.owned path seq _ (λ s. refl))
  does (Published path seq bytes) may = goes _ refl refl (changed groups v so.owned path seq _ (λ s. refl))
  does (Joining path dest seq buf len) may = goes _ refl refl so.owned
  does (Missed group path dest seq) may = goes _ refl refl so.owned
  does (Saw path dest seq cells bytes writer) may = goes _ refl refl so.owned
  does (Read path dest seq cell) may = goes _ refl refl so.owned
  does (Closed path seq left) may =
      goes _ (rw may.2 (sym (append-nil v.changes))) refl (changed groups v so.owned path seq _ (λ s. refl))
  does (Parted path dest seq left) may = goes _ (rw may.2 (sym (append-nil v.changes))) refl so.owned

  -- one more change comes to the pool
  overflows-stay : (c : Change) → All (IsOverflowOf groups (v.changes ++ c ∷ [])) v.refused
  overflows-stay c = All-weaker (IsOverflowOf groups v.changes) (IsOverflowOf groups (v.changes ++ c ∷ []))
      (λ r is. (is.0, overflow-stays groups v.changes c so.journals r.group r is.1)) v.refused so.overflows

  steps-keep : (step : Step) → May groups v step → Lawful groups (after step v)
  unfolding grow
  steps-keep (Does event) may = does event may (calls v so.streamed event may)
  steps-keep (Takes group number buf size need) may =
      let next : ComesNext groups v.changes (Taken number buf need) =
      record { number = rw may.its may.next; lawful = rw may.its may.smallest } in record {
        journals = journals-pushed groups v.changes (Taken number buf need) so.journals next;
        overflows = overflows-stay (Taken number buf need);
        streamed = so.streamed;
        owned = took groups v so.owned so.journals number buf size need next (rw may.its may.size_is);
      }
  steps-keep (Refuses group number free need) may = record {
    journals = so.journals;
    overflows = All-push (IsOverflowOf groups v.changes) v.refused _ so.overflows (
      may.there,
      record {
        there = omega (arith, may.now);
        set = may.set ∙ ap (replay (sizes_of groups group) (changes_in groups group v)) (sym may.now);
        none_fits = may.none_fits;
      },
    );
    streamed = so.streamed;
    owned = so.owned;
  }
  steps-keep (Frees number buf) may =
      let g = group_of groups buf in
      let place = place_of groups buf in
      let s = may.session in
      let its = rw may.its at (session-taken groups v so.owned may.path may.seq s may.known) in
      let inside = slice_get_within (sizes_of groups g) place s.size its.size in
      let mine = changes_in groups g v in
      let clear = taken-clear (sizes_of groups g) mine s.number place its.need (so.journals g) its.take may.last in
      let next : ComesNext groups v.changes (Freed number buf) =
      record { number = may.next; lawful = (inside, clear) } in record {
        journals = journals-pushed groups v.changes (Freed number buf) so.journals next;
        overflows = overflows-stay (Freed number buf);
        streamed = so.streamed;
        owned = freed groups v so.owned so.journals number buf may next;
      }

  -- what is kept is what the law says
  pub joint : AreJoint groups v
  joint = record {
    journal = λ g.
        let numbers = own-numbers (changes_in groups g v) (so.journals g).order in
        record { count_is = refl; free_is = refl; own = numbers; each = (so.journals g).lawful };
    order = λ g. (so.journals g).order;
    overflows = All-weaker (IsOverflowOf groups v.changes) (IsOverflowIn groups v)
        (λ r is. record { there = is.0; its = is.1 }) v.refused so.overflows;
    streams = streams v so.streamed;
    owned = record {
      taken = session-taken groups v so.owned;
      own = session-own groups v so.owned;
      unused = unused groups v so.owned;
      next = free-next groups v so.owned;
      kept = λ path seq later s at changed past. elim (session-turn groups v so.owned path seq s at) [
        | inl last ↦ absurd (let most = last later changed in omega (arith, most, past))
        | inr over ↦ over.0
      ];
      turn = session-turn groups v so.owned;
      joined = own v so.streamed;
      no_readers = none v so.streamed;
    };
    unread = λ path seq s at dest below stays.
        let room = roomy v so.streamed path seq s at dest below stays in
        omega (arith, room);
    put = λ path seq cell s may at dest below stays.
        let room = roomy v so.streamed path seq s at dest below stays in
        omega (arith, room, may.2, ap (λ (x : Session). x.room) (same-some may.1.0 at));
  }

leads : (groups : List (List ℕ)) (steps : List Step) (v last : View) → Lawful groups v → Leads groups v steps last →
    Lawful groups last
leads groups [] v last so is = subst (Lawful groups) (sym is) so
leads groups (step ∷ steps) v last so led = elim led [
  | inl did ↦ leads groups steps (after step v) last (steps-keep groups v so step did.0) did.1
  | inr stayed ↦ leads groups steps v last so stayed.1
]

pub lawful-of : (groups : List (List ℕ)) (steps : List Step) (v : View) → Leads groups empty_view steps v →
    Lawful groups v
lawful-of groups steps v led = leads groups steps empty_view v (begins groups) led

pub core : CoreLaw
core groups steps v led = joint groups v (lawful-of groups steps v led)
