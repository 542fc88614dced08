-- A view whose changes and overflows are those of a joint one in another order is joint too.
use Rattle.std.proofs.Common.{◌≡◌, ℕ, ◌+◌, zero, suc, List, length, Option, Some, All, refl, ap, sym, ◌∙◌, subst, arith}
use Rattle.std.proofs.lemmas.List.Elements.{All-weaker}
use Rattle.hub_core.specs.Groups.{group_of, place_of, sizes_of, changes_in, IsWordOf}
use Rattle.hub_core.specs.Joint.{Joint, IsOverflowIn}
use Rattle.hub_core.specs.Journal.{ChangesBuf, IsLawful, moved, number_of, numbered, replay}
use Rattle.hub_core.specs.View.{View, Change, Session, Reading}
use Rattle.hub_shared.proofs.Weights.{WeighSame, change-tells, refusal-tells, all-same, journal-same, length-same, numbered-same}

module _ (groups : List (List ℕ)) (core w : View) (so : Joint groups core) (changes : WeighSame w.changes core.changes) (refused : WeighSame w.refused core.refused) where
  -- the joint view, with these changes and overflows
  abbrev u : View
  u = record core { changes = w.changes; refused = w.refused }

  own : (group : ℕ) → All (λ c. numbered (changes_in groups group core) (number_of c) ≡ Some c) (changes_in groups group u)
  own group = all-same change-tells (λ c. numbered (changes_in groups group core) (number_of c) ≡ Some c) (changes_in groups group core) (changes_in groups group u) (journal-same groups group w.changes core.changes changes) (so.journal group).own

  numbers : (group n : ℕ) → numbered (changes_in groups group u) n ≡ numbered (changes_in groups group core) n
  numbers group n = numbered-same (changes_in groups group u) (changes_in groups group core) (journal-same groups group w.changes core.changes changes) (own group) n

  lengths : (group : ℕ) → length (changes_in groups group u) ≡ length (changes_in groups group core)
  lengths group = length-same (changes_in groups group u) (changes_in groups group core) (journal-same groups group w.changes core.changes changes)

  replays : (group n : ℕ) → replay (sizes_of groups group) (changes_in groups group u) n ≡ replay (sizes_of groups group) (changes_in groups group core) n
  replays group zero = refl
  replays group (suc n) = ap (λ (c : Option Change). moved c (replay (sizes_of groups group) (changes_in groups group u) n)) (numbers group (suc n)) ∙ ap (moved (numbered (changes_in groups group core) (suc n))) (replays group n)

  there : (group place n : ℕ) → ChangesBuf (changes_in groups group u) place n → ChangesBuf (changes_in groups group core) place n
  there group place n is = (is.0, sym (numbers group n) ∙ is.1, is.2)

  here : (group place n : ℕ) → ChangesBuf (changes_in groups group core) place n → ChangesBuf (changes_in groups group u) place n
  here group place n is = (is.0, numbers group n ∙ is.1, is.2)

  whole : Joint groups u
  whole = record {
    journal = λ g. record {
      count_is = refl;
      free_is = refl;
      own = All-weaker (λ c. numbered (changes_in groups g core) (number_of c) ≡ Some c) (λ c. numbered (changes_in groups g u) (number_of c) ≡ Some c) (λ c is. numbers g (number_of c) ∙ is) (changes_in groups g u) (own g);
      each = λ n below.
          let each = (so.journal g).each n (omega (arith, below, lengths g)) in
          (each.0, numbers g (n + 1) ∙ each.1, subst (λ (free : ℕ). IsLawful (sizes_of groups g) free each.0) (sym (replays g n)) each.2);
    };
    overflows = all-same refusal-tells (IsOverflowIn groups u) core.refused w.refused refused
        (All-weaker (IsOverflowIn groups core) (IsOverflowIn groups u) (λ r is. record { there = is.there; its = record { there = omega (arith, is.its.there, lengths r.group); set = is.its.set ∙ sym (replays r.group r.number); none_fits = is.its.none_fits } }) core.refused so.overflows);
    streams = record { written = so.streams.written; joined = so.streams.joined };
    owned = record {
      taken = λ path seq s at. let its = so.owned.taken path seq s at in record { need = its.need; take = numbers (group_of groups s.buf) s.number ∙ its.take; size = its.size };
      own = so.owned.own;
      unused = λ group number place need later take none changed. so.owned.unused group number place need later (sym (numbers group number) ∙ take) none (there group place later changed);
      next = λ group number place need n take is. numbers group n ∙ so.owned.next group number place need n (sym (numbers group number) ∙ take)
          (record { changes_buf = there group place n is.changes_buf; after = is.after; first = λ other changed later. is.first other (here group place other changed) later });
      kept = λ path seq later s at changed after. let over = so.owned.kept path seq later s at (there (group_of groups s.buf) (place_of groups s.buf) later changed) after in record { writer = over.writer; dests = over.dests };
      freed = λ path seq s at over. let freed = so.owned.freed path seq s at (record { writer = over.writer; dests = over.dests }) in (freed.0, freed.1, numbers (group_of groups s.buf) freed.0 ∙ freed.2);
      joined = so.owned.joined;
      no_readers = so.owned.no_readers;
    };
  }

  pub joint-same : w.sessions ≡ core.sessions → w.readings ≡ core.readings → Joint groups w
  joint-same sessions readings = subst (λ (x : (ℕ → List Session) × (ℕ → ℕ → List Reading)). Joint groups (record w { sessions = x.0; readings = x.1 })) (λ i. (sym sessions i, sym readings i)) (held-any whole)
    where
      held-any : Joint groups u → Joint groups (record w { sessions = core.sessions; readings = core.readings })
      held-any so' = record {
        journal = so'.journal;
        overflows = All-weaker (IsOverflowIn groups u) (IsOverflowIn groups (record w { sessions = core.sessions; readings = core.readings })) (λ r is. record { there = is.there; its = is.its }) w.refused so'.overflows;
        streams = record { written = so'.streams.written; joined = so'.streams.joined };
        owned = record {
          taken = λ path seq s at. let its = so'.owned.taken path seq s at in record { need = its.need; take = its.take; size = its.size };
          own = so'.owned.own;
          unused = so'.owned.unused;
          next = so'.owned.next;
          kept = λ path seq later s at changed after. let over = so'.owned.kept path seq later s at changed after in record { writer = over.writer; dests = over.dests };
          freed = λ path seq s at over. so'.owned.freed path seq s at (record { writer = over.writer; dests = over.dests });
          joined = so'.owned.joined;
          no_readers = so'.owned.no_readers;
        };
      }

  pub word-same : (group number free : ℕ) → IsWordOf groups group core number free → IsWordOf groups group w number free
  word-same group number free is = record { number_is = is.number_is ∙ sym (lengths group); free_is = is.free_is ∙ sym (replays group (length (changes_in groups group core))) ∙ ap (replay (sizes_of groups group) (changes_in groups group u)) (sym (lengths group)) }
