-- After some works the hub's view is what both parties did together, and nothing else.
use Rattle.std.proofs.Common.{◌≡◌, ◌⊎◌, inl, inr, ℕ, zero, suc, Option, Some, List, [], ◌∷◌, ◌++◌, refl, ap, sym, ◌∙◌, subst, append-nil, append_assoc}
use Rattle.std.specs.Prelude.{slice_get}
use Rattle.std.specs.List.{AllByRecursion, flat_map}
use Rattle.std.proofs.lemmas.Bool.{cases_eq}
use Rattle.std.proofs.lemmas.Grind.{flat_map-append}
use Rattle.gw_base.proofs.Lists.{all-join, all-weaker, slice_get-more}
use Rattle.hub_core.proofs.Beside.{change_by, changes-added, refusal_by, refused-added}
use Rattle.hub_core.proofs.Standing.{Stands}
use Rattle.hub_core.proofs.Turns.{calls-append, happened-front}
use Rattle.hub_core.specs.Turns.{calls_by, state_after}
use Rattle.hub_core.specs.View.{Change, Event, Refusal, Session, View, empty_view, grow, grows, session_at}
use Rattle.receiver_law.proofs.sessions.StandingWriter.{session_of, turns-step}
use Rattle.sender_law.proofs.records.StandingReader.{moments-step, session_of as sent_session}
use Rattle.tp_receiver.specs.Runs.{HasReceived}
use Rattle.tp_receiver.specs.State.{rx_new}
use Rattle.tp_receiver.specs.declared.set.RxSet.{RxSet}
use Rattle.tp_sender.specs.Runs.{HasSent}
use Rattle.tp_sender.specs.State.{tx_new}
use Rattle.tp_sender.specs.declared.set.TxSet.{TxSet}
use Rattle.gw_law.specs.Deeds.{IsMadeIn, StandsIn, own_view}
use Rattle.gw_run.specs.Works.{Work, moments_of, turns_of, view_between, view_of}

-- what both parties have left after some works
abbrev AfterWorks : RxSet → TxSet → List Work → Type 0
AfterWorks rx tx works =
    Stands rx.path.0 tx.dest.0 rx.readers (state_after rx_new (turns_of works)).seq (session_of (state_after rx_new (turns_of works)).busy) (state_after tx_new (moments_of works)).next (sent_session (state_after tx_new (moments_of works)).live) (view_of works)

after-works : (rx : RxSet) (tx : TxSet) (works : List Work) → tx.path ≡ rx.path → HasReceived rx (turns_of works) → HasSent tx (moments_of works) → AfterWorks rx tx works
after-works rx tx [] path received sent = record {
  written = record { count = refl; left = λ k s is. absurd cc; used = tt };
  only = λ other ne. refl;
  read = record { count = refl; left = λ k r is. absurd cc };
}
after-works rx tx (work ∷ earlier) path received sent =
    let before = after-works rx tx earlier path (happened-front _ work.turns (turns_of earlier) received) (happened-front _ work.moments (moments_of earlier) sent) in
    let state = state_after rx_new (turns_of (work ∷ earlier)) in
    let old = state_after tx_new (moments_of earlier) in
    let new = state_after tx_new (moments_of (work ∷ earlier)) in
    let between = turns-step rx work.turns (turns_of earlier) received tx.dest.0 old.next (sent_session old.live) (view_of earlier) before in
    let P : ℕ → Type 0 = λ p. Stands p tx.dest.0 rx.readers state.seq (session_of state.busy) old.next (sent_session old.live) (view_between earlier work) in
    let Q : ℕ → Type 0 = λ p. Stands p tx.dest.0 rx.readers state.seq (session_of state.busy) new.next (sent_session new.live) (view_of (work ∷ earlier)) in
    let same : tx.path.0 ≡ rx.path.0 = ap (λ p. p.0) path in
    subst Q same (moments-step tx work.moments (moments_of earlier) sent rx.readers state.seq (session_of state.busy) (view_between earlier work) (subst P (sym same) between))

-- no other path has sessions
own-path : (path dest dests n m : ℕ) (v : View) (writes reads : Option ℕ) → Stands path dest dests n writes m reads v → (other seq : ℕ) (s : Session) → session_at v other seq ≡ Some s → other ≡ path
own-path path dest dests n m v writes reads so other seq s at = elim (cases_eq other path) [
  | inl same ↦ same
  | inr ne ↦ let none : slice_get [] seq ≡ Some s = ap (λ l. slice_get l seq) (sym (so.only other ne)) ∙ at in absurd cc
]

pub only-path : (rx : RxSet) (tx : TxSet) (works : List Work) → tx.path ≡ rx.path → HasReceived rx (turns_of works) → HasSent tx (moments_of works) → (path seq : ℕ) (s : Session) → session_at (view_of works) path seq ≡ Some s → path ≡ rx.path.0
only-path rx tx works path received sent other seq s at =
    own-path rx.path.0 tx.dest.0 rx.readers (state_after rx_new (turns_of works)).seq (state_after tx_new (moments_of works)).next (view_of works) (session_of (state_after rx_new (turns_of works)).busy) (sent_session (state_after tx_new (moments_of works)).live)
    (after-works rx tx works path received sent) other seq s at

-- items that stand in a list stand in it with others before or after them
stands-front : {A : Type 0} (xs ys zs : List A) → AllByRecursion (StandsIn ys) xs → AllByRecursion (StandsIn (ys ++ zs)) xs
stands-front xs ys zs all = all-weaker (StandsIn ys) (StandsIn (ys ++ zs)) xs (λ x is. (is.0, slice_get-more ys zs is.0 x is.1)) all

past : {A : Type 0} (ys xs : List A) (place : ℕ) (x : A) → slice_get xs place ≡ Some x → StandsIn (ys ++ xs) x
past [] xs place x is = (place, is)
past (y ∷ ys) xs place x is = let so = past ys xs place x is in (suc so.0, so.1)

stands-back : {A : Type 0} (xs ys : List A) → AllByRecursion (StandsIn (ys ++ xs)) xs
stands-back [] ys = tt
stands-back {A = A} (x ∷ xs) ys =
    let P : List A → Type 0 = λ l. AllByRecursion (StandsIn l) xs in
    (past ys (x ∷ xs) zero x refl, subst P (append_assoc ys (x ∷ []) xs) (stands-back xs (ys ++ x ∷ [])))

-- what calls add
changes-of : (calls : List Event) (v : View) → (grows calls v).changes ≡ v.changes ++ flat_map change_by calls
changes-of [] v = sym (append-nil v.changes)
changes-of (call ∷ calls) v = changes-of calls (grow call v) ∙ ap (λ l. l ++ flat_map change_by calls) (changes-added call v) ∙ append_assoc v.changes (change_by call) (flat_map change_by calls)

refused-of : (calls : List Event) (v : View) → (grows calls v).refused ≡ v.refused ++ flat_map refusal_by calls
refused-of [] v = sym (append-nil v.refused)
refused-of (call ∷ calls) v = refused-of calls (grow call v) ∙ ap (λ l. l ++ flat_map refusal_by calls) (refused-added call v) ∙ append_assoc v.refused (refusal_by call) (flat_map refusal_by calls)

-- of items that each call adds: those of one party's calls stand in all that both parties added
added : {A : Type 0} (by : Event → List A) (earlier all before mine theirs : List A) → all ≡ (before ++ mine) ++ theirs → AllByRecursion (StandsIn before) earlier → AllByRecursion (StandsIn all) (earlier ++ mine)
added {A = A} by earlier all before mine theirs is stands =
    let P : List A → Type 0 = λ l. AllByRecursion (StandsIn l) (earlier ++ mine) in
    subst P (sym is) (all-join (StandsIn ((before ++ mine) ++ theirs)) earlier mine (stands-front earlier (before ++ mine) theirs (stands-front earlier before mine stands)) (stands-front mine (before ++ mine) theirs (stands-back mine before)))

view-changes : (work : Work) (earlier : List Work) → (view_of (work ∷ earlier)).changes ≡ ((view_of earlier).changes ++ flat_map change_by (calls_by work.turns)) ++ flat_map change_by (calls_by work.moments)
view-changes work earlier = changes-of (calls_by work.moments) (view_between earlier work) ∙ ap (λ l. l ++ flat_map change_by (calls_by work.moments)) (changes-of (calls_by work.turns) (view_of earlier))

view-refused : (work : Work) (earlier : List Work) → (view_of (work ∷ earlier)).refused ≡ ((view_of earlier).refused ++ flat_map refusal_by (calls_by work.turns)) ++ flat_map refusal_by (calls_by work.moments)
view-refused work earlier = refused-of (calls_by work.moments) (view_between earlier work) ∙ ap (λ l. l ++ flat_map refusal_by (calls_by work.moments)) (refused-of (calls_by work.turns) (view_of earlier))

changes-made : (works : List Work) → AllByRecursion (StandsIn (view_of works).changes) (flat_map change_by (calls_by (turns_of works)))
changes-made [] = tt
changes-made (work ∷ earlier) =
    let P : List Change → Type 0 = λ l. AllByRecursion (StandsIn (view_of (work ∷ earlier)).changes) l in
    subst P (sym (ap (flat_map change_by) (calls-append work.turns (turns_of earlier)) ∙ flat_map-append change_by (calls_by (turns_of earlier)) (calls_by work.turns)))
    (added change_by (flat_map change_by (calls_by (turns_of earlier))) (view_of (work ∷ earlier)).changes (view_of earlier).changes (flat_map change_by (calls_by work.turns)) (flat_map change_by (calls_by work.moments)) (view-changes work earlier) (changes-made earlier))

refused-made : (works : List Work) → AllByRecursion (StandsIn (view_of works).refused) (flat_map refusal_by (calls_by (turns_of works)))
refused-made [] = tt
refused-made (work ∷ earlier) =
    let P : List Refusal → Type 0 = λ l. AllByRecursion (StandsIn (view_of (work ∷ earlier)).refused) l in
    subst P (sym (ap (flat_map refusal_by) (calls-append work.turns (turns_of earlier)) ∙ flat_map-append refusal_by (calls_by (turns_of earlier)) (calls_by work.turns)))
    (added refusal_by (flat_map refusal_by (calls_by (turns_of earlier))) (view_of (work ∷ earlier)).refused (view_of earlier).refused (flat_map refusal_by (calls_by work.turns)) (flat_map refusal_by (calls_by work.moments)) (view-refused work earlier) (refused-made earlier))

-- the receiver's changes and overflows stand in the view
pub made-in : (works : List Work) → IsMadeIn (view_of works) (calls_by (turns_of works))
made-in works =
    let calls : List Event = calls_by (turns_of works) in
    let P : List Change → Type 0 = λ l. AllByRecursion (StandsIn (view_of works).changes) l in
    let Q : List Refusal → Type 0 = λ l. AllByRecursion (StandsIn (view_of works).refused) l in
    record { changes = subst P (sym (changes-of calls empty_view)) (changes-made works); refused = subst Q (sym (refused-of calls empty_view)) (refused-made works) }

-- each change is one of both parties'
abbrev IsEither : List Change → List Change → Change → Type 0
IsEither mine theirs change = StandsIn mine change ⊎ StandsIn theirs change

either-more : (mine theirs more others : List Change) (changes : List Change) → AllByRecursion (IsEither mine theirs) changes → AllByRecursion (IsEither (mine ++ more) (theirs ++ others)) changes
either-more mine theirs more others changes all =
    all-weaker (IsEither mine theirs) (IsEither (mine ++ more) (theirs ++ others)) changes
    (λ change is. elim is [ inl one ↦ inl (one.0, slice_get-more mine more one.0 change one.1) | inr one ↦ inr (one.0, slice_get-more theirs others one.0 change one.1) ]) all

either-by : (works : List Work) → AllByRecursion (IsEither (flat_map change_by (calls_by (turns_of works))) (flat_map change_by (calls_by (moments_of works)))) (view_of works).changes
either-by [] = tt
either-by (work ∷ earlier) =
    let mine : List Change = flat_map change_by (calls_by (turns_of earlier)) in
    let theirs : List Change = flat_map change_by (calls_by (moments_of earlier)) in
    let more : List Change = flat_map change_by (calls_by work.turns) in
    let others : List Change = flat_map change_by (calls_by work.moments) in
    let is : flat_map change_by (calls_by (turns_of (work ∷ earlier))) ≡ mine ++ more = ap (flat_map change_by) (calls-append work.turns (turns_of earlier)) ∙ flat_map-append change_by (calls_by (turns_of earlier)) (calls_by work.turns) in
    let also : flat_map change_by (calls_by (moments_of (work ∷ earlier))) ≡ theirs ++ others = ap (flat_map change_by) (calls-append work.moments (moments_of earlier)) ∙ flat_map-append change_by (calls_by (moments_of earlier)) (calls_by work.moments) in
    let E : Change → Type 0 = IsEither (mine ++ more) (theirs ++ others) in
    let all : AllByRecursion E (((view_of earlier).changes ++ more) ++ others) =
    all-join E ((view_of earlier).changes ++ more) others
    (all-join E (view_of earlier).changes more (either-more mine theirs more others (view_of earlier).changes (either-by earlier)) (all-weaker (StandsIn (mine ++ more)) E more (λ change one. inl one) (stands-back more mine)))
    (all-weaker (StandsIn (theirs ++ others)) E others (λ change one. inr one) (stands-back others theirs)) in
    let P : List Change → Type 0 = λ l. AllByRecursion (IsEither l (flat_map change_by (calls_by (moments_of (work ∷ earlier))))) (view_of (work ∷ earlier)).changes in
    let Q : List Change → Type 0 = λ l. AllByRecursion (IsEither (mine ++ more) l) (view_of (work ∷ earlier)).changes in
    let R : List Change → Type 0 = λ l. AllByRecursion (IsEither (mine ++ more) (theirs ++ others)) l in
    subst P (sym is) (subst Q (sym also) (subst R (sym (view-changes work earlier)) all))

pub either-of : (works : List Work) → AllByRecursion (λ (change : Change). StandsIn (own_view (calls_by (turns_of works))).changes change ⊎ StandsIn (own_view (calls_by (moments_of works))).changes change) (view_of works).changes
either-of works =
    let mine : List Event = calls_by (turns_of works) in
    let theirs : List Event = calls_by (moments_of works) in
    let P : List Change → Type 0 = λ l. AllByRecursion (IsEither l (own_view theirs).changes) (view_of works).changes in
    let Q : List Change → Type 0 = λ l. AllByRecursion (IsEither (flat_map change_by mine) l) (view_of works).changes in
    subst P (sym (changes-of mine empty_view)) (subst Q (sym (changes-of theirs empty_view)) (either-by works))
