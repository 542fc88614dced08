-- Reassembly passes over frames that carry no data, such as the flow controls of the channel's receiver.
use Rattle.std.proofs.Common.{◌≡◌, Bool, true, false, cond, List, [], ◌∷◌, map, refl, ap, sym, ◌∙◌, subst}
use Rattle.std.specs.Prelude.{filter, fold, ℕ}
use Rattle.std.specs.List.{AllZip}
use Rattle.tp_attempts.specs.Attempts.{attempts_in}
use Rattle.tp_attempts.specs.Cuts.{Cut, before_start, cuts}
use Rattle.tp_attempts.specs.Seen.{Seen, carries, is_data, is_start}
use Rattle.tp_attempts.specs.Walk.{Walk, begun, look, walk_of}
use Rattle.tp_unit.specs.Unit.{Meaning, SingleFrame, FirstFrame, ConsecutiveFrame, FlowControl, NoUnit}

-- a cut without the items that aren't kept
abbrev pub kept_of : {T : Type 0} → (T → Bool) → Cut T → Cut T
kept_of keep cut = record { start = cut.start; after = filter keep cut.after }

-- starts are kept
abbrev pub Keeps : {T : Type 0} → (keep starts : T → Bool) → Type 0
Keeps {T = T} keep starts = (x : T) → keep x ≡ false → starts x ≡ false

before-one : {T : Type 0} (keep starts : T → Bool) (x : T) (xs : List T) (kept start : Bool) → keep x ≡ kept → starts x ≡ start → Keeps keep starts → before_start starts (filter keep xs) ≡ filter keep (before_start starts xs) →
    before_start starts (cond kept (x ∷ filter keep xs) (filter keep xs)) ≡ filter keep (cond start [] (x ∷ before_start starts xs))
before-one keep starts x xs true true is starts_is on later = rw starts_is refl
before-one keep starts x xs true false is starts_is on later = rw (starts_is, is) (ap (λ l. x ∷ l) later)
before-one keep starts x xs false true is starts_is on later = let clash : true ≡ false = sym starts_is ∙ on x is in cc
before-one keep starts x xs false false is starts_is on later = rw is later

before-kept : {T : Type 0} (keep starts : T → Bool) → Keeps keep starts → (xs : List T) → before_start starts (filter keep xs) ≡ filter keep (before_start starts xs)
before-kept keep starts on [] = refl
before-kept keep starts on (x ∷ xs) = before-one keep starts x xs (keep x) (starts x) refl refl on (before-kept keep starts on xs)

cuts-one : {T : Type 0} (keep starts : T → Bool) (x : T) (xs : List T) (kept start : Bool) → keep x ≡ kept → starts x ≡ start → Keeps keep starts → cuts starts (filter keep xs) ≡ map (kept_of keep) (cuts starts xs) →
    cuts starts (cond kept (x ∷ filter keep xs) (filter keep xs)) ≡ map (kept_of keep) (cond start (record { start = x; after = before_start starts xs } ∷ cuts starts xs) (cuts starts xs))
cuts-one keep starts x xs true true is starts_is on later = rw (starts_is, before-kept keep starts on xs) (ap (λ l. record { start = x; after = filter keep (before_start starts xs) } ∷ l) later)
cuts-one keep starts x xs true false is starts_is on later = rw starts_is later
cuts-one keep starts x xs false true is starts_is on later = let clash : true ≡ false = sym starts_is ∙ on x is in cc
cuts-one keep starts x xs false false is starts_is on later = later

-- the cuts of what is kept
pub cuts-kept : {T : Type 0} (keep starts : T → Bool) → Keeps keep starts → (xs : List T) → cuts starts (filter keep xs) ≡ map (kept_of keep) (cuts starts xs)
cuts-kept keep starts on [] = refl
cuts-kept keep starts on (x ∷ xs) = cuts-one keep starts x xs (keep x) (starts x) refl refl on (cuts-kept keep starts on xs)

-- a frame without data is no start, and reassembly passes over it
pub no-start : (meaning : Meaning) → is_data meaning ≡ false → is_start false meaning ≡ false
no-start (SingleFrame bytes) is = cc
no-start (FirstFrame len bytes) is = cc
no-start (ConsecutiveFrame number bytes) is = refl
no-start (FlowControl status block_size separation) is = refl
no-start (NoUnit why) is = refl

look-passed : (address : ℕ) (walk : Walk) (frame : Seen) (meaning : Meaning) → frame.meaning ≡ meaning → is_data meaning ≡ false → look address walk frame ≡ walk
look-passed address walk frame (SingleFrame bytes) at is = cc
look-passed address walk frame (FirstFrame len bytes) at is = cc
look-passed address walk frame (ConsecutiveFrame number bytes) at is = cc
look-passed address walk frame (FlowControl status block_size separation) at is = rw at refl
look-passed address walk frame (NoUnit why) at is = rw at refl

looks-one : (address : ℕ) (walk : Walk) (x : Seen) (xs : List Seen) (kept : Bool) → is_data x.meaning ≡ kept → ((w : Walk) → fold (look address) w (filter carries xs) ≡ fold (look address) w xs) →
    fold (look address) walk (cond kept (x ∷ filter carries xs) (filter carries xs)) ≡ fold (look address) (look address walk x) xs
looks-one address walk x xs true is later = later (look address walk x)
looks-one address walk x xs false is later = later walk ∙ ap (λ (w : Walk). fold (look address) w xs) (sym (look-passed address walk x x.meaning refl is))

looks-kept : (address : ℕ) (walk : Walk) (frames : List Seen) → fold (look address) walk (filter carries frames) ≡ fold (look address) walk frames
looks-kept address walk [] = refl
looks-kept address walk (x ∷ xs) = looks-one address walk x xs (is_data x.meaning) refl (λ w. looks-kept address w xs)

pub walk-kept : (address : ℕ) (cut : Cut Seen) → walk_of address (kept_of carries cut) ≡ walk_of address cut
walk-kept address cut = looks-kept address (begun cut.start) cut.after

pub zip-mapped : {A B C : Type 0} (f : A → B) (P : B → C → Type 0) (Q : A → C → Type 0) (xs : List A) (ys : List C) → ((x : A) (y : C) → P (f x) y → Q x y) → AllZip P (map f xs) ys → AllZip Q xs ys
zip-mapped f P Q [] [] on all = tt
zip-mapped f P Q [] (y ∷ ys) on all = absurd all
zip-mapped f P Q (x ∷ xs) [] on all = absurd all
zip-mapped f P Q (x ∷ xs) (y ∷ ys) on all = (on x y all.0, zip-mapped f P Q xs ys on all.1)

-- what holds of the attempts in the data frames holds of the attempts in all frames
pub attempts-kept : (frames : List Seen) → attempts_in false (filter carries frames) ≡ map (kept_of carries) (attempts_in false frames)
attempts-kept frames = cuts-kept carries (λ (s : Seen). is_start false s.meaning) (λ s none. no-start s.meaning none) frames

pub zip-kept : {B : Type 0} (P Q : Cut Seen → B → Type 0) (frames kept : List Seen) (ys : List B) → ((cut : Cut Seen) (y : B) → P (kept_of carries cut) y → Q cut y) → filter carries frames ≡ kept → AllZip P (attempts_in false kept) ys → AllZip Q (attempts_in false frames) ys
zip-kept {B = B} P Q frames kept ys on is all =
    let Z : List (Cut Seen) → Type 0 = λ l. AllZip P l ys in
    zip-mapped (kept_of carries) P Q (attempts_in false frames) ys on (subst Z (ap (attempts_in false) (sym is) ∙ attempts-kept frames) all)
