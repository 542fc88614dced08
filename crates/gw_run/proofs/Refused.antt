-- A text is a configuration in one way: it is accepted, or refused for one cause.
use Rattle.std.proofs.Common.{◌≡◌, ℕ, ◌<◌, List, [], ◌∷◌, get_or, length, subst, arith, Option, None, Some, option_map, refl, sym, ◌∙◌, ap, inl, inr}
use Rattle.std.proofs.lemmas.Bool.{cases_order}
use Rattle.gw_config.specs.Config.{Configuration}
use Rattle.gw_config.specs.Document.{HasFault, Spells}
use Rattle.gw_depot.specs.Files.{Files}
use Rattle.gw_settings.specs.declared.fault.ConfigFault.{ConfigFault}
use Rattle.route_check.specs.declared.conflict.Conflict.{Conflict}
use Rattle.route_check.specs.declared.conflict.ConflictKind.{ConflictKind}
use Rattle.route_check.specs.declared.conflict.ConflictKind.TheVariants.{UnknownName, SameAddress, SharedSender, SelfRoute, MixedLength, FunctionalSend, IfOverlap, NoBuffer, BadCancel}
use Rattle.route_check.specs.declared.conflict.Place.{Place}
use Rattle.route_check.specs.declared.conflict.Place.TheVariants.{Bus, Channel, Path, Interface, Cancel}
use Rattle.route_check.specs.Conflicts.{IsAccepted, IsFirstConflict}
use Rattle.route_check.specs.Order.{IsBefore, IsBelowOr, kind_rank, place_rank}
use Rattle.gw_run.specs.declared.status.ConfigCause.{ConfigCause}
use Rattle.gw_run.specs.declared.status.ConfigCause.TheVariants.{Fault, Conflict as Contradiction}
use Rattle.gw_run.specs.Config.{HoldsText, IsRefusedFor, ReadsConfig, SpellsAccepted, files_repeat}
use Rattle.gw_run.specs.Whole.{IsTooLong}
use Rattle.gw_base.proofs.Lists.{same-some}

-- ---- the first conflict is one

abbrev kind_at : ℕ → ConflictKind
kind_at rank = get_or (UnknownName ∷ SameAddress ∷ SharedSender ∷ SelfRoute ∷ MixedLength ∷ FunctionalSend ∷ IfOverlap ∷ NoBuffer ∷ []) rank BadCancel

kind_at-rank : (kind : ConflictKind) → kind_at (kind_rank kind) ≡ kind
kind_at-rank UnknownName = refl
kind_at-rank SameAddress = refl
kind_at-rank SharedSender = refl
kind_at-rank SelfRoute = refl
kind_at-rank MixedLength = refl
kind_at-rank FunctionalSend = refl
kind_at-rank IfOverlap = refl
kind_at-rank NoBuffer = refl
kind_at-rank BadCancel = refl

abbrev place_at : ℕ → Place
place_at rank = get_or (Bus ∷ Channel ∷ Path ∷ Interface ∷ []) rank Cancel

place_at-rank : (place : Place) → place_at (place_rank place) ≡ place
place_at-rank Bus = refl
place_at-rank Channel = refl
place_at-rank Path = refl
place_at-rank Interface = refl
place_at-rank Cancel = refl

not_apart : (m n : ℕ) → (m < n → ⊥) → (n < m → ⊥) → m ≡ n
not_apart m n above below =
    elim (cases_order m n) [ inl equal ↦ equal | inr rest ↦ elim rest [ inl less ↦ absurd (above less) | inr more ↦ absurd (below more) ] ]

-- where neither is before the other, the numbers are equal and neither is before by what follows them
level : (m n : ℕ) (F G : Type 0) → (IsBelowOr m n F → ⊥) → (IsBelowOr n m G → ⊥) → (m ≡ n) × (F → ⊥) × (G → ⊥)
level m n F G above below =
    let same : m ≡ n = not_apart m n (λ less. above (inl less)) (λ more. below (inl more)) in
    (same, λ follows. above (inr (same, follows)), λ follows. below (inr (sym same, follows)))

conflict_of : ConflictKind → Place → ℕ → Place → ℕ → Conflict
conflict_of kind place first other second = record { kind = kind; place = place; first = first; other = other; second = second }

conflict_of-fields : (a : Conflict) → conflict_of a.kind a.place a.first a.other a.second ≡ a
unfolding conflict_of
conflict_of-fields a = refl

kind-once : (a b : ConflictKind) → kind_rank a ≡ kind_rank b → a ≡ b
kind-once a b same = sym (kind_at-rank a) ∙ ap kind_at same ∙ kind_at-rank b

place-once : (a b : Place) → place_rank a ≡ place_rank b → a ≡ b
place-once a b same = sym (place_at-rank a) ∙ ap place_at same ∙ place_at-rank b

same_conflict : (a b : Conflict) → a.kind ≡ b.kind → a.place ≡ b.place → a.first ≡ b.first → a.other ≡ b.other → a.second ≡ b.second → a ≡ b
same_conflict a b kind place first other second =
    let one = conflict_of-fields a in
    let two = conflict_of-fields b in
    cc

neither_before : (a b : Conflict) → (IsBefore a b → ⊥) → (IsBefore b a → ⊥) → a ≡ b
neither_before a b above below =
    let kinds = level (kind_rank a.kind) (kind_rank b.kind) _ _ above below in
    let places = level (place_rank a.place) (place_rank b.place) _ _ kinds.1 kinds.2 in
    let firsts = level a.first b.first _ _ places.1 places.2 in
    let others = level (place_rank a.other) (place_rank b.other) _ _ firsts.1 firsts.2 in
    same_conflict a b (kind-once a.kind b.kind kinds.0) (place-once a.place b.place places.0) firsts.0 (place-once a.other b.other others.0) (not_apart a.second b.second others.1 others.2)

first-once : (config : Configuration) (a b : Conflict) → IsFirstConflict config a → IsFirstConflict config b → a ≡ b
first-once config a b one other = neither_before a b (other.first a one.holds) (one.first b other.holds)

-- ---- the tree of a text is one

not_some : {A B : Type 0} (f : A → B) (o : Option A) (b : B) → o ≡ None → option_map f o ≡ Some b → ⊥
not_some f o b none some = let clash = rw none at some in cc

spelled-once : (text : List ℕ) (some other : Configuration) → Spells text some → Spells text other → some ≡ other
spelled-once text some other (root, is, reads) (root', is', reads') =
    let same : root ≡ root' = same-some is.tree is'.tree in cc

fault-or_spelled : (text : List ℕ) (fault : ConfigFault) (c : Configuration) → HasFault text fault → Spells text c → ⊥
fault-or_spelled text fault c (inl (is, not)) (root, spells, reads) = not_some _ _ root (not spells.utf8) spells.tree
fault-or_spelled text fault c (inr (root, is, faults)) (root', is', reads) =
    let same : root ≡ root' = same-some is.tree is'.tree in cc

fault-once : (text : List ℕ) (one other : ConfigFault) → HasFault text one → HasFault text other → one ≡ other
fault-once text one other (inl (is, not)) (inl (is', not')) = cc
fault-once text one other (inl (is, not)) (inr (root, is', faults)) = absurd (not_some _ _ root (not is'.utf8) is'.tree)
fault-once text one other (inr (root, is, faults)) (inl (is', not)) = absurd (not_some _ _ root (not is.utf8) is.tree)
fault-once text one other (inr (root, is, faults)) (inr (root', is', faults')) =
    let same : root ≡ root' = same-some is.tree is'.tree in cc

-- ---- a configuration's file is one that is accepted, or is refused for one cause, or is too long

pub data ConfigEnd : Type 0 where
  Good : Configuration → ConfigEnd
  Bad : ConfigCause → ConfigEnd
  Long : ConfigEnd

-- what a spelled configuration comes to
abbrev Comes : (config : List ℕ) → (report : Option (List ℕ)) → Configuration → ConfigEnd → Type 0
Comes config report c (Good d) = (c ≡ d) × (files_repeat config report c ≡ None) × IsAccepted c
Comes config report c (Bad (Fault fault)) = files_repeat config report c ≡ Some fault
Comes config report c (Bad (Contradiction conflict)) = (files_repeat config report c ≡ None) × IsFirstConflict c conflict
Comes config report c Long = ⊥

comes-once : (config : List ℕ) (report : Option (List ℕ)) (c : Configuration) (e f : ConfigEnd) → Comes config report c e → Comes config report c f → e ≡ f
comes-once config report c (Good d) (Good d') (is, none, accepted) (is', none', accepted') = ap Good (sym is ∙ is')
comes-once config report c (Good d) (Bad (Fault fault)) (is, none, accepted) some = let clash : None ≡ Some fault = sym none ∙ some in cc
comes-once config report c (Good d) (Bad (Contradiction conflict)) (is, none, accepted) (none', first) = absurd (accepted conflict first.holds)
comes-once config report c (Good d) Long one other = absurd other
comes-once config report c (Bad (Fault fault)) (Good d) some (is, none, accepted) = let clash : None ≡ Some fault = sym none ∙ some in cc
comes-once config report c (Bad (Fault fault)) (Bad (Fault fault')) some some' = let same : Some fault ≡ Some fault' = sym some ∙ some' in cc
comes-once config report c (Bad (Fault fault)) (Bad (Contradiction conflict)) some (none, first) = let clash : None ≡ Some fault = sym none ∙ some in cc
comes-once config report c (Bad (Fault fault)) Long one other = absurd other
comes-once config report c (Bad (Contradiction conflict)) (Good d) (none, first) (is, none', accepted) = absurd (accepted conflict first.holds)
comes-once config report c (Bad (Contradiction conflict)) (Bad (Fault fault)) (none, first) some = let clash : None ≡ Some fault = sym none ∙ some in cc
comes-once config report c (Bad (Contradiction conflict)) (Bad (Contradiction conflict')) (none, first) (none', first') = ap (λ d. Bad (Contradiction d)) (first-once c conflict conflict' first first')
comes-once config report c (Bad (Contradiction conflict)) Long one other = absurd other
comes-once config report c Long f one other = absurd one

-- what a text is
pub data TextIs (config : List ℕ) (report : Option (List ℕ)) (text : List ℕ) (e : ConfigEnd) : Type 0 where
  Faulty : (fault : ConfigFault) → e ≡ Bad (Fault fault) → HasFault text fault → TextIs config report text e
  Spelled : (c : Configuration) → Spells text c → Comes config report c e → TextIs config report text e

text-once : (config : List ℕ) (report : Option (List ℕ)) (text : List ℕ) (e f : ConfigEnd) → TextIs config report text e → TextIs config report text f → e ≡ f
text-once config report text e f (Faulty fault is has) (Faulty fault' is' has') = is ∙ ap (λ x. Bad (Fault x)) (fault-once text fault fault' has has') ∙ sym is'
text-once config report text e f (Faulty fault is has) (Spelled c spells comes) = absurd (fault-or_spelled text fault c has spells)
text-once config report text e f (Spelled c spells comes) (Faulty fault is has) = absurd (fault-or_spelled text fault c has spells)
text-once config report text e f (Spelled c spells comes) (Spelled c' spells' comes') =
    comes-once config report c' e f (subst (λ x. Comes config report x e) (spelled-once text c c' spells spells') comes) comes'

text-bad : (config : List ℕ) (report : Option (List ℕ)) (text : List ℕ) (cause : ConfigCause) → IsRefusedFor config report cause text → TextIs config report text (Bad cause)
text-bad config report text (Fault fault) (inl has) = Faulty fault refl has
text-bad config report text (Fault fault) (inr repeats) = Spelled repeats.c repeats.spells repeats.repeats
text-bad config report text (Contradiction conflict) first = Spelled first.c first.spells (first.apart, first.first)

text-good : (config : List ℕ) (report : Option (List ℕ)) (text : List ℕ) (c : Configuration) → SpellsAccepted config report text c → TextIs config report text (Good c)
text-good config report text c good = Spelled c good.spells (refl, good.apart, good.accepted)

abbrev pub ConfigIs : Files → (config : List ℕ) → (report : Option (List ℕ)) → ConfigEnd → Type 0
ConfigIs before config report (Good c) = ReadsConfig before config report c
ConfigIs before config report (Bad cause) = HoldsText before config (IsRefusedFor config report cause)
ConfigIs before config report Long = IsTooLong before config 65_536

-- a file within the limit is not beyond it
short-or_long : (before : Files) (config : List ℕ) (P : List ℕ → Type 0) → HoldsText before config P → IsTooLong before config 65_536 → ⊥
short-or_long before config P (text, holds, is) long =
    let same : length text ≡ length long.bytes = ap length (same-some holds.there long.there) in
    omega (arith, same, holds.short, long.long)

-- a file within the limit has one text
held-once : (before : Files) (config : List ℕ) (report : Option (List ℕ)) (e f : ConfigEnd) → HoldsText before config (λ text. TextIs config report text e) → HoldsText before config (λ text. TextIs config report text f) → e ≡ f
held-once before config report e f (text, holds, is) (text', holds', is') =
    text-once config report text' e f (subst (λ t. TextIs config report t e) (same-some holds.there holds'.there) is) is'

held-good : (before : Files) (config : List ℕ) (report : Option (List ℕ)) (c : Configuration) → ReadsConfig before config report c → HoldsText before config (λ text. TextIs config report text (Good c))
held-good before config report c (text, holds, good) = (text, holds, text-good config report text c good)

held-bad : (before : Files) (config : List ℕ) (report : Option (List ℕ)) (cause : ConfigCause) → HoldsText before config (IsRefusedFor config report cause) → HoldsText before config (λ text. TextIs config report text (Bad cause))
held-bad before config report cause (text, holds, bad) = (text, holds, text-bad config report text cause bad)

pub config-once : (before : Files) (config : List ℕ) (report : Option (List ℕ)) (e f : ConfigEnd) → ConfigIs before config report e → ConfigIs before config report f → e ≡ f
config-once before config report (Good c) (Good d) one other = held-once before config report (Good c) (Good d) (held-good before config report c one) (held-good before config report d other)
config-once before config report (Good c) (Bad cause) one other = held-once before config report (Good c) (Bad cause) (held-good before config report c one) (held-bad before config report cause other)
config-once before config report (Good c) Long one other = absurd (short-or_long before config _ one other)
config-once before config report (Bad cause) (Good d) one other = held-once before config report (Bad cause) (Good d) (held-bad before config report cause one) (held-good before config report d other)
config-once before config report (Bad cause) (Bad cause') one other = held-once before config report (Bad cause) (Bad cause') (held-bad before config report cause one) (held-bad before config report cause' other)
config-once before config report (Bad cause) Long one other = absurd (short-or_long before config _ one other)
config-once before config report Long (Good d) one other = absurd (short-or_long before config _ other one)
config-once before config report Long (Bad cause) one other = absurd (short-or_long before config _ other one)
config-once before config report Long Long one other = refl
