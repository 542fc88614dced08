-- What a lawful configuration doesn't repeat: names, outputs, and inputs as outputs.
use Rattle.std.proofs.Common.{◌≡◌, ◌≢◌, ℕ, zero, suc, ◌+◌, ◌<◌, Bool, true, false, if◌then◌else◌, Option, Some, None, List, [], ◌∷◌, ◌++◌, inl, inr, refl, sym, ap, ◌∙◌, arith}
use Rattle.std.specs.Prelude.{slice_get, option_map}
use Rattle.std.specs.List.{list_any}
use Rattle.std.specs.Option.{option_or}
use Rattle.std.specs.Str.{bytes_eq}
use Rattle.std.proofs.lemmas.Bool.{both_ways, cases_order, or_left, or_right}
use Rattle.std.proofs.lemmas.List.Folds.{list_any-append}
use Rattle.std.proofs.lemmas.Option.{same_Some}
use Rattle.gw_config.specs.Config.{BusEntry, ChannelEntry, Configuration}
use Rattle.gw_config.specs.Repeated.{bus_repeats, first_repeat, is_used, name_repeats, repeated_in}
use Rattle.gw_settings.specs.declared.key.Key.{Key}
use Rattle.gw_settings.specs.declared.key.Key.TheVariants.{Name, Out}
use Rattle.gw_settings.specs.declared.table_kind.TableKind.{TableKind}
use Rattle.gw_settings.specs.declared.table_kind.TableKind.TheVariants.{Bus, Channel}
use Rattle.gw_setup.proofs.ConfigLemmas.{text_same}
use Rattle.gw_setup.proofs.PlaceLemmas.{any_at}

none_of : {A : Type 0} (one other : Option A) → option_or one other ≡ None → (one ≡ None) × (other ≡ None)
none_of None other is = (refl, is)
none_of (Some x) other is = let clash : Some x ≡ None = is in cc

no_key : {A B : Type 0} (f : A → B) (o : Option A) → option_map f o ≡ None → o ≡ None
no_key f None is = refl
no_key f (Some x) is = let clash : Some (f x) ≡ None = is in cc

module _ {E : Type 0} (text_of : E → List ℕ) (repeats : List E → E → Option Key) (says : (earlier : List E) (entry : E) → repeats earlier entry ≡ None → is_used text_of earlier (text_of entry) ≡ false) (table : TableKind) where
  -- no later entry has a text that is used
  unused : (index : ℕ) (earlier entries : List E) (text : List ℕ) → first_repeat repeats table index earlier entries ≡ None → is_used text_of earlier text ≡ true →
      (k : ℕ) (x : E) → slice_get entries k ≡ Some x → text_of x ≢ text
  unused index earlier [] text none used k x there same = cc
  unused index earlier (e ∷ es) text none used zero x there same =
      let one : e ≡ x = same_Some e x there in
      let free : is_used text_of earlier (text_of e) ≡ false = says earlier e (no_key _ _ (none_of _ _ none).0) in
      both_ways (is_used text_of earlier text) (rw (← same, ← one) free) used
  unused index earlier (e ∷ es) text none used (suc k) x there same =
      unused (index + 1) (earlier ++ e ∷ []) es text (none_of _ _ none).1
      (list_any-append (λ other. bytes_eq (text_of other) text) earlier (e ∷ []) ∙ or_left (list_any (λ other. bytes_eq (text_of other) text) earlier) (list_any (λ other. bytes_eq (text_of other) text) (e ∷ [])) used)
      k x there same

  pub texts_apart : (index : ℕ) (earlier entries : List E) → first_repeat repeats table index earlier entries ≡ None →
      (j k : ℕ) (y x : E) → j < k → slice_get entries j ≡ Some y → slice_get entries k ≡ Some x → text_of y ≢ text_of x
  texts_apart index earlier [] none j k y x before there here same = cc
  texts_apart index earlier (e ∷ es) none j zero y x before there here same = absurd (omega (arith, before))
  texts_apart index earlier (e ∷ es) none zero (suc k) y x before there here same =
      let one : e ≡ y = same_Some e y there in
      unused (index + 1) (earlier ++ e ∷ []) es (text_of e) (none_of _ _ none).1
      (list_any-append (λ other. bytes_eq (text_of other) (text_of e)) earlier (e ∷ [])
      ∙ or_right (list_any (λ other. bytes_eq (text_of other) (text_of e)) earlier) (list_any (λ other. bytes_eq (text_of other) (text_of e)) (e ∷ []))
      (any_at (λ other. bytes_eq (text_of other) (text_of e)) (e ∷ []) 0 e refl (text_same (text_of e) (text_of e) refl)))
      k x here (sym same ∙ ap text_of (sym one))
  texts_apart index earlier (e ∷ es) none (suc j) (suc k) y x before there here same =
      texts_apart (index + 1) (earlier ++ e ∷ []) es (none_of _ _ none).1 j k y x (omega (arith, before)) there here same

-- each entry repeats nothing of those before it
each_none : {E : Type 0} (repeats : List E → E → Option Key) (table : TableKind) (index : ℕ) (earlier entries : List E) → first_repeat repeats table index earlier entries ≡ None →
    (k : ℕ) (x : E) → slice_get entries k ≡ Some x → (l : List E) × (repeats l x ≡ None)
each_none repeats table index earlier [] none k x there = cc
each_none repeats table index earlier (e ∷ es) none zero x there =
    let one : e ≡ x = same_Some e x there in
    (earlier, rw (← one) (no_key _ _ (none_of _ _ none).0))
each_none repeats table index earlier (e ∷ es) none (suc k) x there = each_none repeats table (index + 1) (earlier ++ e ∷ []) es (none_of _ _ none).1 k x there

no_first : {A : Type 0} (a : Bool) (x : A) → (if a then Some x else None) ≡ None → a ≡ false
no_first true x is = let clash : Some x ≡ None = is in cc
no_first false x is = refl

no_three : {A : Type 0} (a b c : Bool) (x y z : A) → (if a then Some x else if b then Some y else if c then Some z else None) ≡ None → (a ≡ false) × (b ≡ false) × (c ≡ false)
no_three true b c x y z is = let clash : Some x ≡ None = is in cc
no_three false true c x y z is = let clash : Some y ≡ None = is in cc
no_three false false true x y z is = let clash : Some z ≡ None = is in cc
no_three false false false x y z is = (refl, refl, refl)

bus_free : (all earlier : List BusEntry) (entry : BusEntry) → bus_repeats all earlier entry ≡ None →
    (is_used (λ (b : BusEntry). b.name) earlier entry.name ≡ false) × (is_used (λ (b : BusEntry). b.out) earlier entry.out ≡ false) × (is_used (λ (b : BusEntry). b.log) all entry.out ≡ false)
bus_free all earlier entry none =
    no_three (is_used (λ (b : BusEntry). b.name) earlier entry.name) (is_used (λ (b : BusEntry). b.out) earlier entry.out) (is_used (λ (b : BusEntry). b.log) all entry.out) Name Out Out none

module _ (config : Configuration) (none : repeated_in config ≡ None) where
  no_bus : first_repeat (bus_repeats config.bus) Bus 0 [] config.bus ≡ None
  no_bus = (none_of _ _ none).0

  no_channel : first_repeat (name_repeats (λ (c : ChannelEntry). c.name)) Channel 0 [] config.channel ≡ None
  no_channel = (none_of _ _ (none_of _ _ none).1).0

  pub bus_names_apart : (j k : ℕ) (one other : BusEntry) → j < k → slice_get config.bus j ≡ Some one → slice_get config.bus k ≡ Some other → one.name ≢ other.name
  bus_names_apart = texts_apart (λ (b : BusEntry). b.name) (bus_repeats config.bus) (λ earlier entry is. (bus_free config.bus earlier entry is).0) Bus 0 [] config.bus no_bus

  pub outputs_apart : (j k : ℕ) (one other : BusEntry) → j < k → slice_get config.bus j ≡ Some one → slice_get config.bus k ≡ Some other → one.out ≢ other.out
  outputs_apart = texts_apart (λ (b : BusEntry). b.out) (bus_repeats config.bus) (λ earlier entry is. (bus_free config.bus earlier entry is).1) Bus 0 [] config.bus no_bus

  pub inputs_kept : (j k : ℕ) (one other : BusEntry) → slice_get config.bus j ≡ Some one → slice_get config.bus k ≡ Some other → one.out ≢ other.log
  inputs_kept j k one other there here same =
      let free = each_none (bus_repeats config.bus) Bus 0 [] config.bus no_bus j one there in
      both_ways (is_used (λ (b : BusEntry). b.log) config.bus one.out) (bus_free config.bus free.0 one free.1).2
      (any_at (λ (b : BusEntry). bytes_eq b.log one.out) config.bus k other here (text_same other.log one.out (sym same)))

  channel_names_apart : (j k : ℕ) (one other : ChannelEntry) → j < k → slice_get config.channel j ≡ Some one → slice_get config.channel k ≡ Some other → one.name ≢ other.name
  channel_names_apart = texts_apart (λ (c : ChannelEntry). c.name) (name_repeats (λ (c : ChannelEntry). c.name))
      (λ earlier entry is. no_first (is_used (λ (c : ChannelEntry). c.name) earlier entry.name) Name is) Channel 0 [] config.channel no_channel

  -- so two of one name are one
  pub bus_once : (j k : ℕ) (one other : BusEntry) → slice_get config.bus j ≡ Some one → slice_get config.bus k ≡ Some other → one.name ≡ other.name → j ≡ k
  bus_once j k one other there here same = elim (cases_order j k) [
    | inl is ↦ is
    | inr rest ↦ elim rest [ inl before ↦ absurd (bus_names_apart j k one other before there here same) | inr after ↦ absurd (bus_names_apart k j other one after here there (sym same)) ]
  ]

  pub channel_once : (j k : ℕ) (one other : ChannelEntry) → slice_get config.channel j ≡ Some one → slice_get config.channel k ≡ Some other → one.name ≡ other.name → j ≡ k
  channel_once j k one other there here same = elim (cases_order j k) [
    | inl is ↦ is
    | inr rest ↦ elim rest [ inl before ↦ absurd (channel_names_apart j k one other before there here same) | inr after ↦ absurd (channel_names_apart k j other one after here there (sym same)) ]
  ]
