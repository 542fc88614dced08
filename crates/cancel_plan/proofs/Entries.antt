-- The cancellations of a bus among those of a tick.
use Rattle.std.proofs.Common.{◌≡◌, ℕ, List, [], ◌∷◌, filter, slice_get, inl, inr, refl, ap, ◌∙◌}
use Rattle.std.proofs.lemmas.Bool.{cases_Bool}
use Rattle.cancel_plan.specs.declared.entry.CancelEntry.{CancelEntry}
use Rattle.cancel_plan.specs.Plan.{due_entries, is_in, is_on}

-- of a tick's cancellations those of a bus are those of the bus and tick
pub of_bus : (entries : List CancelEntry) (bus tick : ℕ) → filter (is_on bus) (filter (is_in tick) entries) ≡ due_entries entries bus tick
of_bus [] bus tick = refl
of_bus (entry ∷ entries) bus tick = elim (cases_Bool (is_in tick entry)) [
  | inl in_it ↦ elim (cases_Bool (is_on bus entry)) [
    | inl on_it ↦ rw (in_it, on_it) (ap (λ (es : List CancelEntry). entry ∷ es) (of_bus entries bus tick))
    | inr off ↦ rw (in_it, off) (of_bus entries bus tick)
  ]
  | inr out ↦ rw out (of_bus entries bus tick)
]

-- the same of one of them
pub due_at : (entries there : List CancelEntry) (bus tick at : ℕ) → there ≡ filter (is_in tick) entries →
    slice_get (filter (is_on bus) there) at ≡ slice_get (due_entries entries bus tick) at
due_at entries there bus tick at is =
    ap (λ (es : List CancelEntry). slice_get (filter (is_on bus) es) at) is ∙ ap (λ (es : List CancelEntry). slice_get es at) (of_bus entries bus tick)
