-- What a deed adds to a queue's past.
use Rattle.std.specs.Prelude.{◌≡◌, ℕ}
use mathlib.Core.Option.{some}
use Rattle.atomic_table.specs.Table.{Me, Step}
use Rattle.if_core.specs.Lane.{Lane, offered, took}
use Rattle.if_core.specs.declared.history.Deed.{Deed}
use Rattle.if_core.specs.declared.history.Deed.TheVariants.{Offered, Took}
use Rattle.if_core.specs.declared.history.Past.{Past}

-- what a past tells
abbrev pub lane_of : Past → Lane
lane_of past = record { offers = past.offers; takes = past.takes }

abbrev pub done_to : Deed → Lane → Lane
done_to (Offered unit answer) lane = offered unit answer lane
done_to (Took position unit) lane = took position unit lane

-- what the step that notes a deed leaves: the deed that it announces is added
abbrev pub IsNoted : Step Deed → Me Deed Past → ℕ → Me Deed Past → Type 0
IsNoted step before found after =
    (deed : Deed) → step.said ≡ some deed → lane_of after.0 ≡ done_to deed (lane_of before.0)
