-- A protocol unit as contracts see it.
use Rattle.std.specs.Prelude.{ℕ, List}
use Rattle.tp_unit.specs.declared.box_act.BoxAct.{BoxAct}
use Rattle.tp_unit.specs.declared.box_act.BoxAct.TheVariants.{Keep, Offer, Revoke}
use Rattle.tp_unit.specs.declared.unit.Unit.{Unit as ProtocolUnit}
use Rattle.tp_unit.specs.declared.unit.Unit.TheVariants.{Sf, Ff, Cf, Fc, Ignored}
use Rattle.tp_unit.specs.declared.unit.Why.{Why}

-- what a frame says, its bytes as a list
pub data Meaning : Type 0 where
  SingleFrame : (bytes : List ℕ) → Meaning
  FirstFrame : (len : ℕ) → (bytes : List ℕ) → Meaning
  ConsecutiveFrame : (number : ℕ) → (bytes : List ℕ) → Meaning
  FlowControl : (status : ℕ) → (block_size : ℕ) → (separation : ℕ) → Meaning
  NoUnit : (why : Why) → Meaning

-- what a unit says
abbrev pub meaning_of : ProtocolUnit → Meaning
meaning_of (Sf bytes) = SingleFrame bytes.items
meaning_of (Ff len bytes) = FirstFrame len bytes.items
meaning_of (Cf sn bytes) = ConsecutiveFrame sn bytes.items
meaning_of (Fc fs bs st) = FlowControl fs bs st
meaning_of (Ignored why) = NoUnit why

-- what is done with a box
pub data BoxMeaning : Type 0 where
  Keeps : BoxMeaning
  Offers : (meaning : Meaning) → BoxMeaning
  Revokes : BoxMeaning

-- what an act does with its box
abbrev pub box_meaning_of : BoxAct → BoxMeaning
box_meaning_of Keep = Keeps
box_meaning_of (Offer unit) = Offers (meaning_of unit)
box_meaning_of Revoke = Revokes
