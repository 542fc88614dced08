-- The block sizes that are granted are configured ones, and a message needs the cells of its start.
use Rattle.std.proofs.Common.{◌≡◌, ℕ, ◌-◌, ◌≤◌, Bool, true, false, inl, inr, arith, subst}
use Rattle.std.proofs.Math.Nat.{le-max_left, min-le_right}
use Rattle.std.proofs.lemmas.Bool.Decides.{eqb_tells}
use Rattle.flow_plan.specs.Cells.{cells_for, cells_left}
use Rattle.flow_plan.specs.Grant.{granted_of, with_room}
use Rattle.flow_plan.specs.Need.{needed}
use Rattle.flow_plan.specs.declared.block.Grant.{Grant}
use Rattle.flow_plan.specs.declared.block.Grant.TheVariants.{All, Block, Wait}
use Rattle.tp_receiver.specs.Effects.{IsBlock}
use Rattle.tp_receiver.specs.Grant.{frames_for, full_part, grant_in}
use Rattle.tp_receiver.specs.State.{Reception}
use Rattle.tp_receiver.specs.declared.set.RxSet.{RxSet}

-- all frames are let come only where no limit is set, and else a block of a configured size
abbrev pub KeepsToLimit : RxSet → Grant → Type 0
KeepsToLimit set All = set.bs ≡ 0
KeepsToLimit set (Block frames) = IsBlock set frames
KeepsToLimit set Wait = Unit {0}

keeps : (set : RxSet) (frames left : ℕ) → KeepsToLimit set (granted_of set.bs frames left)
keeps set frames left = elim (eqb_tells set.bs 0) [
  | inl free ↦ elim (eqb_tells frames left) [
    | inl all ↦ rw (free.0, all.0) free.1
    | inr fewer ↦ elim (eqb_tells frames 0) [
      | inl none ↦ rw (free.0, fewer.0, none.0) tt
      | inr some ↦ rw (free.0, fewer.0, some.0) (record { most = rw free.0 (min-le_right frames 255); some = λ below. absurd (omega (arith, below, free.1)) })
    ]
  ]
  | inr limit ↦ elim (eqb_tells frames 0) [
    | inl none ↦ rw (limit.0, none.0) tt
    | inr some ↦ rw (limit.0, some.0) (record { most = rw limit.0 (min-le_right frames set.bs); some = λ below. omega (arith, below, some.1) })
  ]
]

pub keeps-to-limit : (set : RxSet) (busy : Reception) (room : ℕ) (grant : Grant) → grant_in set busy room ≡ grant → KeepsToLimit set grant
keeps-to-limit set busy room grant is =
    let part : ℕ = full_part set.a busy.size in
    let left : ℕ = busy.len - busy.bytes in
    subst (KeepsToLimit set) is (keeps set (with_room room (cells_for part) (cells_left part left) (frames_for part left)) (frames_for part left))

-- the start's cells fit where the message's need does
pub start-fits : (first whole threshold per_cf : ℕ) (store : Bool) → first ≤ whole → first ≤ needed first whole threshold per_cf store
start-fits first whole threshold per_cf true le = le
start-fits first whole threshold per_cf false le = le-max_left first _
