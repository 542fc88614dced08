use Rattle.std.proofs.Common.{ap, arith, refl, sym, subst, ◌∙◌}
use Rattle.hub_core.specs.Floors.{floors_of}
use Rattle.hub_shared.proofs.Histories.{goes-kept, goes-given}
use Rattle.hub_shared.proofs.Hubs.{words-there}
use Rattle.hub_shared.proofs.Seats.{divides}
use Rattle.hub_shared.proofs.Steps.{announces}
use Rattle.hub_shared.proofs.hub.SharedHub.split.Goals as goal
use Rattle.hub_shared.specs.History.{IsWhole, state_of}
use Rattle.hub_shared.specs.Sights.{kept_sight, given_sight, floors_at, view_of}

pub compare_exchange_with-requires : goal.compare_exchange_with-requires
compare_exchange_with-requires c = (c.requires.seat.of, words-there c.args.self.now, announces _ _ _ _ _ c.args.part.now c.args.seat.now.live)

pub split_seat-other-requires : goal.split_seat-other-requires
split_seat-other-requires c =
    let told = c.compare_exchange_with.ensures.2 c.args.part.now refl in (
      c.compare_exchange_with.ensures.0 ∙ c.requires.seat.of,
      words-there c.args.self.now,
      divides _ _ _ c.args.part.now (ap (λ m. m.0.hand) told) (omega (arith, c.requires.parts, ap (λ m. m.0.parts) told)) (omega (arith, c.requires.takes, ap (λ m. m.0.takes) told)),
    )

pub invariant_of-seat : goal.invariant_of-seat
invariant_of-seat c =
    let told = c.compare_exchange_with.ensures.2 c.args.part.now refl in
    let is = c.split_seat-other.ensures.2 ∙ ap (λ m. (kept_sight m.0, m.1)) told in
    record {
      counted = omega (arith, c.args.seat.now.counted, ap (λ m. m.0.takes) is);
      carries = ap (λ m. m.1) is ∙ c.args.seat.now.carries;
      live = omega (arith, c.requires.parts, ap (λ m. m.0.parts) is);
      idle = ap (λ m. m.0.hand) is;
      whole = subst IsWhole (sym (ap (λ m. m.0.entries) is)) (goes-kept c.args.part.now c.args.seat.now.seat.me.0.entries c.args.seat.now.whole).whole;
    }

pub invariant_of-result : goal.invariant_of-result
invariant_of-result c =
    let told = c.compare_exchange_with.ensures.2 c.args.part.now refl in
    let is = ap (λ m. m.0) c.split_seat-other.ensures.4 ∙ ap (λ m. given_sight m.0) told in
    record {
      counted = sym (ap (λ v. v.takes) is);
      carries = ap (λ m. m.1) c.split_seat-other.ensures.4;
      live = omega (arith, ap (λ v. v.parts) is);
      idle = ap (λ v. v.hand) is;
      whole = subst IsWhole (sym (ap (λ v. v.entries) is)) (goes-given c.args.part.now c.args.seat.now.seat.me.0.entries c.args.seat.now.whole).whole;
    }

pub returns-clause-seats : goal.returns-clause-seats
returns-clause-seats c =
    let told = c.compare_exchange_with.ensures.2 c.args.part.now refl in
    let mine = ap (λ m. m.0) c.split_seat-other.ensures.2 ∙ ap (λ m. kept_sight m.0) told in
    let theirs = ap (λ m. m.0) c.split_seat-other.ensures.4 ∙ ap (λ m. given_sight m.0) told in (
      record { of = c.split_seat-other.ensures.0 ∙ c.compare_exchange_with.ensures.0 ∙ c.requires.seat.of; groups_are = ap (λ v. v.groups) mine ∙ c.requires.seat.groups_are },
      record { of = c.split_seat-other.ensures.3 ∙ c.compare_exchange_with.ensures.0 ∙ c.requires.seat.of; groups_are = ap (λ v. v.groups) theirs ∙ c.requires.seat.groups_are },
    )

pub returns-clause-kept : goal.returns-clause-kept
returns-clause-kept c =
    let told = c.compare_exchange_with.ensures.2 c.args.part.now refl in
    ap (λ m. view_of m.0) c.split_seat-other.ensures.2 ∙ ap (λ m. view_of (kept_sight m.0)) told ∙ ap (λ s. s.view) (goes-kept c.args.part.now c.args.seat.now.seat.me.0.entries c.args.seat.now.whole).is

pub returns-clause-given : goal.returns-clause-given
returns-clause-given c =
    let told = c.compare_exchange_with.ensures.2 c.args.part.now refl in
    ap (λ m. view_of m.0) c.split_seat-other.ensures.4 ∙ ap (λ m. view_of (given_sight m.0)) told ∙ ap (λ s. s.view) (goes-given c.args.part.now c.args.seat.now.seat.me.0.entries c.args.seat.now.whole).is

pub returns-clause-kept_part : goal.returns-clause-kept_part
returns-clause-kept_part c =
    let told = c.compare_exchange_with.ensures.2 c.args.part.now refl in
    ap (λ m. (state_of m.0.entries).part) c.split_seat-other.ensures.2 ∙ ap (λ m. (state_of (kept_sight m.0).entries).part) told ∙ ap (λ s. s.part) (goes-kept c.args.part.now c.args.seat.now.seat.me.0.entries c.args.seat.now.whole).is

pub returns-clause-given_part : goal.returns-clause-given_part
returns-clause-given_part c =
    let told = c.compare_exchange_with.ensures.2 c.args.part.now refl in
    ap (λ m. (state_of m.0.entries).part) c.split_seat-other.ensures.4 ∙ ap (λ m. (state_of (given_sight m.0).entries).part) told ∙ ap (λ s. s.part) (goes-given c.args.part.now c.args.seat.now.seat.me.0.entries c.args.seat.now.whole).is

pub returns-clause-parts : goal.returns-clause-parts
returns-clause-parts c =
    let told = c.compare_exchange_with.ensures.2 c.args.part.now refl in
    let mine = ap (λ m. m.0.parts) c.split_seat-other.ensures.2 ∙ ap (λ m. (kept_sight m.0).parts) told in
    let theirs = ap (λ m. m.0.parts) c.split_seat-other.ensures.4 ∙ ap (λ m. (given_sight m.0).parts) told in
    (omega (arith, c.requires.parts, mine), theirs)

pub returns-clause-kept_floors : goal.returns-clause-kept_floors
returns-clause-kept_floors c =
    let told = c.compare_exchange_with.ensures.2 c.args.part.now refl in
    ap (λ m. floors_at m.0) c.split_seat-other.ensures.2 ∙ ap (λ m. floors_at (kept_sight m.0)) told ∙ ap (λ g. floors_of g (view_of c.args.seat.now.seat.me.0)) c.requires.seat.groups_are

pub returns-clause-given_floors : goal.returns-clause-given_floors
returns-clause-given_floors c =
    let told = c.compare_exchange_with.ensures.2 c.args.part.now refl in
    ap (λ m. floors_at m.0) c.split_seat-other.ensures.4 ∙ ap (λ m. floors_at (given_sight m.0)) told ∙ ap (λ g. floors_of g (view_of c.args.seat.now.seat.me.0)) c.requires.seat.groups_are
