use Rattle.std.proofs.Common.{◌∙◌, ap, arith, refl, sym, subst}
use Rattle.hub_core.proofs.Growing.{reads-joining}
use Rattle.hub_layout.specs.Places.{Length}
use Rattle.hub_shared.proofs.Histories.{goes-did}
use Rattle.hub_shared.proofs.Hubs.{buffer-words, in-cells, words-there}
use Rattle.hub_shared.proofs.Nexts.{begins-looking, joined-is, looks-there, may-join, missed-is, missed-then}
use Rattle.hub_shared.proofs.Sighted.{rests, seeks}
use Rattle.hub_shared.proofs.hub.SharedHub.next.Goals as goal
use Rattle.hub_core.specs.View.{grow}
use Rattle.hub_shared.specs.History.{IsWhole, state_of}
use Rattle.hub_shared.specs.Plays.{join_of}
use Rattle.hub_shared.specs.Sights.{floors_at, view_of}
use Rattle.hub_shared.specs.declared.sight.Sought.{Sought}

pub compare_exchange_with-len-requires : goal.compare_exchange_with-len-requires
compare_exchange_with-len-requires c = (c.requires.seat.of, words-there c.args.self.now, seeks _ _ _ _ _ _ c.args.seat.now.live)

pub find-requires-clause-groups : goal.find-requires-clause-groups
find-requires-clause-groups c =
    let q : Sought = record { group = c.args.group.0; path = c.args.path.0; dest = c.args.dest.0; seq = c.args.seq } in
    let told = c.compare_exchange_with-len.ensures.2 q refl in
    ap (λ m. m.0.groups) told.me ∙ c.requires.seat.groups_are

pub find-requires-clause-looks : goal.find-requires-clause-looks
find-requires-clause-looks c =
    let q : Sought = record { group = c.args.group.0; path = c.args.path.0; dest = c.args.dest.0; seq = c.args.seq } in
    let told = c.compare_exchange_with-len.ensures.2 q refl in
    let look = begins-looking q c.args.seat.now.seat.me c.compare_exchange_with-len.new.seat.me c.args.seat.now.live c.requires.acts c.requires.seq told in
    look

pub load-requires : goal.load-requires
load-requires c =
    let q : Sought = record { group = c.args.group.0; path = c.args.path.0; dest = c.args.dest.0; seq = c.args.seq } in
    let told = c.compare_exchange_with-len.ensures.2 q refl in (
      (c.in_default.ensures).of ∙ c.compare_exchange_with-len.ensures.0 ∙ c.requires.seat.of,
      words-there c.args.self.now,
      rests _ _ _ _ _ (omega (arith, c.args.seat.now.live, ap (λ m. m.0.parts) ((c.in_default.ensures).finds.0 ∙ told.me))),
    )

pub invariant_of-seat : goal.invariant_of-seat
invariant_of-seat c =
    let q : Sought = record { group = c.args.group.0; path = c.args.path.0; dest = c.args.dest.0; seq = c.args.seq } in
    let told = c.compare_exchange_with-len.ensures.2 q refl in
    let is = missed-is q c.args.seat.now.seat.me c.compare_exchange_with-len.new.seat.me c.find.new.seat.me c.load.new.seat.me told (c.in_default.ensures).finds.0 c.load.ensures.2 in
    record {
      counted = omega (arith, c.args.seat.now.counted, ap (λ m. m.0.takes) is);
      carries = ap (λ m. m.1) is ∙ c.args.seat.now.carries;
      live = omega (arith, c.args.seat.now.live, ap (λ m. m.0.parts) is);
      idle = ap (λ m. m.0.hand) is;
      whole = subst IsWhole (sym (ap (λ m. m.0.entries) is)) c.args.seat.now.whole;
    }

pub returns-in_default-clause-seat : goal.returns-in_default-clause-seat
returns-in_default-clause-seat c =
    let q : Sought = record { group = c.args.group.0; path = c.args.path.0; dest = c.args.dest.0; seq = c.args.seq } in
    let told = c.compare_exchange_with-len.ensures.2 q refl in
    let is = missed-is q c.args.seat.now.seat.me c.compare_exchange_with-len.new.seat.me c.find.new.seat.me c.load.new.seat.me told (c.in_default.ensures).finds.0 c.load.ensures.2 in
    record { of = c.load.ensures.0 ∙ (c.in_default.ensures).of ∙ c.compare_exchange_with-len.ensures.0 ∙ c.requires.seat.of; groups_are = ap (λ m. m.0.groups) is ∙ c.requires.seat.groups_are }

pub returns-in_default-clause-view : goal.returns-in_default-clause-view
unfolding grow
returns-in_default-clause-view c =
    let q : Sought = record { group = c.args.group.0; path = c.args.path.0; dest = c.args.dest.0; seq = c.args.seq } in
    let told = c.compare_exchange_with-len.ensures.2 q refl in
    let is = missed-is q c.args.seat.now.seat.me c.compare_exchange_with-len.new.seat.me c.find.new.seat.me c.load.new.seat.me told (c.in_default.ensures).finds.0 c.load.ensures.2 in
    ap (λ m. view_of m.0) is

pub returns-in_default-clause-fresh : goal.returns-in_default-clause-fresh
returns-in_default-clause-fresh c =
    let q : Sought = record { group = c.args.group.0; path = c.args.path.0; dest = c.args.dest.0; seq = c.args.seq } in
    let told = c.compare_exchange_with-len.ensures.2 q refl in
    told.missed (missed-then q c.args.seat.now.seat.me c.compare_exchange_with-len.new.seat.me told (c.in_default.ensures).finds.1)

pub returns-in_default-clause-home : goal.returns-in_default-clause-home
returns-in_default-clause-home c =
    let q : Sought = record { group = c.args.group.0; path = c.args.path.0; dest = c.args.dest.0; seq = c.args.seq } in
    let told = c.compare_exchange_with-len.ensures.2 q refl in
    let is = missed-is q c.args.seat.now.seat.me c.compare_exchange_with-len.new.seat.me c.find.new.seat.me c.load.new.seat.me told (c.in_default.ensures).finds.0 c.load.ensures.2 in
    let of = c.load.ensures.0 ∙ (c.in_default.ensures).of ∙ c.compare_exchange_with-len.ensures.0 in
    λ i. (of i, ap (λ m. m.0.parts) is i)

pub returns-in_default-clause-means : goal.returns-in_default-clause-means
returns-in_default-clause-means c =
    let q : Sought = record { group = c.args.group.0; path = c.args.path.0; dest = c.args.dest.0; seq = c.args.seq } in
    let told = c.compare_exchange_with-len.ensures.2 q refl in
    let is = missed-is q c.args.seat.now.seat.me c.compare_exchange_with-len.new.seat.me c.find.new.seat.me c.load.new.seat.me told (c.in_default.ensures).finds.0 c.load.ensures.2 in
    let part = ap (λ m. (state_of m.0.entries).part) is in
    λ i. record { groups = ap (λ m. m.0.groups) is i; takes = ap (λ m. m.0.takes) is i; spare = 9000000; writes = (part i).writes; reads = (part i).reads; most = 8 }

pub returns-in_default-clause-floors : goal.returns-in_default-clause-floors
returns-in_default-clause-floors c =
    let q : Sought = record { group = c.args.group.0; path = c.args.path.0; dest = c.args.dest.0; seq = c.args.seq } in
    let told = c.compare_exchange_with-len.ensures.2 q refl in
    let is = missed-is q c.args.seat.now.seat.me c.compare_exchange_with-len.new.seat.me c.find.new.seat.me c.load.new.seat.me told (c.in_default.ensures).finds.0 c.load.ensures.2 in
    ap (λ m. floors_at m.0) is

pub length-at-requires : goal.length-at-requires
length-at-requires c =
    let q : Sought = record { group = c.args.group.0; path = c.args.path.0; dest = c.args.dest.0; seq = c.args.seq } in
    let told = c.compare_exchange_with-len.ensures.2 q refl in
    in-cells c.args.self.now c.in-Some.buf.0 c.compare_exchange_with-len.new.seat.me.0.groups (ap (λ m. m.0.groups) told.me ∙ c.requires.seat.groups_are) (c.in-Some.ensures).finds.1.below

pub load-len-requires : goal.load-len-requires
load-len-requires c =
    let q : Sought = record { group = c.args.group.0; path = c.args.path.0; dest = c.args.dest.0; seq = c.args.seq } in
    let told = c.compare_exchange_with-len.ensures.2 q refl in
    let look = begins-looking q c.args.seat.now.seat.me c.compare_exchange_with-len.new.seat.me c.args.seat.now.live c.requires.acts c.requires.seq told in
    let found = (c.in-Some.ensures).finds in
    let there = in-cells c.args.self.now c.in-Some.buf.0 c.compare_exchange_with-len.new.seat.me.0.groups (ap (λ m. m.0.groups) told.me ∙ c.requires.seat.groups_are) found.1.below in (
      (c.in-Some.ensures).of ∙ c.compare_exchange_with-len.ensures.0 ∙ c.requires.seat.of,
      buffer-words c.args.self.now (Length c.in-Some.buf.0) c.length-at.result c.length-at.ensures there,
      may-join c.args.self.now _ _ _ _ q c.in-Some.buf.0 c.length-at.ensures (looks-there q c.compare_exchange_with-len.new.seat.me c.find.new.seat.me c.in-Some.buf.0 found.1 look found.0) (ap (λ m. m.0.hand) found.0),
    )

pub invariant_of-seat-2 : goal.invariant_of-seat-2
invariant_of-seat-2 c =
    let q : Sought = record { group = c.args.group.0; path = c.args.path.0; dest = c.args.dest.0; seq = c.args.seq } in
    let told = c.compare_exchange_with-len.ensures.2 q refl in
    let found = (c.in-Some.ensures).finds in
    let joined = c.load-len.ensures.2 q c.in-Some.buf.0 (ap (λ m. m.0.hand) found.0) in
    let is = joined-is q c.args.seat.now.seat.me c.compare_exchange_with-len.new.seat.me c.find.new.seat.me c.load-len.new.seat.me c.in-Some.buf.0 c.load-len.result told found.0 joined in
    let went = goes-did (join_of q c.in-Some.buf.0 c.load-len.result) c.args.seat.now.seat.me.0.entries c.args.seat.now.whole in
    record {
      counted = omega (arith, c.args.seat.now.counted, ap (λ m. m.0.takes) is);
      carries = ap (λ m. m.1) is ∙ c.args.seat.now.carries;
      live = omega (arith, c.args.seat.now.live, ap (λ m. m.0.parts) is);
      idle = ap (λ m. m.0.hand) is;
      whole = subst IsWhole (sym (ap (λ m. m.0.entries) is)) went.whole;
    }

pub returns-clause-seat : goal.returns-clause-seat
returns-clause-seat c =
    let q : Sought = record { group = c.args.group.0; path = c.args.path.0; dest = c.args.dest.0; seq = c.args.seq } in
    let told = c.compare_exchange_with-len.ensures.2 q refl in
    let found = (c.in-Some.ensures).finds in
    let joined = c.load-len.ensures.2 q c.in-Some.buf.0 (ap (λ m. m.0.hand) found.0) in
    let is = joined-is q c.args.seat.now.seat.me c.compare_exchange_with-len.new.seat.me c.find.new.seat.me c.load-len.new.seat.me c.in-Some.buf.0 c.load-len.result told found.0 joined in
    record { of = c.load-len.ensures.0 ∙ (c.in-Some.ensures).of ∙ c.compare_exchange_with-len.ensures.0 ∙ c.requires.seat.of; groups_are = ap (λ m. m.0.groups) is ∙ c.requires.seat.groups_are }

pub returns-clause-view : goal.returns-clause-view
returns-clause-view c =
    let q : Sought = record { group = c.args.group.0; path = c.args.path.0; dest = c.args.dest.0; seq = c.args.seq } in
    let told = c.compare_exchange_with-len.ensures.2 q refl in
    let found = (c.in-Some.ensures).finds in
    let joined = c.load-len.ensures.2 q c.in-Some.buf.0 (ap (λ m. m.0.hand) found.0) in
    let is = joined-is q c.args.seat.now.seat.me c.compare_exchange_with-len.new.seat.me c.find.new.seat.me c.load-len.new.seat.me c.in-Some.buf.0 c.load-len.result told found.0 joined in
    let went = goes-did (join_of q c.in-Some.buf.0 c.load-len.result) c.args.seat.now.seat.me.0.entries c.args.seat.now.whole in
    ap (λ m. view_of m.0) is ∙ ap (λ s. s.view) went.is

pub returns-clause-joins : goal.returns-clause-joins
returns-clause-joins c =
    let q : Sought = record { group = c.args.group.0; path = c.args.path.0; dest = c.args.dest.0; seq = c.args.seq } in
    let told = c.compare_exchange_with-len.ensures.2 q refl in
    let found = (c.in-Some.ensures).finds in
    let joined = c.load-len.ensures.2 q c.in-Some.buf.0 (ap (λ m. m.0.hand) found.0) in
    let is = joined-is q c.args.seat.now.seat.me c.compare_exchange_with-len.new.seat.me c.find.new.seat.me c.load-len.new.seat.me c.in-Some.buf.0 c.load-len.result told found.0 joined in
    let went = goes-did (join_of q c.in-Some.buf.0 c.load-len.result) c.args.seat.now.seat.me.0.entries c.args.seat.now.whole in (
      refl,
      joined.some,
      joined.few,
      reads-joining c.args.path c.args.dest c.args.seq c.in-Some.buf c.load-len.result (view_of c.args.seat.now.seat.me.0) _ _ c.requires.seq (ap (λ m. view_of m.0) is ∙ ap (λ s. s.view) went.is) refl,
    )

pub returns-clause-home : goal.returns-clause-home
returns-clause-home c =
    let q : Sought = record { group = c.args.group.0; path = c.args.path.0; dest = c.args.dest.0; seq = c.args.seq } in
    let told = c.compare_exchange_with-len.ensures.2 q refl in
    let found = (c.in-Some.ensures).finds in
    let joined = c.load-len.ensures.2 q c.in-Some.buf.0 (ap (λ m. m.0.hand) found.0) in
    let is = joined-is q c.args.seat.now.seat.me c.compare_exchange_with-len.new.seat.me c.find.new.seat.me c.load-len.new.seat.me c.in-Some.buf.0 c.load-len.result told found.0 joined in
    let of = c.load-len.ensures.0 ∙ (c.in-Some.ensures).of ∙ c.compare_exchange_with-len.ensures.0 in
    λ i. (of i, ap (λ m. m.0.parts) is i)

pub returns-clause-means : goal.returns-clause-means
returns-clause-means c =
    let q : Sought = record { group = c.args.group.0; path = c.args.path.0; dest = c.args.dest.0; seq = c.args.seq } in
    let told = c.compare_exchange_with-len.ensures.2 q refl in
    let found = (c.in-Some.ensures).finds in
    let joined = c.load-len.ensures.2 q c.in-Some.buf.0 (ap (λ m. m.0.hand) found.0) in
    let is = joined-is q c.args.seat.now.seat.me c.compare_exchange_with-len.new.seat.me c.find.new.seat.me c.load-len.new.seat.me c.in-Some.buf.0 c.load-len.result told found.0 joined in
    let went = goes-did (join_of q c.in-Some.buf.0 c.load-len.result) c.args.seat.now.seat.me.0.entries c.args.seat.now.whole in
    let part = ap (λ m. (state_of m.0.entries).part) is ∙ ap (λ s. s.part) went.is in
    λ i. record { groups = ap (λ m. m.0.groups) is i; takes = ap (λ m. m.0.takes) is i; spare = 9000000; writes = (part i).writes; reads = (part i).reads; most = 8 }

pub returns-clause-floors : goal.returns-clause-floors
returns-clause-floors c =
    let q : Sought = record { group = c.args.group.0; path = c.args.path.0; dest = c.args.dest.0; seq = c.args.seq } in
    let told = c.compare_exchange_with-len.ensures.2 q refl in
    let found = (c.in-Some.ensures).finds in
    let joined = c.load-len.ensures.2 q c.in-Some.buf.0 (ap (λ m. m.0.hand) found.0) in
    let is = joined-is q c.args.seat.now.seat.me c.compare_exchange_with-len.new.seat.me c.find.new.seat.me c.load-len.new.seat.me c.in-Some.buf.0 c.load-len.result told found.0 joined in
    ap (λ m. floors_at m.0) is
