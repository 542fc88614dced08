use Rattle.std.proofs.Common.{◌≡◌, ◌∙◌, ◌+◌, ◌-◌, ◌^◌, ℕ, zero, suc, ap, arith, length, refl, sym, subst}
use Rattle.hub_shared.proofs.Enters.{opens-may}
use Rattle.hub_shared.proofs.Histories.{goes-did}
use Rattle.hub_shared.proofs.Hubs.{buffer-words, in-cells, words-there}
use Rattle.hub_shared.proofs.Opened.{may-enter, may-prepare}
use Rattle.hub_shared.proofs.hub.SharedHub.enter.Goals as goal
use Rattle.hub_shared.specs.History.{IsWhole, state_of}
use Rattle.hub_layout.specs.Places.{Card, Length}
use Rattle.pool_words.proofs.Bits.{power}
use Rattle.hub_shared.specs.Plays.{SeatMe, entry_of, with_deed}
use Rattle.hub_shared.specs.Sights.{floors_at, view_of}
use Rattle.hub_shared.specs.declared.sight.Hand.TheVariants.{Entering, Prepared}
use Rattle.hub_shared.specs.declared.sight.Opening.{Opening}

-- a power of two is one at least
some-power : (n : ℕ) → 2 ^ n - 1 + 1 ≡ 2 ^ n
some-power zero = refl
some-power (suc n) = let rest = some-power n in omega (arith, rest, power n)

pub compare_exchange_with-requires : goal.compare_exchange_with-requires
compare_exchange_with-requires c = (c.requires.seat.of, words-there c.args.self.now, opens-may _ _ _ _ _ _ c.args.seat.now.live)

pub length-at-requires : goal.length-at-requires
length-at-requires c =
    let told = c.compare_exchange_with.ensures.2 (record { path = c.args.path.0; seq = c.args.seq; buf = c.args.held.buf.0; change = c.args.held.change; cells = c.args.held.cells; len = c.args.len; readers = c.args.readers }) refl in
    in-cells c.args.self.now c.args.held.buf.0 c.args.seat.now.seat.me.0.groups c.requires.seat.groups_are (told.there c.requires.held)

pub store-requires : goal.store-requires
store-requires c =
    let o : Opening = record { path = c.args.path.0; seq = c.args.seq; buf = c.args.held.buf.0; change = c.args.held.change; cells = c.args.held.cells; len = c.args.len; readers = c.args.readers } in
    let told = c.compare_exchange_with.ensures.2 o refl in
    let there = in-cells c.args.self.now c.args.held.buf.0 c.args.seat.now.seat.me.0.groups c.requires.seat.groups_are (told.there c.requires.held) in (
      c.compare_exchange_with.ensures.0 ∙ c.requires.seat.of,
      buffer-words c.args.self.now (Length c.args.held.buf.0) c.length-at.result c.length-at.ensures there,
      may-prepare c.args.self.now _ _ _ _ o c.length-at.ensures c.from.result c.from.ensures (omega (arith, c.args.seat.now.live, ap (λ m. m.0.parts) told.me)) (ap (λ m. m.0.hand) told.me) (ap (λ m. (view_of m.0).held o.buf) told.me ∙ c.requires.held),
    )

pub card-at-requires : goal.card-at-requires
card-at-requires c =
    let told = c.compare_exchange_with.ensures.2 (record { path = c.args.path.0; seq = c.args.seq; buf = c.args.held.buf.0; change = c.args.held.change; cells = c.args.held.cells; len = c.args.len; readers = c.args.readers }) refl in
    in-cells c.args.self.now c.args.held.buf.0 c.args.seat.now.seat.me.0.groups c.requires.seat.groups_are (told.there c.requires.held)

pub store-requires-2 : goal.store-requires-2
store-requires-2 c =
    let o : Opening = record { path = c.args.path.0; seq = c.args.seq; buf = c.args.held.buf.0; change = c.args.held.change; cells = c.args.held.cells; len = c.args.len; readers = c.args.readers } in
    let told = c.compare_exchange_with.ensures.2 o refl in
    let there = in-cells c.args.self.now c.args.held.buf.0 c.args.seat.now.seat.me.0.groups c.requires.seat.groups_are (told.there c.requires.held) in
    let is = c.store.ensures.2 o (ap (λ m. m.0.hand) told.me) ∙ ap (λ m. (record m.0 { hand = Prepared o }, m.1)) told.me in (
      c.store.ensures.0 ∙ c.compare_exchange_with.ensures.0 ∙ c.requires.seat.of,
      buffer-words c.args.self.now (Card c.args.held.buf.0) c.card-at.result c.card-at.ensures there,
      may-enter c.args.self.now _ _ _ _ o c.card-at.ensures c.card_of.result (2 ^ (c.args.readers + 1) - 1) c.card_of.ensures (record {
        live = omega (arith, c.args.seat.now.live, ap (λ m. m.0.parts) is);
        hand = ap (λ m. m.0.hand) is;
        acts = ap (λ m. (state_of m.0.entries).part.writes o.path) is ∙ c.requires.acts;
        number = ap (λ m. length ((view_of m.0).sessions o.path)) is ∙ c.requires.seq;
        some_len = c.requires.len;
        some_readers = c.requires.readers.0;
        all = some-power (c.args.readers + 1);
        small = record { path_small = omega (arith, c.ranges); dests_small = c.requires.readers.1; len_small = omega (arith, c.ranges) };
      }),
    )

-- what the seat is once the card is stored
entered-is : (old new : SeatMe) (first second : SeatMe) (o : Opening) → first ≡ (record old.0 { hand = Entering o }, old.1) → second ≡ (record first.0 { hand = Prepared o }, first.1) → new ≡ (with_deed (entry_of o) second.0, second.1) → new ≡ (with_deed (entry_of o) old.0, old.1)
entered-is old new first second o a b c = c ∙ ap (λ m. (with_deed (entry_of o) m.0, m.1)) b ∙ ap (λ m. (with_deed (entry_of o) m.0, m.1)) a

pub invariant_of-seat : goal.invariant_of-seat
invariant_of-seat c =
    let o : Opening = record { path = c.args.path.0; seq = c.args.seq; buf = c.args.held.buf.0; change = c.args.held.change; cells = c.args.held.cells; len = c.args.len; readers = c.args.readers } in
    let told = c.compare_exchange_with.ensures.2 o refl in
    let ready = c.store.ensures.2 o (ap (λ m. m.0.hand) told.me) in
    let is = entered-is c.args.seat.now.seat.me c.store-2.new.seat.me c.compare_exchange_with.new.seat.me c.store.new.seat.me o told.me ready (c.store-2.ensures.2 o (ap (λ m. m.0.hand) ready)) in
    record {
      counted = omega (arith, c.args.seat.now.counted, ap (λ m. m.0.takes) is);
      carries = ap (λ m. m.1) is ∙ c.args.seat.now.carries;
      live = omega (arith, c.args.seat.now.live, ap (λ m. m.0.parts) is);
      idle = ap (λ m. m.0.hand) is;
      whole = subst IsWhole (sym (ap (λ m. m.0.entries) is)) (goes-did (entry_of o) c.args.seat.now.seat.me.0.entries c.args.seat.now.whole).whole;
    }

pub returns-clause-seat : goal.returns-clause-seat
returns-clause-seat c =
    let o : Opening = record { path = c.args.path.0; seq = c.args.seq; buf = c.args.held.buf.0; change = c.args.held.change; cells = c.args.held.cells; len = c.args.len; readers = c.args.readers } in
    let told = c.compare_exchange_with.ensures.2 o refl in
    let ready = c.store.ensures.2 o (ap (λ m. m.0.hand) told.me) in
    let is = entered-is c.args.seat.now.seat.me c.store-2.new.seat.me c.compare_exchange_with.new.seat.me c.store.new.seat.me o told.me ready (c.store-2.ensures.2 o (ap (λ m. m.0.hand) ready)) in
    record { of = c.store-2.ensures.0 ∙ c.store.ensures.0 ∙ c.compare_exchange_with.ensures.0 ∙ c.requires.seat.of; groups_are = ap (λ m. m.0.groups) is ∙ c.requires.seat.groups_are }

pub returns-clause-view : goal.returns-clause-view
returns-clause-view c =
    let o : Opening = record { path = c.args.path.0; seq = c.args.seq; buf = c.args.held.buf.0; change = c.args.held.change; cells = c.args.held.cells; len = c.args.len; readers = c.args.readers } in
    let told = c.compare_exchange_with.ensures.2 o refl in
    let ready = c.store.ensures.2 o (ap (λ m. m.0.hand) told.me) in
    let is = entered-is c.args.seat.now.seat.me c.store-2.new.seat.me c.compare_exchange_with.new.seat.me c.store.new.seat.me o told.me ready (c.store-2.ensures.2 o (ap (λ m. m.0.hand) ready)) in
    ap (λ m. view_of m.0) is ∙ ap (λ s. s.view) (goes-did (entry_of o) c.args.seat.now.seat.me.0.entries c.args.seat.now.whole).is

pub returns-clause-home : goal.returns-clause-home
returns-clause-home c =
    let o : Opening = record { path = c.args.path.0; seq = c.args.seq; buf = c.args.held.buf.0; change = c.args.held.change; cells = c.args.held.cells; len = c.args.len; readers = c.args.readers } in
    let told = c.compare_exchange_with.ensures.2 o refl in
    let ready = c.store.ensures.2 o (ap (λ m. m.0.hand) told.me) in
    let is = entered-is c.args.seat.now.seat.me c.store-2.new.seat.me c.compare_exchange_with.new.seat.me c.store.new.seat.me o told.me ready (c.store-2.ensures.2 o (ap (λ m. m.0.hand) ready)) in
    let of = c.store-2.ensures.0 ∙ c.store.ensures.0 ∙ c.compare_exchange_with.ensures.0 in
    λ i. (of i, ap (λ m. m.0.parts) is i)

pub returns-clause-means : goal.returns-clause-means
returns-clause-means c =
    let o : Opening = record { path = c.args.path.0; seq = c.args.seq; buf = c.args.held.buf.0; change = c.args.held.change; cells = c.args.held.cells; len = c.args.len; readers = c.args.readers } in
    let told = c.compare_exchange_with.ensures.2 o refl in
    let ready = c.store.ensures.2 o (ap (λ m. m.0.hand) told.me) in
    let is = entered-is c.args.seat.now.seat.me c.store-2.new.seat.me c.compare_exchange_with.new.seat.me c.store.new.seat.me o told.me ready (c.store-2.ensures.2 o (ap (λ m. m.0.hand) ready)) in
    let part = ap (λ m. (state_of m.0.entries).part) is ∙ ap (λ s. s.part) (goes-did (entry_of o) c.args.seat.now.seat.me.0.entries c.args.seat.now.whole).is in
    λ i. record { groups = ap (λ m. m.0.groups) is i; takes = ap (λ m. m.0.takes) is i; spare = 9000000; writes = (part i).writes; reads = (part i).reads; most = 8 }

pub returns-clause-floors : goal.returns-clause-floors
returns-clause-floors c =
    let o : Opening = record { path = c.args.path.0; seq = c.args.seq; buf = c.args.held.buf.0; change = c.args.held.change; cells = c.args.held.cells; len = c.args.len; readers = c.args.readers } in
    let told = c.compare_exchange_with.ensures.2 o refl in
    let ready = c.store.ensures.2 o (ap (λ m. m.0.hand) told.me) in
    let is = entered-is c.args.seat.now.seat.me c.store-2.new.seat.me c.compare_exchange_with.new.seat.me c.store.new.seat.me o told.me ready (c.store-2.ensures.2 o (ap (λ m. m.0.hand) ready)) in
    ap (λ m. floors_at m.0) is
