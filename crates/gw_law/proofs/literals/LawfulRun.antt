-- The run of two paths keeps all laws.
use Rattle.std.proofs.Common.{◌≡◌, ℕ, zero, suc, ◌+◌, ◌<◌, ◌≤◌, true, false, inl, inr, [], ◌∷◌, Some, None, refl, ap, subst, arith}
use Rattle.std.specs.Prelude.{slice_get, ◌==◌, nat_le, nat_lt}
use Rattle.std.proofs.lemmas.Bool.Decides.{eqb_tells}
use Rattle.hub_core.specs.declared.record.SessionRecord.{SessionRecord}
use Rattle.tp_unit.specs.Reading.{unit_in}
use Rattle.tp_unit.specs.Unit.{SingleFrame}
use Rattle.gw_law.specs.Account.{route_in}
use Rattle.gw_law.specs.Emission.{BusLaw, NoOthers}
use Rattle.gw_law.specs.Examples.{lawful_run, leaves, long_session, sending, sent_on, short_session, single_frame}
use Rattle.gw_law.specs.Lawful.{IsLawfulDest, IsLawfulRoute, Lawful}
use Rattle.gw_law.specs.Plan.{Receiving, Sending}
use Rattle.gw_law.specs.Delivery.{Names}
use Rattle.gw_law.specs.Timely.{bytes_below, bytes_to, cells_below, delivery_of_route, first_pieces}
use Rattle.tp_attempts.specs.Cuts.{Cut}
use Rattle.tp_attempts.specs.Seen.{Seen}
use Rattle.tp_attempts.specs.Walk.{walk_of}
use Rattle.gw_base.proofs.Lists.{same-some}
use Rattle.std.proofs.lemmas.Bool.{ne_eqb, le-leb, lt-ltb}
use Rattle.gw_law.proofs.Written.{written-law}
use Rattle.gw_law.proofs.literals.PoolOfRun.{pool}
use Rattle.gw_law.proofs.literals.Items.{alone, no-second}
use Rattle.gw_law.proofs.literals.SourcesOfRun.{control, long_lawful, long_receiving, once, short_lawful, short_receiving}

abbrev long_sending : Sending
long_sending = sending 0 0x710 0x718 2 1

abbrev short_sending : Sending
short_sending = sending 1 0x600 0x608 1 0

long_dest : IsLawfulDest lawful_run long_sending
unfolding unit_in
long_dest = record {
  records = record { own = (record { path = refl; dest = refl; end = omega arith }, tt); follow = λ place told next there after. absurd (no-second _ _ place after) };
  emission = record { order = tt; once = λ tick. omega arith; end = tt; are_data = tt };
  transmissions = record {
    sent = tt;
    unsent = (
      λ none. record {
        cause = (refl, omega arith, (refl, refl));
        in_time = λ tick from to. record { accepted = λ at status refused. refused; answered = λ overdue. overdue.awaits; leaves = λ free left late. omega (arith, left) };
      },
      tt,
    );
  };
}

short_dest : IsLawfulDest lawful_run short_sending
unfolding unit_in
short_dest = record {
  records = record { own = (record { path = refl; dest = refl; end = omega arith }, tt); follow = λ place told next there after. absurd (no-second _ _ place after) };
  emission = record {
    order = (omega arith, tt);
    once = λ tick. once (leaves 0 0x600 single_frame) tick;
    end = (omega arith, tt);
    are_data = (record { meaning = SingleFrame (7 ∷ 8 ∷ 9 ∷ []); carries = λ none. none; fits = refl; frame = refl }, tt);
  };
  transmissions = record {
    sent = (record { cause = refl; in_time = λ tick from to. absurd (omega (arith, to)) }, tt);
    unsent = (λ none. absurd (omega (arith, none)), tt);
  };
}

-- the source unit of the short message
abbrev single : Cut Seen
single = record { start = record { at = 2; size = 4; meaning = SingleFrame (7 ∷ 8 ∷ 9 ∷ []) }; after = [] }

-- the session that a number names is the channel's one
begin-of : (told session : SessionRecord) (place bound : ℕ) → slice_get (told ∷ []) place ≡ Some session → told.begin.0 < bound → session.begin.0 < bound
begin-of told session place bound there below = subst (λ (s : SessionRecord). s.begin.0 < bound) (alone told session place there) below

long_route : IsLawfulRoute (route_in lawful_run long_receiving long_sending)
unfolding unit_in
long_route = record {
  delivery = record {
    sessions = (refl, tt);
    numbered = (refl, tt);
    names = (
      record {
        unit = _;
        session = long_session;
        named = record { place = 0; unit_is = refl; session_is = refl; opened = _; opened_is = refl; seq_is = refl };
        most = omega arith;
        whole = (λ sent. cc, λ bytes. cc);
        ticks = omega arith;
      },
      tt,
    );
    delivers = tt;
  };
  each = refl;
  timely = record { begins = (λ unit session named. begin-of long_session session named.place 3 named.session_is (omega arith), tt); starts = tt; timely = tt; own = tt; counted = refl };
  joint = record { unread = (λ told. absurd (cc), tt); short = (tt, tt); soon = record { sent = tt; unsent = ((λ none unit session named how. absurd (cc)), tt) }; in_time = tt };
}

short_route : IsLawfulRoute (route_in lawful_run short_receiving short_sending)
unfolding unit_in
short_route = record {
  delivery = record {
    sessions = (refl, tt);
    numbered = (refl, tt);
    names = (names, tt);
    delivers = (record { names = names; len = refl; within = omega arith; bytes = refl; right = refl; ticks = ((omega arith, omega arith), tt); paced = tt }, tt);
  };
  each = refl;
  timely = record {
    begins = (λ unit session named. begin-of (short_session 2) session named.place 3 named.session_is (omega arith), tt);
    starts = (λ unit session named. inr (refl, starts-of session unit (alone _ _ named.place named.session_is) (alone _ _ named.place named.unit_is)), tt);
    timely = (λ unit session named tick. in-time tick unit (alone _ _ named.place named.unit_is), tt);
    own = (record { unit = SingleFrame (7 ∷ 8 ∷ 9 ∷ []); fits = refl; frame = refl; id = refl; fd = refl }, tt);
    counted = refl;
  };
  joint = record {
    unread = (λ told. absurd (cc), tt);
    short = (tt, tt);
    soon = record { sent = ((λ unit session named how. absurd (cc)), tt); unsent = ((λ none. absurd (omega (arith, none))), tt) };
    in_time = (λ unit session named tick below. absurd (omega (arith, below)), tt);
  };
}
  where
    names : Names (delivery_of_route (route_in lawful_run short_receiving short_sending)) (sent_on 1)
    names = record {
      unit = single;
      session = short_session 2;
      named = record { place = 0; unit_is = refl; session_is = refl; opened = _; opened_is = refl; seq_is = refl };
      most = omega arith;
      whole = (λ sent. refl, λ bytes. refl);
      ticks = omega arith;
    }

    starts : (unit : Cut Seen) → single ≡ unit → 1 ≤ cells_below 3 (first_pieces 3 (walk_of 0 unit).pieces)
    starts unit same = subst (λ (u : Cut Seen). 1 ≤ cells_below 3 (first_pieces 3 (walk_of 0 u).pieces)) same (omega arith)

    starts-of : (session : SessionRecord) (unit : Cut Seen) → short_session 2 ≡ session → single ≡ unit → 1 ≤ cells_below 3 (first_pieces session.bytes (walk_of 0 unit).pieces)
    starts-of session unit same is = subst (λ (s : SessionRecord). 1 ≤ cells_below 3 (first_pieces s.bytes (walk_of 0 unit).pieces)) same (starts unit is)

    in-time : (tick : ℕ) (unit : Cut Seen) → single ≡ unit → bytes_to tick (record { at = 0; bytes = 7 ∷ 8 ∷ 9 ∷ [] } ∷ []) ≤ bytes_below (tick + 3) (walk_of 0 unit).pieces
    in-time tick unit same = subst (λ (u : Cut Seen). bytes_to tick (record { at = 0; bytes = 7 ∷ 8 ∷ 9 ∷ [] } ∷ []) ≤ bytes_below (tick + 3) (walk_of 0 u).pieces) same
        (let from : nat_le 0 tick ≡ true = le-leb 0 tick (omega arith) in let below : nat_lt 2 (tick + 3) ≡ true = lt-ltb 2 (tick + 3) (omega arith) in rw (from, below) (omega arith))

routes : (place other : ℕ) (r : Receiving) (s : Sending) → slice_get lawful_run.plan.receivers place ≡ Some r → slice_get lawful_run.plan.senders other ≡ Some s →
    s.set.path.0 ≡ r.set.path.0 → IsLawfulRoute (route_in lawful_run r s)
routes zero zero r s here there path =
    subst (λ (x : Receiving). IsLawfulRoute (route_in lawful_run x s)) (same-some refl here) (subst (λ (x : Sending). IsLawfulRoute (route_in lawful_run long_receiving x)) (same-some refl there) long_route)
routes zero (suc zero) r s here there path =
    absurd (let one : 1 ≡ s.set.path.0 = ap (λ (x : Sending). x.set.path.0) (same-some {x = short_sending} refl there) in let none : 0 ≡ r.set.path.0 = ap (λ (x : Receiving). x.set.path.0) (same-some {x = long_receiving} refl here) in omega (arith, one, none, path))
routes (suc zero) zero r s here there path =
    absurd (let one : 0 ≡ s.set.path.0 = ap (λ (x : Sending). x.set.path.0) (same-some {x = long_sending} refl there) in let none : 1 ≡ r.set.path.0 = ap (λ (x : Receiving). x.set.path.0) (same-some {x = short_receiving} refl here) in omega (arith, one, none, path))
routes (suc zero) (suc zero) r s here there path =
    subst (λ (x : Receiving). IsLawfulRoute (route_in lawful_run x s)) (same-some refl here) (subst (λ (x : Sending). IsLawfulRoute (route_in lawful_run short_receiving x)) (same-some refl there) short_route)
routes (suc (suc place)) other r s here there path = absurd (let none : None ≡ Some r = here in cc)
routes zero (suc (suc other)) r s here there path = absurd (let none : None ≡ Some s = there in cc)
routes (suc zero) (suc (suc other)) r s here there path = absurd (let none : None ≡ Some s = there in cc)

no_others : NoOthers lawful_run
no_others = record {
  sessions = ((long_receiving, (0, refl), refl), ((short_receiving, (1, refl), refl), tt));
  dests = ((long_sending, (0, refl), refl, refl), ((short_sending, (1, refl), refl, refl), tt));
}

buses : (bus : ℕ) → BusLaw lawful_run bus
unfolding unit_in
buses zero = record {
  order = (omega arith, (omega arith, tt));
  most = λ tick. elim (eqb_tells 0 tick) [
    | inl same ↦ let other : (1 == tick) ≡ false = ne_eqb 1 tick (λ one. absurd (omega (arith, one, same.1))) in rw (same.0, other) (omega arith)
    | inr other ↦ rw (other.0) (once control tick)
  ];
  end = (omega arith, (omega arith, tt));
  by_priority = (λ same. absurd (omega (arith, same)), tt);
  own = (inr (short_sending, (1, refl), refl, refl), (inl (long_receiving, (0, refl), refl, refl), tt));
}
buses (suc bus) = record { order = tt; most = λ tick. omega arith; end = tt; by_priority = tt; own = tt }

pub lawful : Lawful lawful_run
lawful = record {
  sources = (long_lawful, (short_lawful, tt));
  dests = (long_dest, (short_dest, tt));
  routes = routes;
  no_others = no_others;
  pool = pool;
  buses = buses;
  written = λ bus. written-law lawful_run (long_lawful, (short_lawful, tt)) (long_dest, (short_dest, tt)) bus (buses bus);
}
