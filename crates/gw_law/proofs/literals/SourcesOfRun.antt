-- The laws of the source channels of the run of two paths.
use Rattle.std.proofs.Common.{◌≡◌, ℕ, zero, suc, ◌<◌, ◌≤◌, true, false, inl, inr, true≢false, [], ◌∷◌, length, Option, Some, refl, sym, subst, arith}
use Rattle.std.proofs.lemmas.Bool.Decides.{eqb_tells}
use Rattle.receiver_law.specs.Channel.{SourceChannel}
use Rattle.receiver_law.proofs.receptions.Counting.{last-newest}
use Rattle.receiver_law.specs.FlowControls.{AreAnswers, IsLate, IsOwed}
use Rattle.receiver_law.specs.ReceptionCauses.{ReceptionLaw}
use Rattle.receiver_law.specs.Receptions.{Continue, ControlLeft, Received, last_by}
use Rattle.receiver_law.specs.Source.{SourceLaw}
use Rattle.tp_unit.specs.Box.{Written, left_in}
use Rattle.tp_unit.specs.Reading.{unit_in}
use Rattle.tp_receiver.specs.Own.{Continues}
use Rattle.tp_unit.specs.Unit.{FirstFrame, FlowControl, SingleFrame}
use Rattle.gw_law.specs.Account.{source_in}
use Rattle.gw_law.specs.Emission.{ControlEmission}
use Rattle.gw_law.specs.Examples.{control_frame, lawful_run, leaves, long_session, receiving, short_session}
use Rattle.gw_law.specs.Lawful.{IsLawfulSource, is_full_at}
use Rattle.gw_law.specs.Plan.{Receiving}
use Rattle.gw_law.proofs.literals.Items.{no-second}

abbrev pub long_receiving : Receiving
long_receiving = receiving 0 0x700 0x708 0

abbrev pub short_receiving : Receiving
short_receiving = receiving 1 0x500 0x508 1

abbrev long_source : SourceChannel
long_source = source_in lawful_run long_receiving

abbrev short_source : SourceChannel
short_source = source_in lawful_run short_receiving

-- the one flow control
abbrev pub control : Written
control = leaves 1 0x708 control_frame

-- the ticks of at most one frame
pub once : (w : Written) (tick : ℕ) → length (left_in tick (w ∷ [])) ≤ 1
once w tick = elim (eqb_tells w.tick tick) [
  | inl same ↦ rw (same.0) (omega arith)
  | inr other ↦ rw (other.0) (omega arith)
]

long_told : SourceLaw 0 0 false long_source.seen long_source.sessions
unfolding unit_in
long_told = record {
  numbered = (refl, tt);
  sessions = (refl, tt);
  tells = (
    record {
      chan_is = refl;
      len = refl;
      begin = refl;
      order = omega arith;
      opens = refl;
      overflow = λ gone. absurd (true≢false (sym gone));
      covers = λ kept. record { first = record { at = 0; bytes = 1 ∷ 2 ∷ 3 ∷ 4 ∷ 5 ∷ 6 ∷ [] } ∷ []; rest = []; all = refl; some = omega arith; sum = refl; none_above = (omega arith, tt); all_below = tt };
      whole = λ kept. (λ whole. cc, λ bytes. cc);
      within = omega arith;
      wrong = λ want got told. absurd (cc);
      none_passed = λ wrong told. absurd (cc);
    },
    tt,
  );
}

short_told : SourceLaw 1 0 false short_source.seen short_source.sessions
unfolding unit_in
short_told = record {
  numbered = (refl, tt);
  sessions = (refl, tt);
  tells = (
    record {
      chan_is = refl;
      len = refl;
      begin = refl;
      order = omega arith;
      opens = refl;
      overflow = λ gone. absurd (true≢false (sym gone));
      covers = λ kept. record { first = record { at = 2; bytes = 7 ∷ 8 ∷ 9 ∷ [] } ∷ []; rest = []; all = refl; some = omega arith; sum = refl; none_above = (omega arith, tt); all_below = tt };
      whole = λ kept. (λ whole. refl, λ bytes. refl);
      within = omega arith;
      wrong = λ want got told. absurd (cc);
      none_passed = λ wrong told. absurd (cc);
    },
    tt,
  );
}

long_emission : ControlEmission long_source
unfolding unit_in
long_emission = record {
  order = (omega arith, tt);
  once = λ tick. once control tick;
  end = (omega arith, tt);
  are_controls = (record { meaning = FlowControl 0 0 0; control = Continues 0 (record { most = omega arith; some = λ limit. omega (arith, limit) }) refl; fits = refl; frame = refl }, tt);
}

-- the flow control that left: it lets all frames come
abbrev pub lets_all : ControlLeft
lets_all = record { tick = 1; kind = Continue 0 }

-- the reception of the long message
abbrev long_reception : Received
long_reception = record { start = record { at = 0; size = 8; meaning = FirstFrame 10 (1 ∷ 2 ∷ 3 ∷ 4 ∷ 5 ∷ 6 ∷ []) }; told = long_session; controls = lets_all ∷ [] }

long_answers : AreAnswers (is_full_at lawful_run long_receiving) long_receiving.set [] 0 5 (lets_all ∷ [])
long_answers = record {
  kinds = (record { most = omega arith; some = λ limit. omega (arith, limit) }, tt);
  within = ((omega arith, omega arith), tt);
  follow = (tt, tt);
  waits = (omega arith, tt);
  owed = owed;
  in_time = in-time;
}
  where
    owed : (tick : ℕ) → 0 ≤ tick → tick < 5 → IsOwed long_receiving.set [] (last_by tick (lets_all ∷ [])) tick → is_full_at lawful_run long_receiving tick ≡ true
    owed zero from to is = refl
    owed (suc tick) from to is = let newest : last_by (suc tick) (lets_all ∷ []) ≡ Some lets_all = last-newest (suc tick) lets_all [] (omega arith) in absurd (omega (arith, (subst (λ (c : Option ControlLeft). IsOwed long_receiving.set [] c (suc tick)) newest is).0))

    in-time : (tick : ℕ) → 0 ≤ tick → tick < 5 → IsLate long_receiving.set [] (last_by tick (lets_all ∷ [])) tick → is_full_at lawful_run long_receiving tick ≡ true
    in-time zero from to is = refl
    in-time (suc tick) from to is = let newest : last_by (suc tick) (lets_all ∷ []) ≡ Some lets_all = last-newest (suc tick) lets_all [] (omega arith) in absurd (omega (arith, to, (subst (λ (c : Option ControlLeft). IsLate long_receiving.set [] c (suc tick)) newest is).limit))

long_receptions : ReceptionLaw (is_full_at lawful_run long_receiving) long_source
unfolding unit_in
long_receptions = record {
  receptions = long_reception ∷ [];
  are = (
    record {
      answered = record { start = refl; none = λ other. absurd (other tt); session = λ first opened. long_answers; refusal = λ first refused. absurd (true≢false (sym refused)) };
      caused = (refl, omega arith, record { left = 1; block = 0; earlier = []; newest = refl; lets = inl refl; since_is = refl; in_time = omega arith });
    },
    tt,
  );
  sessions = refl;
  controls = refl;
}

short_receptions : ReceptionLaw (is_full_at lawful_run short_receiving) short_source
unfolding unit_in
short_receptions = record {
  receptions = record { start = record { at = 2; size = 4; meaning = SingleFrame (7 ∷ 8 ∷ 9 ∷ []) }; told = short_session 2; controls = [] } ∷ [];
  are = (record { answered = record { start = refl; none = λ other. refl; session = λ first. absurd first; refusal = λ first. absurd first }; caused = refl }, tt);
  sessions = refl;
  controls = refl;
}

pub long_lawful : IsLawfulSource lawful_run long_receiving
unfolding unit_in
long_lawful = record {
  source = long_told;
  records = record { own = (record { chan = refl; end = omega arith }, tt); follow = λ place told next there after. absurd (no-second _ _ place after) };
  emission = long_emission;
  receptions = long_receptions;
  rooms = ((λ room need is. cc), tt);
  readers = ((λ opened is. record { put = record { at = 0; bytes = 1 ∷ 2 ∷ 3 ∷ 4 ∷ 5 ∷ 6 ∷ [] } ∷ []; are_put = record { rest = []; are = refl; sum = refl }; read = tt }), tt);
}

pub short_lawful : IsLawfulSource lawful_run short_receiving
unfolding unit_in
short_lawful = record {
  source = short_told;
  records = record { own = (record { chan = refl; end = omega arith }, tt); follow = λ place told next there after. absurd (no-second _ _ place after) };
  emission = record { order = tt; once = λ tick. omega arith; end = tt; are_controls = tt };
  receptions = short_receptions;
  rooms = ((λ room need is. cc), tt);
  readers = ((λ opened is. record { put = record { at = 2; bytes = 7 ∷ 8 ∷ 9 ∷ [] } ∷ []; are_put = record { rest = []; are = refl; sum = refl }; read = tt }), tt);
}
