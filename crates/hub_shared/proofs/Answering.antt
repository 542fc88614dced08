-- What a port's take and its look for a session say, from what the seat's steps told.
use Rattle.std.proofs.Common.{◌≡◌, ℕ, List, Option, Some, None, refl, ap, sym, ◌∙◌, subst, arith}
use Rattle.hub_core.proofs.Fresh.{rise-same}
use Rattle.hub_core.proofs.Growing.{at_one-same, by-joining, by-missed, by-took, by-refused}
use Rattle.hub_core.specs.Calls.{Answers, ByReader, SameParties, TakeUsed, joins, next_of, took_of}
use Rattle.hub_core.specs.Floors.{Floors, Rise}
use Rattle.hub_core.specs.Past.{event_of}
use Rattle.hub_core.specs.Stays.{Stays}
use Rattle.hub_core.specs.View.{View, Taking, Took, grow}
use Rattle.hub_core.specs.declared.port.Take.{Take}
use Rattle.hub_core.specs.declared.port.Take.TheVariants.{Granted, Overflow}
use Rattle.hub_core.specs.declared.token.Held.{Held}
use Rattle.hub_core.specs.declared.token.Joined.{Joined}
use Rattle.hub_shared.proofs.Histories.{goes-did}
use Rattle.hub_shared.specs.History.{SeatState, state_of}
use Rattle.hub_shared.specs.Seats.{as_port, seat_view}
use Rattle.hub_shared.specs.Sights.{floors_at}
use Rattle.hub_shared.specs.Takes.{IsAnswer, IsByWord, IsTaken, deed_of}
use Rattle.hub_shared.specs.declared.seat.HubSeat.{HubSeat}

-- what is noted is what the answer adds
noted : (group need : ℕ) (take : Take) → event_of (deed_of group need take) ≡ took_of group need take
noted group need (Granted change held) = refl
noted group need (Overflow change free) = refl

held-now : (group change need : ℕ) (held : Held) (v w : View) → w ≡ grow (Took group change held.buf.0 held.cells need) v → held.change ≡ change → w.held held.buf.0 ≡ Some (record { number = held.change; size = held.cells })
unfolding grow
held-now group change need held v w is number =
    ap (λ (u : View). u.held held.buf.0) is ∙ at_one-same held.buf.0 (Some (record { number = change; size = held.cells })) v.held ∙ ap (λ (n : ℕ). let t : Taking = record { number = n; size = held.cells } in Some t) (sym number)

pub answers : (groups : List (List ℕ)) (group need word : ℕ) (v w : View) (take : Take) → w ≡ grow (took_of group need take) v → IsByWord word take → IsAnswer groups group need take → Answers w groups group need take
answers groups group need word v w (Granted change held) is number so = (so.0, omega (arith, number), so.1, so.2, held-now group change need held v w is so.0)
answers groups group need word v w (Overflow change free) is number so = so

by-take : (group need : ℕ) (v w : View) (take : Take) → w ≡ grow (took_of group need take) v → SameParties v w
by-take group need v w (Granted change held) is = by-took group change held.buf.0 held.cells need v w is
by-take group need v w (Overflow change free) is = by-refused group change free need v w is

-- what a look for a session changes
pub by-next : (group path dest seq : ℕ) (v w : View) (found : Option Joined) → w ≡ grow (next_of group path dest seq found) v → ByReader path dest (joins found) v w
by-next group path dest seq v w None is = by-missed group path dest seq v w is
by-next group path dest seq v w (Some t) is = by-joining path dest seq t.buf.0 t.len v w is

module _ (groups : List (List ℕ)) (group need : ℕ) (old new : HubSeat) (take : Take) (so : IsTaken groups group need old.seat.me new.seat.me take) where
  state : state_of new.seat.me.0.entries ≡ record { view = grow (took_of group need take) (seat_view old); part = (state_of old.seat.me.0.entries).part }
  state = ap (λ m. state_of m.0.entries) so.ends.me ∙ (goes-did (deed_of group need take) old.seat.me.0.entries old.whole).is
      ∙ ap (λ e. let s : SeatState = record { view = grow e (seat_view old); part = (state_of old.seat.me.0.entries).part } in s) (noted group need take)

  pub view-taken : seat_view new ≡ grow (took_of group need take) (seat_view old)
  view-taken = ap (λ s. s.view) state

  pub answers-taken : Answers (seat_view new) groups group need take
  answers-taken = answers groups group need so.word (seat_view old) (seat_view new) take view-taken so.ends.number so.ends.answer

  pub stays-taken : new.seat.table_id ≡ old.seat.table_id → Stays SameParties TakeUsed (as_port old) (as_port new)
  stays-taken of = record {
    by = by-take group need (seat_view old) (seat_view new) take view-taken;
    means = record {
      pool = record { groups = ap (λ m. m.0.groups) so.ends.me; writes = ap (λ s. s.part.writes) state; reads = ap (λ s. s.part.reads) state; most = refl };
      takes = omega (arith, ap (λ m. m.0.takes) so.ends.me);
      spare = omega arith;
    };
    rise = subst (λ (f : Floors). Rise (floors_at old.seat.me.0) f) (sym (ap (λ m. floors_at m.0) so.ends.me)) (rise-same (floors_at old.seat.me.0));
    home = λ i. (of i, ap (λ m. m.0.parts) so.ends.me i);
  }
