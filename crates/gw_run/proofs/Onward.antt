-- How a run over two logs goes on: frame by frame on each bus, and tick by tick.
use Rattle.std.proofs.Common.{◌≡◌, ◌⊎◌, inl, inr, ℕ, ◌+◌, ◌<◌, ◌≤◌, Bool, true, false, cond, List, [], ◌∷◌, ◌++◌, length, refl, sym, ap, ◌∙◌, subst, arith, append_assoc, length-append}
use Rattle.tp_unit.specs.Box.{Answer}
use Rattle.std.specs.Prelude.{All}
use Rattle.std.proofs.lemmas.List.{append-nil}
use Rattle.can_frame.specs.Frame.{CanFrame}
use Rattle.tick_clock.specs.declared.clock.Clock.{Clock}
use Rattle.tp_attempts.specs.Seen.{Seen}
use Rattle.gw_run.specs.declared.gateway.Gateway.{Gateway}
use Rattle.candump_log.specs.declared.log.Stamped.{Stamped}
use Rattle.gw_run.specs.declared.machines.Machines.{Machines}
use Rattle.gw_run.specs.Feed.{ComeAfter, ComeWithin, TakesFirst}
use Rattle.gw_law.specs.Channels.{InTick, answer_in, answers_in, bytes_of_address, frames_for, is_addressed, seen_in}
use Rattle.gw_law.specs.Plan.{Address}
use Rattle.gw_run.specs.Frames.{address_of, answers_for, greatest_tick, in_ticks, seen_by, seen_for, unit_for}
use Rattle.gw_run.specs.Played.{Plays, Told}
use Rattle.gw_run.specs.Playing.{DestinationSoFar, IsNext, MayWorkOnDestination, MayWorkOnSource, SoFar, SourceSoFar, WorksOnDestination, WorksOnSource}
use Rattle.gw_run.specs.Standing.{AtBarrier, Finishes, InDestination, InSource, IsQuiet}
use Rattle.gw_run.proofs.Beginning.{begins-tick}
use Rattle.gw_run.proofs.Feeds.{come_within, later-within, length-in_ticks, none-within}

-- a tick's work on the source's bus, from one frame to another
abbrev pub Receives : (sizes : List ℕ) (address : Address) (tick : ℕ) → (old : Gateway) → (before : List InTick) → (new : Gateway) → (after : List InTick) → Type 0
Receives sizes address tick old before new after =
    (seen all : List Seen) (answers : List Answer) (last : ℕ) → SourceSoFar address all tick last seen before → InSource sizes old seen answers tick →
    (now : List Seen) × SourceSoFar address all tick last now after × InSource sizes new now answers tick

-- a tick's work on the destination's bus, from one frame to another
abbrev pub Answers : (sizes : List ℕ) (address : Address) (tick : ℕ) → (old : Gateway) → (before : List InTick) → (new : Gateway) → (after : List InTick) → Type 0
Answers sizes address tick old before new after =
    (seen : List Seen) (answers all : List Answer) (last : ℕ) → DestinationSoFar address all tick last answers before → InDestination sizes old seen answers tick →
    (now : List Answer) × DestinationSoFar address all tick last now after × InDestination sizes new seen now tick

-- a frame that came by a tick, where none comes before it, is of that tick
takes-now : (tick last : ℕ) (frame : CanFrame) (old new : List InTick) → TakesFirst tick old new frame → ComeWithin tick last old → old ≡ record { tick = tick; frame = frame } ∷ new
takes-now tick last frame old new takes within =
    let first : ComeWithin tick last (record { tick = takes.at; frame = frame } ∷ new) = subst (ComeWithin tick last) takes.first within in
    let now : takes.at ≡ tick = omega (arith, first.0, takes.came) in
    takes.first ∙ ap (λ (at : ℕ). let f : InTick = record { tick = at; frame = frame } in f ∷ new) now

keeps : (b : Bool) (f : InTick) (frames : List InTick) → b ≡ true → cond b (f ∷ frames) frames ≡ f ∷ frames
keeps b f frames same = rw same refl

leaves : (b : Bool) (f : InTick) (frames : List InTick) → b ≡ false → cond b (f ∷ frames) frames ≡ frames
leaves b f frames other = rw other refl

-- a frame of the source channel came
source-takes : (address : Address) (all seen : List Seen) (tick last : ℕ) (frame : CanFrame) (coming : List InTick) → is_addressed address frame ≡ true →
    SourceSoFar address all tick last seen (record { tick = tick; frame = frame } ∷ coming) → SourceSoFar address all tick last (seen ++ seen_by address tick frame ∷ []) coming
source-takes address all seen tick last frame coming same far =
    let f : InTick = record { tick = tick; frame = frame } in
    record {
      all_is =
          append_assoc seen (seen_by address tick frame ∷ []) (seen_for address coming)
          ∙ ap (λ (frames : List InTick). seen ++ seen_in (bytes_of_address address.byte) frames) (sym (keeps (is_addressed address frame) f (frames_for address coming) same)) ∙ far.all_is;
      few = omega (arith, far.few, length-append seen (seen_by address tick frame ∷ []));
      within = far.within.2;
    }

-- a frame that isn't of the source channel came
source-leaves : (address : Address) (all seen : List Seen) (tick last : ℕ) (frame : CanFrame) (coming : List InTick) → is_addressed address frame ≡ false →
    SourceSoFar address all tick last seen (record { tick = tick; frame = frame } ∷ coming) → SourceSoFar address all tick last seen coming
source-leaves address all seen tick last frame coming other far =
    let f : InTick = record { tick = tick; frame = frame } in
    record {
      all_is = ap (λ (frames : List InTick). seen ++ seen_in (bytes_of_address address.byte) frames) (sym (leaves (is_addressed address frame) f (frames_for address coming) other)) ∙ far.all_is;
      few = omega (arith, far.few);
      within = far.within.2;
    }

-- a frame of the destination's channel came
destination-takes : (address : Address) (all answers : List Answer) (tick last : ℕ) (frame : CanFrame) (coming : List InTick) → is_addressed address frame ≡ true →
    DestinationSoFar address all tick last answers (record { tick = tick; frame = frame } ∷ coming) →
    DestinationSoFar address all tick last (answers ++ answer_in tick (unit_for address frame)) coming
destination-takes address all answers tick last frame coming same far =
    let f : InTick = record { tick = tick; frame = frame } in
    record {
      all_is =
          append_assoc answers (answer_in tick (unit_for address frame)) (answers_for address coming)
          ∙ ap (λ (frames : List InTick). answers ++ answers_in (bytes_of_address address.byte) frames) (sym (keeps (is_addressed address frame) f (frames_for address coming) same)) ∙ far.all_is;
      within = far.within.2;
    }

-- a frame that isn't of the destination's channel came
destination-leaves : (address : Address) (all answers : List Answer) (tick last : ℕ) (frame : CanFrame) (coming : List InTick) → is_addressed address frame ≡ false →
    DestinationSoFar address all tick last answers (record { tick = tick; frame = frame } ∷ coming) → DestinationSoFar address all tick last answers coming
destination-leaves address all answers tick last frame coming other far =
    let f : InTick = record { tick = tick; frame = frame } in
    record {
      all_is = ap (λ (frames : List InTick). answers ++ answers_in (bytes_of_address address.byte) frames) (sym (leaves (is_addressed address frame) f (frames_for address coming) other)) ∙ far.all_is;
      within = far.within.2;
    }

-- the source's work goes on with a frame of its channel
pub receives-one : (sizes : List ℕ) (address : Address) (tick : ℕ) (g0 g g1 : Gateway) (before coming later : List InTick) (frame : CanFrame) → TakesFirst tick coming later frame → is_addressed address frame ≡ true →
    Receives sizes address tick g0 before g coming →
    ((seen : List Seen) (answers : List Answer) → InSource sizes g seen answers tick → InSource sizes g1 (seen ++ seen_by address tick frame ∷ []) answers tick) →
    Receives sizes address tick g0 before g1 later
receives-one sizes address tick g0 g g1 before coming later frame takes same so_far step seen all answers last far at =
    let here = so_far seen all answers last far at in
    let first = takes-now tick last frame coming later takes here.1.within in
    (here.0 ++ seen_by address tick frame ∷ [], source-takes address all here.0 tick last frame later same (subst (SourceSoFar address all tick last here.0) first here.1), step here.0 answers here.2)

-- and with one that isn't
pub receives-other : (sizes : List ℕ) (address : Address) (tick : ℕ) (g0 g : Gateway) (before coming later : List InTick) (frame : CanFrame) → TakesFirst tick coming later frame → is_addressed address frame ≡ false →
    Receives sizes address tick g0 before g coming → Receives sizes address tick g0 before g later
receives-other sizes address tick g0 g before coming later frame takes other so_far seen all answers last far at =
    let here = so_far seen all answers last far at in
    let first = takes-now tick last frame coming later takes here.1.within in
    (here.0, source-leaves address all here.0 tick last frame later other (subst (SourceSoFar address all tick last here.0) first here.1), here.2)

-- the gateway may be given the source's next frame
pub may_receive : (sizes : List ℕ) (address : Address) (tick : ℕ) (g0 g : Gateway) (before coming later : List InTick) (frame : CanFrame) → TakesFirst tick coming later frame → Receives sizes address tick g0 before g coming →
    MayWorkOnSource sizes address tick g0 before →
    (seen : List Seen) × (answers : List Answer) × (length seen < 1000000) × (sizes : List ℕ) × InSource sizes g seen answers tick
may_receive sizes address tick g0 g before coming later frame takes so_far start =
    let here = so_far start.0 start.1 start.2 start.3 start.4 start.5 in
    let some : length coming ≡ length later + 1 = ap length takes.first ∙ omega arith in
    (here.0, start.2, omega (arith, here.1.few, some), sizes, here.2)

-- the source's work of the tick is done
pub receives-all : (sizes : List ℕ) (address : Address) (tick : ℕ) (g0 g g1 : Gateway) (before coming : List InTick) → ComeAfter tick coming → Receives sizes address tick g0 before g coming →
    ((seen : List Seen) (answers : List Answer) → InSource sizes g seen answers tick → InDestination sizes g1 seen answers tick) →
    WorksOnSource sizes address tick g0 before g1 coming
receives-all sizes address tick g0 g g1 before coming after so_far step seen all answers last far at =
    let here = so_far seen all answers last far at in
    (here.0, record { all_is = here.1.all_is; few = here.1.few; within = later-within tick tick last coming after here.1.within }, step here.0 answers here.2)

-- the destination's work goes on with a frame of its channel
pub answers-one : (sizes : List ℕ) (address : Address) (tick : ℕ) (g0 g g1 : Gateway) (before coming later : List InTick) (frame : CanFrame) → TakesFirst tick coming later frame → is_addressed address frame ≡ true →
    Answers sizes address tick g0 before g coming →
    ((seen : List Seen) (answers : List Answer) → InDestination sizes g seen answers tick → InDestination sizes g1 seen (answers ++ answer_in tick (unit_for address frame)) tick) →
    Answers sizes address tick g0 before g1 later
answers-one sizes address tick g0 g g1 before coming later frame takes same so_far step seen answers all last far at =
    let here = so_far seen answers all last far at in
    let first = takes-now tick last frame coming later takes here.1.within in
    (here.0 ++ answer_in tick (unit_for address frame), destination-takes address all here.0 tick last frame later same (subst (DestinationSoFar address all tick last here.0) first here.1), step seen here.0 here.2)

-- and with one that isn't
pub answers-other : (sizes : List ℕ) (address : Address) (tick : ℕ) (g0 g : Gateway) (before coming later : List InTick) (frame : CanFrame) → TakesFirst tick coming later frame → is_addressed address frame ≡ false →
    Answers sizes address tick g0 before g coming → Answers sizes address tick g0 before g later
answers-other sizes address tick g0 g before coming later frame takes other so_far seen answers all last far at =
    let here = so_far seen answers all last far at in
    let first = takes-now tick last frame coming later takes here.1.within in
    (here.0, destination-leaves address all here.0 tick last frame later other (subst (DestinationSoFar address all tick last here.0) first here.1), here.2)

-- where the gateway stands at the destination's work
pub at_destination : (sizes : List ℕ) (address : Address) (tick : ℕ) (g0 g : Gateway) (before coming : List InTick) → Answers sizes address tick g0 before g coming →
    MayWorkOnDestination sizes address tick g0 before →
    (seen : List Seen) × (answers : List Answer) × (sizes : List ℕ) × InDestination sizes g seen answers tick
at_destination sizes address tick g0 g before coming so_far start =
    let here = so_far start.0 start.1 start.2 start.3 start.4 start.5 in
    (start.0, here.0, sizes, here.2)

-- where the gateway stands at the source's work
pub at_source : (sizes : List ℕ) (address : Address) (tick : ℕ) (g0 g : Gateway) (before coming : List InTick) → Receives sizes address tick g0 before g coming →
    MayWorkOnSource sizes address tick g0 before →
    (seen : List Seen) × (answers : List Answer) × (sizes : List ℕ) × InSource sizes g seen answers tick
at_source sizes address tick g0 g before coming so_far start =
    let here = so_far start.0 start.1 start.2 start.3 start.4 start.5 in
    (here.0, start.2, sizes, here.2)

-- the destination's work of the tick is done
pub answers-all : (sizes : List ℕ) (address : Address) (tick : ℕ) (g0 g g1 : Gateway) (before coming : List InTick) → ComeAfter tick coming → Answers sizes address tick g0 before g coming →
    ((seen : List Seen) (answers : List Answer) → InDestination sizes g seen answers tick → AtBarrier sizes g1 seen answers (tick + 1)) →
    WorksOnDestination sizes address tick g0 before g1 coming
answers-all sizes address tick g0 g g1 before coming after so_far step seen answers all last far at =
    let here = so_far seen answers all last far at in
    (here.0, record { all_is = here.1.all_is; within = later-within tick tick last coming after here.1.within }, step seen here.0 here.2)

-- before the first tick all frames are still to come
pub starts : (g : Gateway) (m : Machines) (start period last : ℕ) (source destination : List Stamped) →
    length source + length destination ≤ 1000000 → greatest_tick start period source ≤ last → greatest_tick start period destination ≤ last →
    g.machines ≡ m → AtBarrier (m.cells ∷ []) g [] [] 0 →
    SoFar g m (seen_for (address_of m.source) (in_ticks start period source)) (answers_for (address_of m.destination) (in_ticks start period destination)) 0 last
    (in_ticks start period source) (in_ticks start period destination)
starts g m start period last source destination few by by' machines at = record {
  seen = [];
  answers = [];
  next = 0;
  at = at;
  begun = omega arith;
  quiet = inr refl;
  machines = machines;
  on_source = record {
    all_is = refl;
    few = omega (arith, few, length-in_ticks start period 0 source);
    within = come_within start period last source by;
  };
  on_destination = record {
    all_is = refl;
    within = come_within start period last destination by';
  };
}

-- what a tick's work needs on the source's bus
pub works_on_source : (g : Gateway) (m : Machines) (all : List Seen) (all_answers : List Answer) (tick last : ℕ) (source destination : List InTick) →
    SoFar g m all all_answers tick last source destination →
    MayWorkOnSource (m.cells ∷ []) (address_of m.source) tick g source
works_on_source g m all all_answers tick last source destination far =
    (far.seen, all, far.answers, last, far.on_source, begins-tick (m.cells ∷ []) g far.seen far.answers far.next tick far.begun far.quiet far.at)

-- what it needs on the destination's bus
pub works_on_destination : (g g1 : Gateway) (m : Machines) (all : List Seen) (all_answers : List Answer) (tick last : ℕ) (source destination later : List InTick) →
    SoFar g m all all_answers tick last source destination → WorksOnSource (m.cells ∷ []) (address_of m.source) tick g source g1 later →
    MayWorkOnDestination (m.cells ∷ []) (address_of m.destination) tick g1 destination
works_on_destination g g1 m all all_answers tick last source destination later far did =
    let at : InSource (m.cells ∷ []) g far.seen far.answers tick = begins-tick (m.cells ∷ []) g far.seen far.answers far.next tick far.begun far.quiet far.at in
    let one = did far.seen all far.answers last far.on_source at in
    (one.0, far.answers, all_answers, last, far.on_destination, one.2)

-- the tick's work is done on both buses
worked : (g g1 g2 : Gateway) (m : Machines) (all : List Seen) (all_answers : List Answer) (tick last : ℕ) (source destination later later' : List InTick) →
    SoFar g m all all_answers tick last source destination → WorksOnSource (m.cells ∷ []) (address_of m.source) tick g source g1 later → WorksOnDestination (m.cells ∷ []) (address_of m.destination) tick g1 destination g2 later' →
    g1.machines ≡ g.machines → g2.machines ≡ g1.machines → SoFar g2 m all all_answers (tick + 1) last later later'
worked g g1 g2 m all all_answers tick last source destination later later' far did did' same same' =
    let at : InSource (m.cells ∷ []) g far.seen far.answers tick = begins-tick (m.cells ∷ []) g far.seen far.answers far.next tick far.begun far.quiet far.at in
    let one = did far.seen all far.answers last far.on_source at in
    let two = did' one.0 far.answers all_answers last far.on_destination one.2 in
    record {
      seen = one.0;
      answers = two.0;
      next = tick + 1;
      at = two.2;
      begun = omega arith;
      quiet = inr refl;
      machines = same' ∙ same ∙ far.machines;
      on_source = one.1;
      on_destination = two.1;
    }

either_idle : (g : Gateway) (live : Bool) (tick next was : ℕ) → (live ≡ false → IsQuiet g) → (live ≡ false) ⊎ (next ≡ tick + 1) → IsQuiet g ⊎ (tick + 1 ≡ was) → IsQuiet g ⊎ (next ≡ was)
either_idle g live tick next was quiet (inl still) before = inl (quiet still)
either_idle g live tick next was quiet (inr same) (inl idle) = inl idle
either_idle g live tick next was quiet (inr same) (inr same') = inr (same ∙ same')

-- the run goes on with the next tick
pub goes_on : (g g1 g2 : Gateway) (m : Machines) (all : List Seen) (all_answers : List Answer) (live : Bool) (tick last next : ℕ) (source destination later later' : List InTick) →
    SoFar g m all all_answers tick last source destination → WorksOnSource (m.cells ∷ []) (address_of m.source) tick g source g1 later → WorksOnDestination (m.cells ∷ []) (address_of m.destination) tick g1 destination g2 later' →
    g1.machines ≡ g.machines → g2.machines ≡ g1.machines → (live ≡ false → IsQuiet g2) →
    (ComeWithin (tick + 1) last later → ComeWithin (tick + 1) last later' → IsNext live tick last later later' next) →
    (next ≤ last + 1) × SoFar g2 m all all_answers next last later later' × (tick < next)
goes_on g g1 g2 m all all_answers live tick last next source destination later later' before did did' same same' quiet then =
    let far = worked g g1 g2 m all all_answers tick last source destination later later' before did did' same same' in
    let is = then far.on_source.within far.on_destination.within in (
      is.in_time,
      record {
        seen = far.seen;
        answers = far.answers;
        next = far.next;
        at = far.at;
        begun = omega (arith, far.begun, is.later);
        quiet = either_idle g2 live tick next far.next quiet is.idle far.quiet;
        machines = far.machines;
        on_source = record { all_is = far.on_source.all_is; few = far.on_source.few; within = is.on_source };
        on_destination = record { all_is = far.on_destination.all_is; within = is.on_destination };
      },
      is.later,
    )

-- past the last tick nothing is still to come
pub ends : (g : Gateway) (m : Machines) (all : List Seen) (all_answers : List Answer) (tick last : ℕ) (source destination : List InTick) →
    tick ≤ last + 1 → last < tick → SoFar g m all all_answers tick last source destination →
    (seen : List Seen) × (answers : List Answer) × (next : ℕ) × (next ≤ last + 1) × (IsQuiet g ⊎ (next ≡ last + 1)) × (sizes : List ℕ) × AtBarrier sizes g seen answers next
ends g m all all_answers tick last source destination by past far =
    let end : tick ≡ last + 1 = omega arith in
    (far.seen, far.answers, far.next, omega (arith, far.begun), elim far.quiet [ inl idle ↦ inl idle | inr same ↦ inr (sym same ∙ end) ], m.cells ∷ [], far.at)

-- and all came, of which the run tells
pub tells : (g : Gateway) (m : Machines) (clock : Clock) (tick last : ℕ) (source destination : List Stamped) (rest rest' : List InTick) (told : Told) → tick ≤ last + 1 → last < tick →
    SoFar g m (seen_for (address_of m.source) (in_ticks clock.start.0 clock.period source)) (answers_for (address_of m.destination) (in_ticks clock.start.0 clock.period destination)) tick last rest rest' →
    ((sizes : List ℕ) (seen : List Seen) (answers : List Answer) (next : ℕ) → next ≤ last + 1 → IsQuiet g ⊎ (next ≡ last + 1) → AtBarrier sizes g seen answers next → Finishes sizes g.machines clock last seen answers told) →
    Plays m clock last source destination told
unfolding ends
tells g m clock tick last source destination rest rest' told by past far tell =
    let all : List Seen = seen_for (address_of m.source) (in_ticks clock.start.0 clock.period source) in
    let all_answers : List Answer = answers_for (address_of m.destination) (in_ticks clock.start.0 clock.period destination) in
    let none : rest ≡ [] = none-within tick last rest past far.on_source.within in
    let none' : rest' ≡ [] = none-within tick last rest' past far.on_destination.within in
    let seen : far.seen ≡ all = sym (append-nil far.seen) ∙ subst (λ (frames : List InTick). far.seen ++ seen_for (address_of m.source) frames ≡ all) none far.on_source.all_is in
    let answers : far.answers ≡ all_answers =
    sym (append-nil far.answers) ∙ subst (λ (frames : List InTick). far.answers ++ answers_for (address_of m.destination) frames ≡ all_answers) none' far.on_destination.all_is in
    let end = ends g m all all_answers tick last rest rest' by past far in
    let over : Finishes (m.cells ∷ []) m clock last all all_answers told =
    subst (λ (k : Machines). Finishes (m.cells ∷ []) k clock last all all_answers told) far.machines
    (subst (λ (answers : List Answer). Finishes (m.cells ∷ []) g.machines clock last all answers told) answers
    (subst (λ (seen : List Seen). Finishes (m.cells ∷ []) g.machines clock last seen far.answers told) seen (tell (m.cells ∷ []) far.seen far.answers end.2 end.3 end.4 far.at))) in
    record { ticks = over.ticks; end = over.end; run = over.run; tells = over.tells; clock_is = over.clock_is; buffers = over.buffers }
