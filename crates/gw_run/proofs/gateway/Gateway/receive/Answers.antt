use Rattle.std.proofs.Common.{ℕ, List, length, sym, subst}
use Rattle.tp_receiver.specs.State.{Came}
use Rattle.gw_law.specs.Channels.{bytes_of_address}
use Rattle.gw_run.specs.Frames.{address_of, unit_for}
use Rattle.tp_unit.specs.Unit.{Meaning}
use Rattle.gw_run.specs.Standing.{lying}
use Rattle.gw_run.specs.Telling.{CanTell, TellsReceiver}
use Rattle.gw_run.proofs.CanTell.{can-receive}
use Rattle.gw_run.proofs.Ticks.{received}
use Rattle.gw_run.proofs.gateway.Gateway.receive.Goals as goal

pub tell_receiver-requires : goal.tell_receiver-requires
tell_receiver-requires c =
    let g = c.args.self.now in
    let frame = c.args.frame.now in
    let P : Meaning → Type 0 = λ m. CanTell g.receiver g.hub (Came (length c.bytes.result.now) m) c.args.tick.0 in
    let Q : List ℕ → Type 0 = λ b. CanTell g.receiver g.hub (Came (length b) (unit_for (address_of c.args.address) frame)) c.args.tick.0 in
    subst P (sym c.unit.ensures) (subst Q (sym c.bytes.ensures.bytes) (can-receive c.requires.at.3 g c.requires.at.0 c.requires.at.1 (bytes_of_address c.args.address.byte) c.args.tick.0 frame c.bytes.ensures.lawful c.requires.at.2 c.requires.address c.requires.at.4))

pub returns-clause-step : goal.returns-clause-step
returns-clause-step c = λ sizes seen answers at.
    let g = c.args.self.now in
    let h = c.tell_receiver.new.self in
    let frame = c.args.frame.now in
    let P : Meaning → Type 0 = λ m. TellsReceiver g h (Came (length c.bytes.result.now) m) c.args.tick.0 (lying g.control) g.controls in
    let Q : List ℕ → Type 0 = λ b. TellsReceiver g h (Came (length b) (unit_for (address_of c.args.address) frame)) c.args.tick.0 (lying g.control) g.controls in
    received sizes g h seen answers (bytes_of_address c.args.address.byte) c.args.tick.0 frame at (subst Q c.bytes.ensures.bytes (subst P c.unit.ensures c.in_ok-tell_receiver.ensures))
