use Rattle.tp_sender.specs.declared.event.TxEvent.TheVariants.{RunEnd}
use Rattle.bus_worker.proofs.Finishing.{made-of}
use Rattle.bus_worker.proofs.Phasing.{can-be-told-sender}
use Rattle.bus_worker.proofs.worker.Worker.end_once.Goals as goal

pub tell_sender-requires-clause-can : goal.tell_sender-requires-clause-can
tell_sender-requires-clause-can g c = can-be-told-sender c.args.last.0 c.args.place RunEnd c.args.self.now _ (λ is. cc) c.requires.tick c.requires.rests

pub returns : goal.returns
returns g c =
    let told = c.in_ok-tell_sender.ensures in
    record {
      told = told;
      made = made-of c.records_of-before.result c.records_of.result told.before.dests told.after.dests told.tells.did.records (c.records_of-before.ensures told.before told.was) (c.records_of.ensures told.after told.there) told.tells.dests;
    }
