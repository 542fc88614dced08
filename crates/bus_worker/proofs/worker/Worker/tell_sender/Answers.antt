use Rattle.std.proofs.Common.{◌≡◌, Some, refl, ap, sym, ◌∙◌, length-set}
use Rattle.std.specs.Prelude.{slice_get}
use Rattle.std.proofs.lemmas.Option.{slice_get-get_or}
use Rattle.bus_worker.specs.declared.channel.Channel.{Channel}
use Rattle.bus_worker.proofs.Places.{at-other, at-set, receiving-in, sending-in}
use Rattle.bus_worker.proofs.worker.Worker.tell_sender.Goals as goal

pub tell-requires-clause-can : goal.tell-requires-clause-can
tell-requires-clause-can g c =
    let item = c.in-Some.ensures.item in
    let is : slice_get c.args.self.now.channels.items c.args.place ≡ Some c.in-Some.channel.now = slice_get-get_or c.args.self.now.channels.items c.args.place c.in-Some.channel.now item.3.0 ∙ ap Some (sym item.1) in
    c.requires.can c.in-Some-sending.sending (ap sending-in is ∙ c.in-Some-sending.is)

pub returns : goal.returns
returns g c =
    let item = c.in-Some.ensures.item in
    let channels = c.args.self.now.channels.items in
    let place = c.args.place in
    let is : slice_get channels place ≡ Some c.in-Some.channel.now = slice_get-get_or channels place c.in-Some.channel.now item.3.0 ∙ ap Some (sym item.1) in
    let now : Channel = record { sending = Some c.tell.new.self; receiving = c.in-Some.channel.now.receiving } in
    let set = at-set channels place now item.3.0 in
    record {
      before = c.in-Some-sending.sending;
      after = c.tell.new.self;
      was = ap sending-in is ∙ c.in-Some-sending.is;
      there = ap sending-in set;
      tells = rw (← c.frame_box-number.ensures) c.in_ok-tell.ensures;
      receiver = ap receiving-in set ∙ sym (ap receiving-in is);
      others = record {
        count = length-set channels place now;
        receivers = λ other ne. ap receiving-in (at-other channels place other now ne);
        senders = λ other ne. ap sending-in (at-other channels place other now ne);
        budget = refl;
        routes = refl;
        sent = refl;
      };
    }
