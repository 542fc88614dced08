use Rattle.std.proofs.Common.{◌≡◌, Some, refl, ap, sym, ◌∙◌, length-set}
use Rattle.std.specs.Prelude.{slice_get}
use Rattle.std.proofs.lemmas.Option.{slice_get-get_or}
use Rattle.bus_worker.specs.declared.channel.Channel.{Channel}
use Rattle.bus_worker.proofs.Places.{at-other, at-set, receiving-in, sending-in}
use Rattle.bus_worker.proofs.worker.Worker.tell_receiver.Goals as goal

pub tell-requires-clause-can : goal.tell-requires-clause-can
tell-requires-clause-can g c =
    let item = c.in-Some.ensures.item in
    let is : slice_get c.args.self.now.channels.items c.args.place ≡ Some c.in-Some.channel.now = slice_get-get_or c.args.self.now.channels.items c.args.place c.in-Some.channel.now item.3.0 ∙ ap Some (sym item.1) in
    c.requires.can c.in-Some-receiving.receiving (ap receiving-in is ∙ c.in-Some-receiving.is)

pub returns : goal.returns
returns g c =
    let item = c.in-Some.ensures.item in
    let channels = c.args.self.now.channels.items in
    let place = c.args.place in
    let is : slice_get channels place ≡ Some c.in-Some.channel.now = slice_get-get_or channels place c.in-Some.channel.now item.3.0 ∙ ap Some (sym item.1) in
    let now : Channel = record { receiving = Some c.tell.new.self; sending = c.in-Some.channel.now.sending } in
    let set = at-set channels place now item.3.0 in
    record {
      before = c.in-Some-receiving.receiving;
      after = c.tell.new.self;
      was = ap receiving-in is ∙ c.in-Some-receiving.is;
      there = ap receiving-in set;
      tells = rw (← c.control_box-number.ensures) c.in_ok-tell.ensures;
      sender = ap sending-in set ∙ sym (ap sending-in is);
      others = record {
        count = length-set channels place now;
        receivers = λ other ne. ap receiving-in (at-other channels place other now ne);
        senders = λ other ne. ap sending-in (at-other channels place other now ne);
        budget = refl;
        routes = refl;
        sent = refl;
      };
    }
