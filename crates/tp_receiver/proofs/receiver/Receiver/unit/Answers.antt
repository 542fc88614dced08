use Rattle.tp_receiver.proofs.Sizes.{fits-single, long-first, more-first, some-single}
use Rattle.tp_receiver.proofs.receiver.Receiver.unit.Goals as goal

pub single_frame-requires-clause-some : goal.single_frame-requires-clause-some
single_frame-requires-clause-some g c = rw c.as_slice.ensures.value (some-single _ _ _ c.args.self.now.set_in_range.address (rw c.in-Sf.is at c.requires.read))

pub first_frame-requires-clause-more : goal.first_frame-requires-clause-more
first_frame-requires-clause-more g c = rw c.as_slice-in-Ff-2.ensures.value (more-first _ _ _ _ c.args.self.now.set_in_range.address (rw c.in-Ff.is at c.requires.read))

pub single_frame-requires-clause-size : goal.single_frame-requires-clause-size
single_frame-requires-clause-size g c = rw c.as_slice.ensures.value (fits-single _ _ _ c.args.self.now.set_in_range.address (rw c.in-Sf.is at c.requires.read))

pub first_frame-requires-clause-size : goal.first_frame-requires-clause-size
first_frame-requires-clause-size g c = long-first _ _ _ _ c.args.self.now.set_in_range.address (rw c.in-Ff.is at c.requires.read)
