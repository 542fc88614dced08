-- Where no buffer waits for its free, what the law says of every list of steps is that the view of all ports is joint.
use Rattle.std.proofs.Common.{ℕ, List, [], refl}
use Rattle.hub_core.proofs.EveryStep.{core}
use Rattle.hub_core.specs.Core.{AreJoint, QuietLaw}
use Rattle.hub_core.specs.Joint.{IsQuiet, Joint}
use Rattle.hub_core.specs.View.{View, empty_view}

pub quiet-joint : (groups : List (List ℕ)) (v : View) → AreJoint groups v → IsQuiet groups v → Joint groups v
quiet-joint groups v joint quiet = record {
  journal = joint.journal;
  overflows = joint.overflows;
  streams = joint.streams;
  owned = record {
    taken = joint.owned.taken;
    own = joint.owned.own;
    unused = joint.owned.unused;
    next = joint.owned.next;
    kept = joint.owned.kept;
    freed = quiet;
    joined = joint.owned.joined;
    no_readers = joint.owned.no_readers;
  };
}

-- an empty view is joint
pub empty-joint : (groups : List (List ℕ)) → Joint groups empty_view
empty-joint groups = quiet-joint groups empty_view (core groups [] empty_view refl) (λ path seq s at over. absurd cc)

pub law : QuietLaw
law groups steps v led quiet = quiet-joint groups v (core groups steps v led) quiet
