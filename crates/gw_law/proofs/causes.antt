-- Causes of records that need both parties.
pub mod FirstFrames
pub mod Held
pub mod HeldBytes
pub mod JointCauses
pub mod JointEnds
pub mod JointTicks
pub mod JointWaits
mod OrderedPieces
mod SizedPieces
pub mod SoonOver
