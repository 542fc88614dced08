-- The records, and what they tell.
pub mod DestRecords
pub mod JointReadings
pub mod JointSenders
pub mod Origins
pub mod StandingReader
