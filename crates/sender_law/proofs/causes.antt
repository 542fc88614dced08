-- Why records end.
pub mod RunEnds
pub mod SourceEnds
pub mod SourceSeen
pub mod TransmissionCauses
pub mod TxCausesEnd
pub mod TxCausesFrames
pub mod TxCausesLeft
pub mod TxCausesLists
pub mod TxCausesMoments
pub mod TxCausesParts
pub mod TxCausesSteps
pub mod TxCausesTurns
