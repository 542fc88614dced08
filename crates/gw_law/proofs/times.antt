mod OnePiece
pub mod Pieces
pub mod RxCame
mod RxCells
mod RxPlaces
pub mod RxUpTo
pub mod Timely
pub mod TxHeld
pub mod TxUpTo
