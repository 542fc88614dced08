pub mod causes
pub mod DataFrames
pub mod Emission
pub mod Lists
pub mod records
pub mod transfers
pub mod TxParts
