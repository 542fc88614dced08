-- A run, and what each machine did in it.
pub mod Offers
pub mod RxFollows
pub mod RxFuller
pub mod RxLaws
pub mod RxRises
pub mod RxRuns
pub mod RxWritten
