pub mod ByBusLemmas
pub mod MatchLemmas
