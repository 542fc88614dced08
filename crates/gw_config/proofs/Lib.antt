pub mod EachLemmas
pub mod HexLemmas
