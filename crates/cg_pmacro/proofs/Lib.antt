pub mod TopRules
pub mod LawLemmas
