pub mod LabelLemmas
pub mod JoiningLemmas
pub mod LineLemmas
