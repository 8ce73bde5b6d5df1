pub mod FrontLemmas
pub mod IndexLemmas
pub mod OrderLemmas
pub mod Alike
pub mod TryingLemmas
pub mod ChosenLemmas
