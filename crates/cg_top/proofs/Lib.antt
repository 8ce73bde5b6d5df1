pub mod AskingLemmas
pub mod OwnLemmas
pub mod FrontLemmas
pub mod Loaded
pub mod AnswerLemmas
pub mod CarryLemmas
pub mod SomeReading
pub mod LineLemmas
