pub mod ShapeLemmas
pub mod ShortForms
pub mod GatheringLemmas
pub mod OneReading
pub mod AskedLemmas
