pub mod FaultLemmas
pub mod PlacingLemmas
pub mod ImageLemmas
