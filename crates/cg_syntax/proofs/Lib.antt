pub mod BundleLemmas
pub mod FaultLemmas
pub mod ByteLemmas
pub mod StatingLemmas
pub mod ShowingLemmas
pub mod ReadyLemmas
