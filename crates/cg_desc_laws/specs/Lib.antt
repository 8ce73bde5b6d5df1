pub mod Clear
pub mod Fitting
pub mod Formed
pub mod InHand
pub mod Meant
pub mod Numbered
