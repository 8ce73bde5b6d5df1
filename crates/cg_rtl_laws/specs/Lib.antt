pub mod Shaped
pub mod Named
pub mod Depth
pub mod Covered
pub mod Outside
pub mod Numbered
