pub mod Seen
pub mod Bundles
pub mod Decoding
