pub mod Counted
pub mod Trees
pub mod Candidates
pub mod Telling
pub mod Growing
pub mod Finding
pub mod Decoding
