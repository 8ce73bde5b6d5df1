pub mod Delimited
pub mod Runs
pub mod OneSplit
pub mod Passing
pub mod Words
pub mod Gaps
