pub mod E309
pub mod E310
pub mod E311
pub mod E312
pub mod E313
pub mod E316
