pub mod Clauses
pub mod References
pub mod Finding
pub mod Units
pub mod E304
pub mod E306
pub mod E305
