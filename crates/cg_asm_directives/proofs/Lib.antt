pub mod OrderLemmas
pub mod ContentLemmas
pub mod DataLemmas
