pub mod ValueLaws
pub mod Held
pub mod FieldLaws
