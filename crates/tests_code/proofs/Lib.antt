pub mod Nodes
pub mod RuleLaws
pub mod FieldLaws
pub mod PartLaws
pub mod SlotLaws
