pub mod Firsts
pub mod Earliest
pub mod Before
