-- To be read in this order, behind those of `cg_pmacro_expand`. Behind the laws stands what private functions say.
pub mod Splitting
pub mod Definitions
pub mod Tops
pub mod ShortForms
pub mod Laws
pub mod Steps
