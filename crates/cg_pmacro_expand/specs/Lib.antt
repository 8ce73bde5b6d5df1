-- To be read behind those of `cg_pmacro_builtin` and `cg_pmacro_builtin`. Behind the meaning stands what private functions say.
pub mod Expansion
pub mod Steps
