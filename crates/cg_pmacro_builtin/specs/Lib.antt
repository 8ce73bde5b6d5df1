-- To be read in this order: what comes of an expansion, forms in which arguments were put, and what the built-in macros give.
-- Behind them stands what private functions say, and how a value is seen as a form.
pub mod Outcome
pub mod Sizes
pub mod Shapes
pub mod BuiltIns
pub mod Reports
pub mod Manners
pub mod Depths
pub mod Values
pub mod Falls
pub mod Replacing
pub mod Hiding
