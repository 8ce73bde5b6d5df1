pub mod Telling
pub mod Faulting
pub mod Laying
pub mod Showing
