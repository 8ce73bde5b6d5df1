pub mod Taken
pub mod Stops
pub mod Front
pub mod Sound
pub mod Laws
pub mod Printed
pub mod Last
