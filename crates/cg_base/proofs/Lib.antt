pub mod Words
pub mod Widths
pub mod ByteOrders
pub mod Readings
