pub mod Unless
pub mod Lent
pub mod Spans
pub mod Rows
pub mod Orders
