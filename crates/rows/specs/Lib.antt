pub mod Checks
pub mod Refusals
pub mod Spans
pub mod Rows
pub mod Kinds
pub mod Orders
pub mod Numbers
pub mod Laws
