pub mod Decimal
pub mod Range
pub mod Sum
pub mod Size
pub mod Order
pub mod Least
pub mod Near
