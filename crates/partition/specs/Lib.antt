pub mod Constraint
pub mod Sum
pub mod Weights
pub mod Terms
pub mod Pass
pub mod Summed
pub mod Laws
pub mod inner
