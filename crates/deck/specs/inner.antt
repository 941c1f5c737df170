-- Words of private contracts alone: no public contract and no theorem stands on them.
pub mod Fault
pub mod Found
