pub mod Constraints
pub mod Rowed
pub mod Positions
pub mod Keeping
pub mod Outs
pub mod Options
pub mod BothEnds
pub mod EndCells
