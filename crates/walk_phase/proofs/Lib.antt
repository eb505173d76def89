pub mod Edges
pub mod Falling
pub mod Along
pub mod Edge
pub mod From
pub mod Appending
pub mod Phases
