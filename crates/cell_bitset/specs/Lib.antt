pub mod CellSet
pub mod CellWords
