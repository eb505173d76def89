pub mod CellSetCall
