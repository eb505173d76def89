pub mod Chain
pub mod Books
