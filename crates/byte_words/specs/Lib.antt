pub mod ByteWord
