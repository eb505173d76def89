pub mod DelayCall
