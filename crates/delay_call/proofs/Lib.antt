pub mod DelayCall
pub mod DelayExamples
