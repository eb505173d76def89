pub mod FrequencyCall
pub mod FrequencyExamples
pub mod Told
