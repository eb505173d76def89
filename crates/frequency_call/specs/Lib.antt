pub mod FrequencyCall
pub mod Told
