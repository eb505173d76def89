pub mod ClockCall
pub mod StopDelayCall
pub mod WalkCall
