pub mod Clock
pub mod ClockExamples
pub mod StopDelayExamples
pub mod WalkExamples
pub mod SettingsExamples
