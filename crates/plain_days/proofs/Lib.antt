pub mod DayTests
pub mod Examples
pub mod PlainDays
pub mod SteadyDays
