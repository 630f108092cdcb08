pub mod Calls
pub mod Guarded
pub mod Keeping
pub mod LayEnd
pub mod Search
pub mod Sound
pub mod Steps
pub mod View
