pub mod Lines
pub mod Refusals
pub mod Scores
pub mod Sheets
pub mod Worked
pub mod Writing
