pub mod Entries
pub mod Lawful
pub mod Orderless
pub mod Runs
pub mod Steps
