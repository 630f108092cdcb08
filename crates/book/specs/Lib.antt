pub mod Answers
pub mod Book
pub mod Calls
pub mod Events
pub mod Law
pub mod Rows
pub mod Theorems
