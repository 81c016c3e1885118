pub mod Line
pub mod Tally
pub mod Seen
pub mod Marks
