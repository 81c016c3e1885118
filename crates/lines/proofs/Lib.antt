pub mod Words
pub mod Lines
pub mod Answers
pub mod Determined
pub mod Short
pub mod ReadBack
pub mod Worked
