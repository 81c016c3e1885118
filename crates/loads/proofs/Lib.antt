pub mod Covers
pub mod Edits
pub mod Red
pub mod Nets
pub mod Rows
pub mod Good
pub mod Worked
