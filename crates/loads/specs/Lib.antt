pub mod Loads
pub mod Edits
