pub mod Walking
pub mod Coding
pub mod Meaning
