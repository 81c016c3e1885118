pub mod Codes
pub mod Walks
