pub mod State
pub mod Walks
