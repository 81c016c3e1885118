pub mod Clauses
pub mod Groups
pub mod Reading
