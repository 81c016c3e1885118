pub mod Lined
pub mod Writes
pub mod Export
pub mod OverTable
