pub mod Part
pub mod P1
pub mod Writes
