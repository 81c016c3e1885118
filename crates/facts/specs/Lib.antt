pub mod Tells
pub mod Same
pub mod Odd
