pub mod Bools
pub mod Tells
pub mod Same
pub mod Odd
pub mod Lists
pub mod Pigeons
