pub mod Sizes
pub mod Rows
pub mod Places
pub mod Finding
pub mod Tabled
