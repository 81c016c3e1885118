pub mod Exports
pub mod Fits
