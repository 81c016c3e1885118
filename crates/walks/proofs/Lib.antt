pub mod Words
pub mod Walk
