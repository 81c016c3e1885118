pub mod Walks
pub mod Covers
pub mod Free
pub mod Lists
pub mod Outside
