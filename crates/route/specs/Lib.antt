pub mod Routes
pub mod Cut
pub mod Relaxed
