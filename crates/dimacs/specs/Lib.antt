pub mod Clause
pub mod Reply
pub mod Forms
pub mod Model
pub mod Refusals
pub mod Lines
pub mod Decision
pub mod ReadBack
