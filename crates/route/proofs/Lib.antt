pub mod Cut
pub mod Verdicts
pub mod Rows
pub mod Answers
pub mod Determined
pub mod Budgets
pub mod Relaxed
