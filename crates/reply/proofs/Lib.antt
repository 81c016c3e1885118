pub mod Rows
pub mod Spelling
pub mod Bridge
pub mod Weighing
pub mod Answering
pub mod Exact
pub mod Cut
pub mod Determined
