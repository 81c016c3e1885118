pub mod Core
pub mod Records
pub mod Answers
pub mod Panels
pub mod Determined
