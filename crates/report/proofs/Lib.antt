pub mod Prints
pub mod Statuses
pub mod Determined
pub mod Worked
