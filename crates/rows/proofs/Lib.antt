pub mod Runs
pub mod Going
pub mod Laws
pub mod Determined
pub mod Worked
