pub mod Tests
pub mod Carried
pub mod Adding
pub mod Dropping
pub mod Moving
pub mod Sequences
pub mod Determined
pub mod Colours
