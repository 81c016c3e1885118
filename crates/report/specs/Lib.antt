pub mod Report
pub mod Room
pub mod Answer
