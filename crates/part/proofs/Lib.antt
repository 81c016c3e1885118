pub mod Table
pub mod Sections
pub mod Answers
pub mod RoundTrip
pub mod Determined
