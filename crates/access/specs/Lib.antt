pub mod Plain
pub mod Elements
pub mod Nested
pub mod Calls
pub mod Talks
