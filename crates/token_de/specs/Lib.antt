pub mod Faults
pub mod Cursors
pub mod Meaning
pub mod Steps
pub mod Custom
pub mod Reading
pub mod Customs
pub mod Separators
