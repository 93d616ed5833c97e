mod Cursors
pub mod Passed
pub mod Trees
pub mod Words
