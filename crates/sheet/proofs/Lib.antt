mod Made
pub mod Lines
pub mod Inputs
pub mod Runs
