pub mod Sheets
pub mod Tokens
pub mod Spots
pub mod Trees
pub mod Inputs
