mod Takes
pub mod Nested
mod Ledger
mod Talks
