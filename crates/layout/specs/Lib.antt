pub mod Kinds
pub mod Rules
pub mod Faults
pub mod Scan
