pub mod Bodies
pub mod Depths
pub mod Scans
