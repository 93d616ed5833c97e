mod Files
mod Loads
