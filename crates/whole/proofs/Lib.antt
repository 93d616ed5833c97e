mod Roots
mod Wholes
