pub mod Evens
pub mod EvenLemmas
