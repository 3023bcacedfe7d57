pub mod Stack
pub mod Tall
pub mod SoundFacts
