pub mod Means
pub mod Turn
pub mod SoundFacts
