pub mod Means
pub mod Stored
pub mod Turn
pub mod SoundFacts
