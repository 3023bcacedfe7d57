pub mod Buffer
pub mod Service
pub mod Means
pub mod Turn
pub mod SoundFacts
