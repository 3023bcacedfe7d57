pub mod Played
pub mod Cases
