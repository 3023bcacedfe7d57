pub mod Queue
pub mod Runs
pub mod Sound
pub mod Over
pub mod Serve
pub mod Chosen
pub mod Linked
