pub mod Search
pub mod Stands
pub mod Keeps
pub mod MeantFacts
pub mod OldestFacts
pub mod FrontFacts
pub mod CallFacts
pub mod KeptCalls
