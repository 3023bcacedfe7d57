pub mod History
pub mod Steps
pub mod Promise
pub mod Questions
pub mod Log
