pub mod Fresh
pub mod Places
pub mod Meant
pub mod Front
pub mod Oldest
pub mod Open
pub mod Device
