pub mod Limits
pub mod Task
pub mod Tables
pub mod Meaning
