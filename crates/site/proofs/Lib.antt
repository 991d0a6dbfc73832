pub mod Changing
pub mod Opening
pub mod Reading
pub mod Once
pub mod Drafting
pub mod Limiting
mod Telling
mod SiteReading
