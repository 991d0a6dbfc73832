pub mod Dominating
mod Serving
mod Replying
mod Ranges
mod Rising
pub mod Judging
mod Linking
mod Pairs
mod Comparing
mod Concluding
pub mod Once
