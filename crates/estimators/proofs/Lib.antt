pub mod Counting
pub mod Linking
pub mod Measuring
pub mod Keeping
