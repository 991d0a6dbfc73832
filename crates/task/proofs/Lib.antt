pub mod Blank
pub mod Moving
pub mod Standing
