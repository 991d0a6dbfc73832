pub mod Limits
pub mod Boards
pub mod Laws
pub mod Takes
pub mod Refusals
pub mod Planner
pub mod Promises
