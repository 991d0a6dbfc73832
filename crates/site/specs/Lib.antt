pub mod Changes
pub mod Reports
pub mod Files
pub mod SiteFile
pub mod Drafts
pub mod Saying
pub mod Inputs
pub mod Words
