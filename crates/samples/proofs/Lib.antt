-- The sample files by their commands, and the lemmas that this rests on: tests that decide what is said of files and rankings; and by these the worked examples.
pub mod Deciding
pub mod Listing
pub mod Rules
pub mod Accepting
pub mod Reading
pub mod Examples
