-- The statement on the worked examples of runs.
pub mod SearchWorked
