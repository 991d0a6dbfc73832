-- The proof of the worked examples of runs.
mod Running
