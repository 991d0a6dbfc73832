-- The bytes of the sample files, what is to be said of them, and the row of random numbers.
pub mod Samples
pub mod Worked
pub mod Numbers
