-- The laws of C's numbers. Assumes nothing.
pub mod Numbers
