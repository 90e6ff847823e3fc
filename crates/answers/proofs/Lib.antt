-- The laws of answers. Assumes nothing.
pub mod Numbers
