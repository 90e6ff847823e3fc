-- The program's laws. Assumes nothing.
mod Kit
pub mod Performing
pub mod Answering
pub mod Program
pub mod Example
