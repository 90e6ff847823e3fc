-- What a command does to the program's ledger, how lines are answered, and the program as a whole. Assumes nothing.
pub mod Performing
pub mod Answering
pub mod Program
pub mod Inner
