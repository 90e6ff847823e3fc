-- What an answer says in the specification's numbers. Assumes nothing.
pub mod Refusals
