-- The laws of a list of calls run by code. Assumes nothing.
pub mod Replays
