-- The definitions of a list of calls run by code. To believe: Replay. Inner has the contracts of inner functions, which no
-- caller sees. Assumes nothing.
pub mod Replay
pub mod Inner
