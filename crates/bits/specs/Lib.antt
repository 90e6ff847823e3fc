-- A word read bit by bit. Assumes nothing.
pub mod Bit
pub mod Fields
pub mod Steps
