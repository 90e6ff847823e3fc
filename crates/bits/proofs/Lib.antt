-- The laws of a word's bits, general in the width. Assumes nothing.
mod Kit
pub mod Bits
pub mod Masks
pub mod Ones
pub mod Words
pub mod Walks
pub mod Fields
mod Examples
