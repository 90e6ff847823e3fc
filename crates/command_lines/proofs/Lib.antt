-- The laws of this crate. Assumes nothing.
mod Kit
pub mod Fields
pub mod Decimals
pub mod Filling
pub mod Gathering
pub mod Buffers
mod Examples
