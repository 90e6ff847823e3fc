-- The laws of the exports for C, and what the header says as theorems. Assumes nothing.
mod Kit
pub mod Header
