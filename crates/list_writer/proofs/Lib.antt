-- The writer's laws. Assumes nothing.
mod Kit
pub mod Stores
pub mod WriteReturns
