-- The laws of the walk over a set's runs. Assumes nothing.
mod Kit
pub mod RunWalks
