-- What the walk over a set's runs gives to those above it. No promise of an entry for callers names it, and nothing here need be
-- believed. Assumes nothing.
pub mod Walks
pub mod Runs
