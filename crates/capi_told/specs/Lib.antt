-- The definitions of C's numbers: Told, to believe. Assumes nothing.
pub mod Told
