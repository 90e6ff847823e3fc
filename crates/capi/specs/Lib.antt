-- The promises of the set's exports: Exports, to believe. Assumes nothing.
pub mod Exports
