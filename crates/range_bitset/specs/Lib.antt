-- The set's definitions. To believe: Layout, Read, Represents, Answers, Entries. Shown has the promises of the entries that the
-- audit reads by, Inner and Levels the contracts of inner functions, which no caller sees. Assumes nothing.
pub mod Layout
pub mod Read
pub mod Represents
pub mod Answers
pub mod Entries
pub mod Inner
pub mod Lent
pub mod Levels
pub mod Shown
