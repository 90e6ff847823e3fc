-- What the contracts of this crate speak with: the saved list's bytes, and what each entry answers. Assumes nothing.
pub mod Format
pub mod Answers
