-- What the contracts of this crate speak with. To believe: Lines (what a line means), Answers (what an answer's line reads) and
-- Input (how input falls into lines). Inner has the contract of an inner function, which no caller sees. Assumes nothing.
pub mod Lines
pub mod Answers
pub mod Input
pub mod Inner
