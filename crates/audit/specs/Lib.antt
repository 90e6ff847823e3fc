-- The audit's definitions. To believe: Sound (01's rules) and Entry (the promise). Inner has the contracts of inner functions,
-- which no caller sees. Assumes nothing.
pub mod Sound
pub mod Entry
pub mod Inner
