-- The definitions of the estimate. To believe: Prices (classes, prices, the three answers) and Entry (the promise). Inner has the contracts of
-- inner functions, which no caller sees. Assumes nothing.
pub mod Prices
pub mod Entry
pub mod Inner
