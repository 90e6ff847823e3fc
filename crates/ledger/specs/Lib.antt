-- The ledger's definitions. To believe: Machine, Journal, Memory, Entries, History, Back. Cases has 01's starred cases. Inner
-- has the contracts of inner functions, which no caller sees. Assumes nothing.
pub mod Machine
pub mod Journal
pub mod Memory
pub mod Entries
pub mod History
pub mod Back
pub mod Cases
pub mod Inner
