-- The laws of the ledger's exports for C, and what the header says of them as theorems. Assumes nothing.
mod Kit
pub mod LedgerHeader
pub mod ListHeader
pub mod EstimateHeader
