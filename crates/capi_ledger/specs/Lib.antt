-- The definitions of the ledger's exports for C: LedgerTold, to believe. Assumes nothing.
pub mod LedgerTold
