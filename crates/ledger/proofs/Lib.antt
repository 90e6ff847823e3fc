-- The ledger's laws, and the proof of the history theorem. Assumes nothing.
mod Kit
pub mod Journals
pub mod Machines
pub mod Refusals
pub mod RecordedRuns
pub mod AssignReturns
pub mod ReassignedRuns
pub mod BackReturns
pub mod OpenReturns
pub mod Histories
pub mod Flags
pub mod Backs
