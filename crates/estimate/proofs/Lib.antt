-- The laws of the estimate. Assumes nothing.
mod Kit
pub mod Laws
pub mod Examples
pub mod AddedSheets
pub mod EstimateReturns
pub mod SheetsLeft
