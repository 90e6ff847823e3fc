-- The laws of the definitions in specs/, which the other crates' proofs cite. Assumes nothing.
mod Kit
pub mod Bools
pub mod Totals
pub mod Sums
pub mod Counts
pub mod Ranges
pub mod Assigned
pub mod Searches
pub mod Selects
pub mod Runs
pub mod Changes
mod Examples
pub mod Replies
