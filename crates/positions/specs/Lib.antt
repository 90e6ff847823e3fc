-- What the contracts of the other crates speak with: sets of positions, sums and counts, searches, runs, and what
-- an entry answers. Assumes nothing.
pub mod Positions
pub mod Runs
pub mod Replies
pub mod Walks
