-- The two round trips, proved. Assumes nothing.
mod Kit
pub mod RoundTrips
