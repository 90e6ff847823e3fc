-- The two round trips of a saved list, and the promise of the function that makes one. Assumes nothing.
pub mod RoundTrip
