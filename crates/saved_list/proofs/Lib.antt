-- The laws of the saved list: the tests on the bytes, the run rule, the list of runs and its set, the answers. Assumes nothing.
mod Kit
pub mod Bytes
pub mod Rule
pub mod Lists
pub mod WrittenFiles
pub mod GoodFiles
pub mod Turns
mod Examples
