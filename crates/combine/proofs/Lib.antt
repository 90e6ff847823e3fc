-- The laws of the combinations. Assumes nothing.
mod Kit
pub mod RuleMasks
pub mod Gathered
pub mod StoredWords
pub mod WordKinds
pub mod Sides
pub mod WrittenBlock
pub mod SettledParts
pub mod TellingSides
pub mod BlockWalk
pub mod CombineReturns
pub mod Laws
pub mod SoundThird
