-- The set's laws. Assumes nothing.
mod Kit
pub mod RefusalChains
pub mod AcceptedHeads
pub mod Slots
pub mod SetWords
pub mod QueryReturns
pub mod OpenBlocks
pub mod RewrittenBlock
pub mod BegunStorage
pub mod SpanMasks
pub mod AssignedWord
pub mod WholeWords
pub mod ChangeReturns
pub mod Pieces
pub mod Walked
pub mod Populations
pub mod CountPieces
pub mod Candidates
pub mod SearchReturns
pub mod LevelWalks
pub mod LevelMasks
pub mod LevelReturns
pub mod StoredLevels
pub mod SelectReturns
pub mod AgreeingSets
pub mod ShownReturns
pub mod WordBits
