-- What soundness is worth, and the laws of the audit's returns. Assumes nothing.
mod Kit
pub mod SoundStorage
pub mod Soundness
pub mod AuditBlocks
pub mod Audits
