-- The definitions of the combinations. To believe: Rules (the rule and its three values), Entry (the promise) and Sound (what the audit then
-- says). Inner has the contracts of inner functions, which no caller sees. Assumes nothing.
pub mod Rules
pub mod Entry
pub mod Sound
pub mod Inner
