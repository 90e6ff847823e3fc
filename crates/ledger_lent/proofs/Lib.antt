-- The laws of the lent forms: that a call of either form has one promise. Assumes nothing.
pub mod Forms
