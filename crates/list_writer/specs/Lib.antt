-- The writer's definitions. To believe: Entry, over the bytes of saved_list's Format. Inner has the contracts of inner functions,
-- which no caller sees. Assumes nothing.
pub mod Entry
pub mod Inner
