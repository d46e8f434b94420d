-- What dividing a plan into single moves means. Read Splits, then Promises. Inner is what functions inside the crate answer; no promise of `split` rests
-- on its words.
pub mod Splits
pub mod Promises
pub mod Inner
