-- What a stop means. Read Stops, then Promises. Inner is what functions inside the crate answer; no promise of `stop` rests on its words.
pub mod Stops
pub mod Promises
pub mod Inner
