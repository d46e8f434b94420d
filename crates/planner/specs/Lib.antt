-- What the planner does. Read Picks, Answer, Promises in that order. Inner is what functions inside the crate answer; no promise of
-- `build` rests on its words.
pub mod Picks
pub mod Answer
pub mod Promises
pub mod Inner
