-- What the rules mean. Read Moments, Orders, Rules, Cost, Verdict, Returned, Divides, Promises in that order. Inner is what
-- functions between the crates and inside them answer; no promise of `check` rests on its words.
pub mod Moments
pub mod Orders
pub mod Rules
pub mod Cost
pub mod Verdict
pub mod Returned
pub mod Divides
pub mod Promises
pub mod Inner
