-- The laws, by topic.
pub mod Naming
pub mod Moves
pub mod Packing
pub mod Pairs
pub mod Waits
pub mod Joining
pub mod Turning
pub mod Pivots
pub mod Direct
pub mod Last
pub mod Budget
pub mod Lone
pub mod Making
pub mod Answers
pub mod Promised
pub mod Paper
