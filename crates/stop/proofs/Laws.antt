-- The laws, by topic.
pub mod Placed
pub mod Walks
pub mod Writing
pub mod Outcomes
pub mod Before
pub mod Standing
pub mod Stopping
pub mod Packing
pub mod Promised
pub mod Readings
