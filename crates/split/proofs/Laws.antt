-- The laws, by topic.
pub mod Singles
pub mod Writing
pub mod Packing
pub mod Promised
pub mod Readings
