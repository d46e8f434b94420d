-- What the two records mean. Room and Plan are what a reader must believe; Inner is what functions inside and between
-- the crates answer on the way.
pub mod Base
pub mod Bytes
pub mod Room
pub mod Plan
pub mod Inner
