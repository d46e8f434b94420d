-- The laws by topic.
pub mod Digits
pub mod Long
pub mod Numbers
