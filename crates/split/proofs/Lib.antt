-- The laws, by topic, for this crate's proofs and for the crates above.
pub mod Laws
