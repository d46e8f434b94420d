-- The laws by topic.
pub mod Bools
pub mod Lists
pub mod Groups
pub mod Constraints
pub mod Rows
pub mod Parts
pub mod Reserve
pub mod Cluster
pub mod Sound
pub mod Updated
pub mod Steps
pub mod Written
pub mod RoundTrip
pub mod Walk
pub mod Reading
pub mod Views
