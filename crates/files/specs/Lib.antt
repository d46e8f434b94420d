-- What the library's own functions answer.
pub mod Number
pub mod Long
