pub mod Search
pub mod Numbers
