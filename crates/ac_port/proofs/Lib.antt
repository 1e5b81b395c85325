pub mod Known
mod Lookup
