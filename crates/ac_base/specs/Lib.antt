pub mod Dot
pub mod Gcd
pub mod Multiple
pub mod formers
