pub mod FinePairs
