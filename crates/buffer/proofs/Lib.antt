pub mod Over
pub mod Compare
pub mod Sums
