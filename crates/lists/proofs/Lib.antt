pub mod Walk
pub mod Laws
pub mod Meaning
