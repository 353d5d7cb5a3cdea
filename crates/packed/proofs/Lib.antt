pub mod Bytes
pub mod Laid
pub mod Round
