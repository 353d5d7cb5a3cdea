pub mod Buffers
pub mod Guarded
pub mod Keeping
pub mod Loads
