pub mod Examples
pub mod Sending
