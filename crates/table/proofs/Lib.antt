pub mod Arrays
pub mod Lists
pub mod Keeps
pub mod Placing
pub mod Meaning
pub mod Causes
