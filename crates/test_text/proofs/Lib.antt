pub mod Digits
pub mod Laying
pub mod Runs
pub mod Grammar
