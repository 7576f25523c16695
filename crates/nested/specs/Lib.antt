pub mod Nesting
pub mod Groups
