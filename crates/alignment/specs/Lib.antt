pub mod Bands
pub mod Refusals
