pub mod Rising
pub mod Signing
