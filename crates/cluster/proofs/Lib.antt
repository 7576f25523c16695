pub mod Lists
pub mod Opened
pub mod Outcomes
pub mod Beginning
pub mod Requesting
pub mod Hearing
pub mod Dropping
pub mod Handing
