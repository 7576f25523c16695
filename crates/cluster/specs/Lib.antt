pub mod Refusals
pub mod Journal
pub mod State
pub mod Making
pub mod Steps
pub mod Rooms
pub mod Words
