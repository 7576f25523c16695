pub mod Runs
pub mod Marks
pub mod Claims
pub mod Summaries
pub mod Examples
pub mod Simulations
