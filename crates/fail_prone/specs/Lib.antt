pub mod Listed
pub mod Accepted
pub mod ListedLemmas
