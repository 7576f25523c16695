pub mod Systems
pub mod Refusals
pub mod Thresholds
pub mod ThresholdsLemmas
pub mod Weights
