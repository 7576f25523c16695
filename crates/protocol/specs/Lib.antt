pub mod Versions
pub mod Messages
pub mod Replicas
pub mod Clients
