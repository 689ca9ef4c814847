pub mod Buckets
pub mod Chains
pub mod Packets
pub mod Room
