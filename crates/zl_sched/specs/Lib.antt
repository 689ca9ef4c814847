pub mod Follows
pub mod HandIn
pub mod Opening
pub mod Queueing
pub mod Ready
pub mod System
