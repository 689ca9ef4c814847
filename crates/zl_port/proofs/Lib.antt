pub mod Cancelled
pub mod InBucket
pub mod InSlots
pub mod Linking
pub mod Queued
pub mod Walking
