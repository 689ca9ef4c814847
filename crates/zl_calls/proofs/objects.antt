-- The objects and the counts of handles: what the invariant says as one of them changes, is made or goes.
pub mod Active
pub mod SameButWaits
pub mod SameBodies
pub mod Rebodied
pub mod Queued
pub mod Packed
pub mod Held
pub mod Grown
pub mod Counting
pub mod Counted
pub mod Settled
pub mod Seen
