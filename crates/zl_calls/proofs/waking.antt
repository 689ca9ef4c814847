-- Blocked processes: how they come into the list, and how they wake.
pub mod BlockedLists
pub mod Sleeping
pub mod Woken
pub mod WakeLoop
pub mod Exchange
pub mod Listed
pub mod Ordered
pub mod StillBlocked
pub mod Quiet
