-- Registered waits: which are left, which end, and how they fire.
pub mod Ending
pub mod TakenEnds
pub mod Firing
pub mod FiringWorlds
pub mod LeftWaits
pub mod WaitsLost
pub mod Staying
pub mod OwnWaits
pub mod EndedWaits
pub mod WaitsByCall
