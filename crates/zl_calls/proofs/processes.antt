-- The list of processes: what the invariant says as one of them changes, is made, ends or goes.
pub mod Written
pub mod Freed
pub mod OneProcess
pub mod Stopped
pub mod Departed
pub mod Idle
pub mod Answering
pub mod InOrder
pub mod Started
pub mod Near
