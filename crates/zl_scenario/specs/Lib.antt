pub mod Causes
pub mod Numbers
pub mod Handles
pub mod Scenario
pub mod Accepted
pub mod Reads
pub mod Reading
