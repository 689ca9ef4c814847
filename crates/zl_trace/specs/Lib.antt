pub mod Output
pub mod Reading
pub mod Replaying
pub mod Text
