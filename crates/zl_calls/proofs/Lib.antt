pub mod Common
pub mod Above
pub mod lists
pub mod tables
pub mod objects
pub mod Counted
