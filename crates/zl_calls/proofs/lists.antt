-- Lists and maps alone: what loops, searches and changes make of them.
pub mod Mapping
pub mod FilterInPlace
pub mod FilterByFirst
pub mod Positions
pub mod Updates
