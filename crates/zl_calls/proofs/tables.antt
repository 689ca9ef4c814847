-- Handle tables: handles that enter them and leave them.
pub mod Tables
pub mod Granted
pub mod Taking
pub mod Entered
pub mod EnteredTables
pub mod TakenBy
pub mod ChildBy
pub mod TaskBy
