-- What a boot makes, statement by statement.
pub mod BootFaults
pub mod BootGiving
pub mod BootDeclared
pub mod BootMaking
pub mod BootObjects
pub mod BootJobs
pub mod BootConsistent
pub mod BootRun
pub mod BootBlocked
