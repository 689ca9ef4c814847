pub mod BySignal
pub mod Entries
pub mod Indexed
pub mod Numbered
pub mod Results
pub mod Takes
