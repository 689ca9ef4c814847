pub mod Common
pub mod WalkKeeps
pub mod ValueRows
pub mod CommandLine
pub mod RowsWords
