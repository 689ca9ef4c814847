pub mod Typed
mod RowsEveryCall
mod RowsMost
