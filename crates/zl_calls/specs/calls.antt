-- What system calls do, in a file for each kind of object.
pub mod Answer
pub mod Making
pub mod Handle
pub mod Event
pub mod Process
pub mod Channel
pub mod Reading
pub mod Wait
pub mod Port
pub mod Async
pub mod Job
pub mod Task
