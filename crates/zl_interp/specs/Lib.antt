pub mod Cpu
pub mod Counters
pub mod Running
pub mod Program
pub mod Next
pub mod Bursts
pub mod Common
