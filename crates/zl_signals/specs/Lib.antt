pub mod Waits
pub mod Indexed
pub mod Numbered
pub mod Firsts
pub mod Boxed
