pub mod Views
pub mod Numbers
pub mod Printable
pub mod Names
pub mod Lookup
