pub mod Worked
