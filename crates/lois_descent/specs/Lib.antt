pub mod Lexemes
pub mod Reading
pub mod Descent
pub mod Refusals
pub mod Machine
pub mod Steps
pub mod Laws
