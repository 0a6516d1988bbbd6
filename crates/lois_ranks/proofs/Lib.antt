pub mod Alike
mod Places
