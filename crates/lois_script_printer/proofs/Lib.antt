pub mod Appending
pub mod WrittenTokens
pub mod Places
pub mod ReadAgain
