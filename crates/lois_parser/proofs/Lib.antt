pub mod Gathering
pub mod InnerForms
pub mod ReadableTokens
pub mod Digits
