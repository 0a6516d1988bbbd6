pub mod Same
pub mod Contrasts
pub mod Members
pub mod Rows
pub mod Likenesses
pub mod ContrastText
pub mod TwoTexts
pub mod Laws
