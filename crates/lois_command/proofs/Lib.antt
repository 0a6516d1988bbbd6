pub mod ClapWalk
pub mod FreeNames
pub mod PlainWords
pub mod Given
pub mod OnePlace
pub mod Firsts
