pub mod Tops
pub mod ShiftedFits
pub mod MoreAtoms
pub mod UnderGuard
pub mod Heights
pub mod Unmoved
pub mod Shapes
pub mod Positions
