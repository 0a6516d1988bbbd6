pub mod Printed
pub mod Unplaced
pub mod Appended
