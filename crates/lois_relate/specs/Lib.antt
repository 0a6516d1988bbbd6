pub mod Relations
pub mod Named
pub mod Built
pub mod Alike
pub mod Singles
pub mod Compared
pub mod Apart
pub mod Candidates
