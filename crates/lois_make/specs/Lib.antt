pub mod MadeScript
pub mod MadeTree
pub mod Laws
pub mod MadeValue
pub mod MadeCounts
