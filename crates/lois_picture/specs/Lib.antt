pub mod GraphData
pub mod NodeView
pub mod EdgeView
pub mod Graphs
pub mod GraphText
pub mod Drawing
pub mod Pictures
