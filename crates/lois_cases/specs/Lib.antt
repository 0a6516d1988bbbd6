pub mod Cases
pub mod Holding
pub mod Partitions
pub mod CaseCount
