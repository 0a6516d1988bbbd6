pub mod CommandLine
pub mod TextsOfOutcomes
pub mod AnswersWritten
pub mod Sure
