pub mod ApartLiterals
pub mod SplitTerms
