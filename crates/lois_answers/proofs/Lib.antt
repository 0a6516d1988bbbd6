pub mod LastNamed
pub mod Lists
