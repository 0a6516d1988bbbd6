pub use Rattle.lois_descent.proofs.OneStatement
pub mod Refusing
pub mod ReadScript
