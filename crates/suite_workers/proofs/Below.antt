-- What is passed on of crates below.
pub use Rattle.suite_jobs.proofs.Below.{not_lacking}
