-- What is passed on of crates below.
pub use Rattle.jvm_invokes.proofs.Standing.{found_at, stands}
pub use Rattle.jvm_rows.proofs.Ends.{some_and}
