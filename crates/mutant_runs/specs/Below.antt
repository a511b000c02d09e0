-- What is passed on of crates below.
pub use Rattle.jvm_run.specs.Below.{looked_up}
