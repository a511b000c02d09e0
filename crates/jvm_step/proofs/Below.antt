-- What is passed on of crates below.
pub use Rattle.jvm_lines.proofs.Below.{acts_on, some_and, with_some}
pub use Rattle.jvm_lines.proofs.Reached.{lines_are, reached_same}
pub use Rattle.jvm_lines.proofs.Below.jvm_act_Executed as jvm_act_Executed
