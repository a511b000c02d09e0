-- What is passed on of crates below.
pub use Rattle.jvm_act.proofs.Below.{found_at, some_and, stands}
pub use Rattle.jvm_act.proofs.Executed.{acts_on}
pub use Rattle.jvm_act.proofs.Framed.{begins_keep_frames}
pub use Rattle.jvm_unwind.proofs.Left.{with_some}
pub use Rattle.jvm_act.proofs.Executed as jvm_act_Executed
