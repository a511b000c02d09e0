-- What is passed on of crates below.
pub use Rattle.suite_program.proofs.ReadyLaws.{are_apart}
pub use Rattle.suite_program.proofs.Below.{IsEdit, edited_by, file_found, is_edit, makes_swap}
pub use Rattle.suite_program.proofs.Below.{makes_swap_back, named_back, named_made, named_of}
pub use Rattle.suite_program.proofs.Below.{not_lacking, ready_with, set_back}
