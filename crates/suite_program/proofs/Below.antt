-- What is passed on of crates below.
pub use Rattle.mutant_runs.proofs.Adding.{fields_same, methods_same, parent_case}
pub use Rattle.mutant_runs.proofs.EditLaws.{IsEdit, is_edit}
pub use Rattle.mutant_runs.proofs.Longer.{code_same, desc_same, each_same, linked_frames}
pub use Rattle.mutant_runs.proofs.Longer.{linked_lines, name_same}
pub use Rattle.mutant_runs.proofs.MutantLaws.{ready_with}
pub use Rattle.mutant_runs.proofs.NamedLaws.{named_back, named_made, named_of}
pub use Rattle.mutant_runs.proofs.ProgramLaws.{edited_by, file_found, makes_swap, makes_swap_back}
pub use Rattle.mutant_runs.proofs.ProgramLaws.{set_back}
pub use Rattle.mutant_runs.proofs.ReadyLaws.{not_lacking}
