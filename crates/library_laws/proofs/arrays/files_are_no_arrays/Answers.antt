use Rattle.library_laws.proofs.FileNames.{no_arrays}
use Rattle.library_laws.proofs.arrays.files_are_no_arrays.Goals as goal

pub returns : goal.returns
returns c = no_arrays
