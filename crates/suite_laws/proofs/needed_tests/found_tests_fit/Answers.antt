use Rattle.std.proofs.Common.{refl}
use Rattle.suite_program.specs.Below.{files_of}
use Rattle.suite_laws.proofs.needed_tests.found_tests_fit.Goals as goal

pub returns : goal.returns
returns c = λ classes p most names ts h found.
    c.found_in_programs_fit.ensures p (files_of p) most names ts h.program refl h.ready.accepted found
