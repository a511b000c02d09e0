use Rattle.suite_records.proofs.Tests.{own_tests}
use Rattle.suite_records.proofs.found_are_own_tests.Goals as goal

pub returns : goal.returns
returns c =
    own_tests c.programs_have_files.ensures c.accepted_declare_once.ensures c.found_are_tests_of.ensures
    c.rising_ends.ensures
