use Rattle.test_list_laws.proofs.Listing.{tests_listed_exactly}
use Rattle.test_list_laws.proofs.tests_are_listed.Goals as goal

pub returns : goal.returns
returns c = tests_listed_exactly
