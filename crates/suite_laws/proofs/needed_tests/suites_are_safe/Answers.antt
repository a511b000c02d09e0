use Rattle.suite_laws.proofs.Safe.{suites_are_safe}
use Rattle.suite_laws.proofs.needed_tests.suites_are_safe.Goals as goal

pub returns : goal.returns
returns c =
    suites_are_safe c.ordered_is_built.ensures c.tops_are_object.ensures c.ordered_has_layout.ensures c.faults_are_there.ensures
    c.library_is_there.ensures c.object_is_bare.ensures c.arrays_have_supers.ensures c.files_are_no_arrays.ensures
    c.library_is_closed.ensures c.natives_have_hosts.ensures c.keepers_have_hosts.ensures c.accepted_are_linked.ensures
    c.natives_fit.ensures c.natives_that_keep_items_fit.ensures.collections c.natives_that_keep_items_fit.ensures.objects
