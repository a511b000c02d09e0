use Rattle.type_laws.proofs.Faulting.{accepted_have_none, faultless_are_accepted, first_are_found}
use Rattle.type_laws.proofs.first_faults_are_found.Goals as goal

pub returns : goal.returns
returns c = record { none = accepted_have_none; accepted = faultless_are_accepted; first = first_are_found }
