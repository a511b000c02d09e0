use Rattle.std.proofs.Common.{◌≡◌, [], ◌∷◌, Some, refl}
use Rattle.program_rules.specs.Programs.{supers, nodes, family}
use Rattle.program_rules.specs.Resolution.{resolve_field, resolve_method}
use Rattle.program_rules.specs.Selection.{select_virtual, select_named}
use Rattle.machine_rules.specs.Initialisation.{need_of}
use Rattle.machine_rules.specs.Lookups.{is_instance}
use Rattle.machine_rules.specs.Steps.{act, step_of}
use Rattle.record_rules.specs.Records.{record_of}
use Rattle.record_rules.specs.Matching.{matches, first_match}
use Rattle.record_rules.specs.Histories.{known, same_record, all_kept, new_records, reused}
use Rattle.record_rules.specs.Jobs.{with_limit, steps_of, need, all_runs, NeedCost, Cost}
use Rattle.record_tries.specs.Tries as tries
use Rattle.record_tries.specs.Tries.{neg_on, passed, failed}
use Rattle.record_tries.proofs.job_laws_are_of_use.Goals as goal

known_first : known tries.both (neg_on tries.further 15) ≡ Some passed
unfolding matches first_match
known_first = refl

new_once : new_records tries.needed ≡ with_limit 15 passed ∷ with_limit 15 failed ∷ []
unfolding record_of first_match matches all_kept same_record steps_of need all_runs supers nodes act step_of family resolve_field resolve_method select_virtual select_named need_of is_instance
new_once = refl

reused_once : reused (passed ∷ []) tries.needed ≡ 1
unfolding record_of first_match matches all_kept same_record steps_of need all_runs supers nodes act step_of family resolve_field resolve_method select_virtual select_named need_of is_instance
reused_once = refl

needed_anew : NeedCost [] tries.job ≡ 45
unfolding record_of first_match matches all_kept same_record steps_of need all_runs supers nodes act step_of family resolve_field resolve_method select_virtual select_named need_of is_instance
needed_anew = refl

needed_with : NeedCost (passed ∷ []) tries.job ≡ 30
unfolding record_of first_match matches all_kept same_record steps_of need all_runs supers nodes act step_of family resolve_field resolve_method select_virtual select_named need_of is_instance
needed_with = refl

whole_with : Cost (passed ∷ []) tries.job ≡ 45
unfolding record_of first_match matches all_kept same_record steps_of need all_runs supers nodes act step_of family resolve_field resolve_method select_virtual select_named need_of is_instance
whole_with = refl

pub returns : goal.returns
returns c = record { known = known_first; records = new_once; reused = reused_once; anew = needed_anew; needed = needed_with; whole = whole_with }
