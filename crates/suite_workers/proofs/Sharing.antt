-- What workers share.
use denote.Ref.{NamedLft}
use denote.Param.Send.{IsSend, IsSync, sendable, recorded_sync}
use Rattle.std.proofs.Crossing.{crosses}
use Rattle.std.proofs.MapsCrossing.{crosses as maps_cross}
use Rattle.suite_workers.proofs.Rings.{seq_sync}
use Rattle.suite_workers.proofs.ProgramParts.{program_send}
use Rattle.suite_workers.proofs.Crosses.{stand_fields_send, stand_send, tables_fields_send, tables_send}
use Rattle.class_table.specs.contracts.scripted.Test as Test
use Rattle.mutator_ops.specs.contracts.mutant.Mutant as Mutant
use Rattle.machine_rules.specs.contracts.machine.Limits as Limits
use Rattle.history_index.specs.contracts.lookout.Lookout as Lookout
use Rattle.history_index.specs.contracts.index.HistoryIndex as HistoryIndex
use Rattle.suite_workers.specs.contracts.look_ups.InHistory as InHistory
use Rattle.suite_workers.specs.contracts.look_ups.LookUps as LookUps
use Rattle.suite_workers.specs.contracts.setup.JobSetup as JobSetup
use Rattle.suite_workers.specs.contracts.setup.OriginalSetup as OriginalSetup
use Rattle.suite_workers.specs.contracts.original_worker.OriginalWorker as OriginalWorker
use Rattle.suite_workers.specs.contracts.worker.Worker as Worker

pub test_sync : IsSync Test.the_row
test_sync = search (seq_sync, sendable, crosses, maps_cross) depth 60 fits 60000

pub mutant_sync : IsSync Mutant.the_row
mutant_sync = search (seq_sync, sendable, crosses, maps_cross) depth 60 fits 60000

pub limits_fields_sync : IsSync (Limits.the_field).row
limits_fields_sync = search (sendable, crosses) depth 60 fits 60000

pub limits_sync : IsSync Limits.the_row
limits_sync = search (seq_sync, sendable, crosses, maps_cross) depth 60 fits 60000

pub lookout_sync : IsSync Lookout.the_row
lookout_sync = search (seq_sync, sendable, crosses, maps_cross) depth 60 fits 60000

pub index_sync : (h : NamedLft) → IsSync (HistoryIndex.the_row h)
index_sync h = search (sendable, crosses, maps_cross) depth 60 fits 60000

pub in_history_fields_sync : (a h : NamedLft) → IsSync (InHistory.the_field a h).row
in_history_fields_sync a h = search (index_sync, lookout_sync, seq_sync, sendable, crosses, maps_cross) depth 60 fits 60000

pub in_history_sync : (a h : NamedLft) → IsSync (InHistory.the_row a h)
in_history_sync a h = recorded_sync _ _ _ (InHistory.the_type a h).to_one (in_history_fields_sync a h)

pub look_ups_fields_sync : (a h : NamedLft) → IsSync (LookUps.the_field a h).row
look_ups_fields_sync a h = search (in_history_fields_sync, in_history_sync, seq_sync, sendable, crosses, maps_cross) depth 60 fits 60000

pub look_ups_sync : (a h : NamedLft) → IsSync (LookUps.the_row a h)
look_ups_sync a h = recorded_sync _ _ _ (LookUps.the_type a h).to_one (look_ups_fields_sync a h)

pub setup_fields_sync : (a r h : NamedLft) → IsSync (JobSetup.the_field a r h).row
setup_fields_sync a r h = search (mutant_sync, test_sync, limits_sync, limits_fields_sync, look_ups_fields_sync, look_ups_sync, seq_sync, sendable, crosses, maps_cross) depth 60 fits 60000

pub setup_sync : (a r h : NamedLft) → IsSync (JobSetup.the_row a r h)
setup_sync a r h = recorded_sync _ _ _ (JobSetup.the_type a r h).to_one (setup_fields_sync a r h)

pub worker_send : (a r h : NamedLft) → IsSend (Worker.the_row a r h)
worker_send a r h = search (stand_fields_send, stand_send, setup_fields_sync, setup_sync, sendable, crosses) depth 60 fits 60000

pub original_setup_fields_sync : (a r h : NamedLft) → IsSync (OriginalSetup.the_field a r h).row
original_setup_fields_sync a r h = search (test_sync, limits_sync, limits_fields_sync, look_ups_fields_sync, look_ups_sync, seq_sync, sendable, crosses, maps_cross) depth 60 fits 60000

pub original_setup_sync : (a r h : NamedLft) → IsSync (OriginalSetup.the_row a r h)
original_setup_sync a r h = recorded_sync _ _ _ (OriginalSetup.the_type a r h).to_one (original_setup_fields_sync a r h)

pub original_worker_send : (a r h : NamedLft) → IsSend (OriginalWorker.the_row a r h)
original_worker_send a r h = search (program_send, tables_fields_send, tables_send, original_setup_fields_sync, original_setup_sync, sendable, crosses) depth 60 fits 60000
