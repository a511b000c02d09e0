-- What workers own crosses to their threads. Of a type without a model there are two facts: `x_fields_send` of its row as a
-- field of another type, and `x_send` of its own row, as in a list.
use denote.Param.Send.{IsSend, sendable, recorded_send}
use Rattle.std.proofs.Crossing.{crosses}
use Rattle.suite_workers.proofs.Rings.{seq_send}
use Rattle.suite_workers.proofs.ProgramParts.{class_info_send, class_info_sync, program_send}
use Rattle.suite_workers.proofs.TableParts.{class_id_fields_send, class_id_send, places_fields_send, places_send, machine_classes_send, natives_fields_send, natives_send, lookups_fields_send, lookups_send, slots_send, layouts_send, codes_send, walker_send}
use Rattle.history_index.specs.contracts.standings.Swap as Swap
use Rattle.suite_workers.specs.contracts.standing.Standing as Standing
use Rattle.suite_jobs.specs.Below.mutant_runs_contracts_class_bytes_ClassBytes as ClassBytes
use Rattle.run_records.specs.Below.jvm_step_contracts_tables_Tables as Tables
use Rattle.suite_workers.specs.contracts.standing.Stand as Stand

pub swap_fields_send : IsSend (Swap.the_field).row
swap_fields_send = search (sendable, crosses) depth 60 fits 60000

pub swap_send : IsSend Swap.the_row
swap_send = recorded_send _ _ _ (Swap.the_type).to_one swap_fields_send

pub standing_fields_send : IsSend (Standing.the_field).row
standing_fields_send = search (class_id_fields_send, class_id_send, class_info_send, class_info_sync, swap_fields_send, swap_send, sendable, crosses) depth 60 fits 60000

pub standing_send : IsSend Standing.the_row
standing_send = recorded_send _ _ _ (Standing.the_type).to_one standing_fields_send

pub class_bytes_fields_send : IsSend (ClassBytes.the_field).row
class_bytes_fields_send = search (seq_send, class_id_fields_send, class_id_send, places_fields_send, places_send, sendable, crosses) depth 60 fits 60000

pub class_bytes_send : IsSend ClassBytes.the_row
class_bytes_send = recorded_send _ _ _ (ClassBytes.the_type).to_one class_bytes_fields_send

pub tables_fields_send : IsSend (Tables.the_field).row
tables_fields_send = search (machine_classes_send, natives_fields_send, natives_send, lookups_fields_send, lookups_send, slots_send, layouts_send, codes_send, walker_send, sendable, crosses) depth 60 fits 60000

pub tables_send : IsSend Tables.the_row
tables_send = recorded_send _ _ _ (Tables.the_type).to_one tables_fields_send

pub stand_fields_send : IsSend (Stand.the_field).row
stand_fields_send = search (program_send, tables_fields_send, tables_send, class_bytes_fields_send, class_bytes_send, standing_fields_send, standing_send, sendable, crosses) depth 60 fits 60000

pub stand_send : IsSend Stand.the_row
stand_send = recorded_send _ _ _ (Stand.the_type).to_one stand_fields_send
