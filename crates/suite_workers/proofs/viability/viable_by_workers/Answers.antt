use denote.Param.Send.{sendable}
use Rattle.std.proofs.Crossing.{crosses}
use Rattle.std.proofs.Common.{◌∙◌, sym}
use Rattle.std.specs.Prelude.{is_some}
use Rattle.class_table.specs.Table.{look}
use Rattle.mutator_ops.specs.declared.mutant.Mutant.{Mutant}
use Rattle.suite_jobs.specs.Below.{mutant_runs_files_of as files_of, mutant_runs_viable as viable}
use Rattle.suite_workers.proofs.PartsTold.{all_told, part_of}
use Rattle.suite_workers.proofs.ProgramParts.{program_sync}
use Rattle.suite_workers.proofs.viability.viable_by_workers.Goals as goal

pub map_chunks-requires-sync-F : goal.map_chunks-requires-sync-F
map_chunks-requires-sync-F g c κs within = search (program_sync, sendable, crosses) depth 60 fits 60000

pub returns : goal.returns
returns g c =
    let p = c.args.program.now in
    let f = λ (m : Mutant). is_some (viable (files_of p) (look p) m) in
    all_told f c.share-size.result c.args.mutants.now c.in_ok-parts.parts.items c.share-size.ensures.some (sym c.in_ok-parts.parts.ok.0 ∙ c.in_ok-parts.ensures.len)
    (λ k d lt. let part = (c.in_ok-parts.ensures.each k d lt).1 in part_of f c.share-size.result c.args.mutants.now k part.argument.now part.argument_is.value _ part.call) c.joined.result c.joined.ensures
