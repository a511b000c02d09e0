use Rattle.std.proofs.Common.{take}
use Rattle.std.specs.Prelude.{IfSome}
use Rattle.record_rules.specs.declared.profile_number.TheConstants.{PROFILE_NUMBER}
use Rattle.job_journal.specs.Keeping.{RecordsAll}
use Rattle.job_journal.proofs.journal.add_all.Given as goal

abbrev pub invariant-loop-made : goal.invariant-loop-made
invariant-loop-made g l = IfSome (g.K.Keeper.kept l.state.keeper) (RecordsAll PROFILE_NUMBER (λ m. g.M.KnownRecord.entry m.now) (take l.made-index l.due))
