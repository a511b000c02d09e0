-- A worker stays one.
use Rattle.std.proofs.Common.{◌≡◌, ◌∙◌, sym, subst, List, Option, None}
use Rattle.class_link.specs.Info.{Info}
use Rattle.run_records.specs.Below.{AreTablesOf}
use Rattle.suite_jobs.specs.Below.{IsKept}
use Rattle.suite_jobs.proofs.Below.{named_of}
use Rattle.suite_workers.specs.Standing.{IsStand, base_of}
use Rattle.suite_workers.specs.Working.{CanWork, StartsFrom}
use Rattle.suite_workers.specs.declared.setup.JobSetup.{JobSetup}
use Rattle.suite_workers.specs.declared.standing.Stand.{Stand}
use Rattle.suite_workers.proofs.Standings.{bare_stand, base_none}

-- With another class standing in the same program.
pub stays_work : (x : JobSetup) (s t : Stand) → CanWork x s → IsStand (base_of s) x.look_ups.now.history x.mutants.now t → CanWork x t
stays_work x s t work stand = record {
  starts = subst (λ q. StartsFrom q x) (sym stand.base) work.starts;
  stand = subst (λ q. IsStand q x.look_ups.now.history x.mutants.now t) (sym stand.base) stand;
}

-- With a program of its own, in which nothing stands yet.
pub begins_work : (p : List Info) (x : JobSetup) (s : Stand) → StartsFrom p x → s.program ≡ p → s.standing ≡ None → s.kept ≡ None → AreTablesOf s.program s.tables → CanWork x s
begins_work p x s starts program none kept tables =
    let base : base_of s ≡ p = sym (base_none s none) ∙ program in
    let bare : IsStand p x.look_ups.now.history x.mutants.now s = bare_stand p x.look_ups.now.history x.mutants.now s (record {
      program_is = program;
      none = none;
      named = named_of p s.tables (subst (λ q. AreTablesOf q s.tables) program tables);
      kept = subst (IsKept p) (sym kept) tt;
    }) in
    record {
      starts = subst (λ q. StartsFrom q x) (sym base) starts;
      stand = subst (λ q. IsStand q x.look_ups.now.history x.mutants.now s) (sym base) bare;
    }
