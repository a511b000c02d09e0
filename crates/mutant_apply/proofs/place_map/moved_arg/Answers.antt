use Rattle.std.specs.Prelude.{ℤ, ℕ, List, All}
use Rattle.std.proofs.Common.{subst, sym}
use Rattle.std.specs.List.{AllByRecursion}
use Rattle.class_model.specs.declared.instruction.Arg.{Arg}
use Rattle.mt_insn.specs.Code.{targets_in}
use Rattle.mutant_apply.specs.Room.{IsNear}
use Rattle.mutant_apply.proofs.NearLaws.{pairs_near}
use Rattle.mutant_apply.proofs.place_map.moved_arg.Goals as goal

pub moved_lookup-requires-clause-keys : goal.moved_lookup-requires-clause-keys
moved_lookup-requires-clause-keys c =
    let led = subst (λ (a : Arg). AllByRecursion IsNear (targets_in a)) c.in-Lookup.is c.requires in
    subst (λ (pairs : List (ℤ × ℕ)). All (λ pair. IsNear pair.1) pairs) (sym c.get-in-Lookup.ensures) (pairs_near c.in-Lookup.keys led.1)
