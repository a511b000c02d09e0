use Rattle.std.proofs.Common.{◌≡◌, None}
use Rattle.std.proofs.Common.{rules}
use Rattle.std.specs.BTreeMap.{get}
use Rattle.class_asm.specs.Places.{in_order}
use Rattle.class_asm.proofs.PlaceLaws.{placed}
use Rattle.class_asm.proofs.pool.Pool.intern.Goals as goal

pub invariant_of-self-else-is_err : goal.invariant_of-self-else-is_err
invariant_of-self-else-is_err c =
    let absent : get in_order c.self.inside.places c.args.key ≡ None = search rules in
    search (rules, placed c.self.inside.places c.insert.new.self c.self.inside.entries.items c.args.key c.self.invariant absent)
