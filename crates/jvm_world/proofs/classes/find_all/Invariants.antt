use Rattle.std.proofs.Common.{◌≡◌, map, take, drop}
use Rattle.class_table.specs.Table.{look, name_at}
use Rattle.jvm_world.specs.Finding.{lacks}
use Rattle.jvm_world.proofs.classes.find_all.Given as goal

abbrev pub invariant-loop-text : goal.invariant-loop-text
invariant-loop-text l = record {
  ids : map (name_at l.p) (map (λ x. x.0) l.ids.items) ≡ map (λ t. t.now) (take l.text-index l.names);
  there : lacks (look l.p) (map (λ t. t.now) l.names) ≡ lacks (look l.p) (map (λ t. t.now) (drop l.text-index l.names));
}
