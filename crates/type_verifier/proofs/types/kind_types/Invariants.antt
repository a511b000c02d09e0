use Rattle.std.proofs.Common.{map, take}
use Rattle.type_rules.specs.Frames.{type_of as type_of_kind}
use Rattle.class_link.specs.Symbols.{kind_of}
use Rattle.type_verifier.specs.Tables.{Adds, TypesLast}
use Rattle.type_verifier.proofs.types.kind_types.Given as goal

abbrev pub invariant-loop-kind : goal.invariant-loop-kind
invariant-loop-kind l =
    Adds l.program l.fn.names l.names
    × TypesLast l.names.list.items l.types.items (map (λ k. type_of_kind (kind_of k)) (take l.kind-index l.kinds))
