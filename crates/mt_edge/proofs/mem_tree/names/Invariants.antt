use Rattle.std.proofs.Common.{◌≡◌, map, filter, string_bytes}
use Rattle.mt_edge.specs.Files.{begins_with}
use Rattle.mt_edge.proofs.mem_tree.names.Given as goal

abbrev pub invariant-loop-key : goal.invariant-loop-key
invariant-loop-key l = map string_bytes l.found.items ≡ filter (begins_with l.prefix) (map (λ k. string_bytes k.now) l.yielded)
