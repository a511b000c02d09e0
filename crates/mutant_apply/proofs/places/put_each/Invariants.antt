use Rattle.std.proofs.Common.{◌≡◌, ◌++◌, drop, length}
use Rattle.std.specs.List.{flat_map}
use Rattle.class_reader.specs.Spells.{member_bytes}
use Rattle.mutant_apply.specs.Places.{places_from}
use Rattle.mutant_apply.proofs.places.put_each.Given as goal

-- what was written and what is left make the whole
abbrev pub invariant-loop-member : goal.invariant-loop-member
invariant-loop-member l =
    (l.out ++ flat_map member_bytes (drop l.member-index l.members) ≡ l.fn.out ++ flat_map member_bytes l.members)
    × (l.places ++ places_from (length l.out) (drop l.member-index l.members) ≡ places_from (length l.fn.out) l.members)
