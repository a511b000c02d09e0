use Rattle.std.proofs.Common.{◌≡◌, ◌++◌, drop, map, string_bytes}
use Rattle.report_pieces.specs.FileKey.{key_in, keys_in}
use Rattle.report_pieces.proofs.keys.class_keys.Given as goal

abbrev pub invariant-loop-place : goal.invariant-loop-place
invariant-loop-place l = map string_bytes l.keys.items ++ map key_in (drop l.place l.program) ≡ keys_in l.program
