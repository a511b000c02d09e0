-- Switches of equal targets.
use Rattle.std.proofs.Common.{◌≡◌, ℕ, List, ap}
use Rattle.std.specs.Prelude.{ℤ}
use Rattle.program_rules.specs.Instructions as def
use Rattle.type_rules.specs.Assignability.{FrameTypes}
use Rattle.type_rules.specs.Rows.{Setting, row}

pub targets_moved : (s : Setting) (at d : ℕ) (z : ℤ) (f : FrameTypes) (l m : List ℕ) → l ≡ m → row s at (def.TableSwitch d z l) f ≡ row s at (def.TableSwitch d z m) f
targets_moved s at d z f l m e = ap (λ k. row s at (def.TableSwitch d z k) f) e

pub keys_moved : (s : Setting) (at d : ℕ) (f : FrameTypes) (l m : List (ℤ × ℕ)) → l ≡ m → row s at (def.LookupSwitch d l) f ≡ row s at (def.LookupSwitch d m) f
keys_moved s at d f l m e = ap (λ k. row s at (def.LookupSwitch d k) f) e
