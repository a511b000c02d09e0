-- What is looked up by name in a program, which may lack some of it.
use Rattle.std.specs.Prelude.{◌≡◌, is_none, Bool, true, false, List, Option, Some, None}
use Rattle.std.specs.List.{list_any}
use Rattle.program_rules.specs.Names.{Name}
use Rattle.program_rules.specs.Programs.{Look}

-- Whether a program lacks a class of one of these names.
abbrev pub lacks : Look → List Name → Bool
lacks p ns = list_any (λ n. is_none (p n)) ns

-- What is found of classes of these names: none exactly where the program lacks one of them.
abbrev pub Finds : {A : Type 0} → Look → List Name → (A → Type 0) → Option A → Type 0
Finds p ns P None = lacks p ns ≡ true
Finds p ns P (Some x) = P x × (lacks p ns ≡ false)
