-- A name that is no class of the program.
use Rattle.std.proofs.Common.{arith, ◌≡◌, ℕ, ◌<◌, false, List, length, None, Some}
use Rattle.std.proofs.lemmas.List.{length-map}
use Rattle.program_rules.specs.Names.{Name, is_listed}
use Rattle.program_rules.specs.Programs.{supers}
use Rattle.class_link.specs.Info.{Info}
use Rattle.class_table.specs.Table.{look, name_at, number_of, IsProgram}
use Rattle.vframes.proofs.Closed.{closed}

own_number : (p : List Info) (class : ℕ) → IsProgram p → class < length p → number_of p (name_at p class) ≡ Some class
own_number p class ok lt = ok.distinct class (let e = length-map p (λ (i : Info). i.name) in omega (arith, lt, e))

-- No class of the program stands below it.
pub nowhere_below : (p : List Info) (class : ℕ) (n : Name) → IsProgram p → class < length p → number_of p n ≡ None → is_listed n (supers (look p) (name_at p class)) ≡ false
nowhere_below p class n ok lt none = closed p ok.present (name_at p class) n class (own_number p class ok lt) none
