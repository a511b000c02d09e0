-- A class and the same with other code of its method, in the worked program of the type rules' laws.
use Rattle.std.specs.Prelude.{pos, [], ◌∷◌}
use Rattle.program_rules.specs.Linked.{Linked}
use Rattle.program_rules.specs.Instructions.{IntConstant}
use Rattle.program_rules.specs.Samples.{small_class, f_code, f_first_return}
use Rattle.type_rules.specs.Worked.{f_method, same_at}

abbrev pub class_a : Linked
class_a = small_class (f_method 1 1 f_code (same_at 4) ∷ [])

-- With `pop` and another value in the code of `f`.
abbrev pub edited_a : Linked
edited_a =
    small_class (f_method 1 1 (f_first_return (IntConstant (pos 0))) (same_at 6) ∷ [])
