-- The numbers of a program's class files, which are its first numbers (this project's own).
use Rattle.std.specs.Prelude.{ℕ, zero, suc, List, [], ◌∷◌, map}
use Rattle.class_model.specs.declared.class.ClassId.{ClassId}

-- The numbers of so many classes, from this one on.
abbrev pub numbers_from : ℕ → ℕ → List ℕ
numbers_from k zero = []
numbers_from k (suc n) = k ∷ numbers_from (suc k) n

abbrev pub numbers_of : List ClassId → List ℕ
numbers_of ids = map (λ id. id.0) ids
