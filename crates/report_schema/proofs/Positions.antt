-- What stands before the first unit that passes a test.
use Rattle.std.proofs.Common.{◌≡◌, ℕ, Bool, true, false, cond, List, length, take, None, Some, refl, sym, ap, ltb}
use Rattle.std.specs.List.{position, position_or_len, before_first}
use Rattle.std.proofs.lemmas.List.{take_all}
use Rattle.std.proofs.lemmas.Bool.{ltb-false}

found_by : (xs : List ℕ) (n end : ℕ) (b : Bool) → cond b (Some n) None ≡ Some end → take end xs ≡ take n xs
found_by xs n end true e = let same : n ≡ end = cc in ap (λ k. take k xs) (sym same)
found_by xs n end false e = absurd cc

none_by : (xs : List ℕ) (n : ℕ) (b : Bool) → ltb n (length xs) ≡ b → cond b (Some n) None ≡ None → xs ≡ take n xs
none_by xs n true is e = absurd cc
none_by xs n false is e = sym (take_all n xs (ltb-false n (length xs) is))

pub found : (p : ℕ → Bool) (xs : List ℕ) (end : ℕ) → position p xs ≡ Some end → take end xs ≡ before_first p xs
found p xs end e = found_by xs (position_or_len p xs) end (ltb (position_or_len p xs) (length xs)) e

pub none : (p : ℕ → Bool) (xs : List ℕ) → position p xs ≡ None → xs ≡ before_first p xs
none p xs e = none_by xs (position_or_len p xs) (ltb (position_or_len p xs) (length xs)) refl e
