-- The entries of the constant pool that an edit needs (this project's own).
use Rattle.std.specs.Prelude.{ℕ, ◌+◌, ◌^◌, nat_lt, nat_eq, ◌==◌, ◌&&◌, Bool, false, if◌then◌else◌, List, [], ◌∷◌, ◌++◌, length, Option, Some, None, option_and_then}
use Rattle.std.specs.List.{position_from}
use Rattle.std.specs.Cmp.Lexicographic.{pointwise}
use Rattle.class_model.specs.declared.constant.Const.{Const}
use Rattle.class_model.specs.declared.constant.Const.TheVariants as const

-- What may have no room, and behind it what is made of it.
infixl 10 ◌>>=◌
abbrev pub ◌>>=◌ : {A B : Type 0} → Option A → (A → Option B) → Option B
o >>= next = option_and_then next o

-- ---- equal entries, of the kinds that edits need

abbrev pub is_text : List ℕ → Const → Bool
is_text units (const.Utf8 others) = pointwise nat_eq units others
is_text units other = false

abbrev pub is_class : ℕ → Const → Bool
is_class name (const.Class other) = name == other
is_class name other = false

abbrev pub is_string : ℕ → Const → Bool
is_string units (const.Text other) = units == other
is_string units other = false

abbrev pub is_pair : ℕ → ℕ → Const → Bool
is_pair name desc (const.Pair n d) = name == n && desc == d
is_pair name desc other = false

abbrev pub is_method : ℕ → ℕ → Const → Bool
is_method class pair (const.Method c p) = class == c && pair == p
is_method class pair other = false

abbrev pub is_entry : Const → Const → Bool
is_entry (const.Utf8 units) other = is_text units other
is_entry (const.Class name) other = is_class name other
is_entry (const.Text units) other = is_string units other
is_entry (const.Pair name desc) other = is_pair name desc other
is_entry (const.Method class pair) other = is_method class pair other
is_entry entry other = false

-- ---- indices. `added` are the entries that the edit has appended to the pool so far.

-- A value, with the entries that are added then; none where the count of the pool, which is one
-- more than its entries, passes two bytes (JVMS 4.1).
abbrev pub within : List Const → ℕ × List Const → Option (ℕ × List Const)
within pool x = if nat_lt (length pool + length x.1 + 1) (2 ^ 16) then Some x else None

abbrev pub found_or_added : List Const → Const → List Const → Option ℕ → ℕ × List Const
found_or_added pool entry added (Some index) = (index, added)
found_or_added pool entry added None = (length pool + length added + 1, added ++ entry ∷ [])

-- The lowest index where an equal entry stands, else that of the entry behind the last one. Indices
-- count from 1.
abbrev pub index_of : List Const → Const → List Const → Option (ℕ × List Const)
index_of pool entry added =
    within pool (found_or_added pool entry added (position_from (is_entry entry) 1 (pool ++ added)))

-- ---- each behind those that it names

-- The empty string.
abbrev pub empty_string : List Const → List Const → Option (ℕ × List Const)
empty_string pool added =
    index_of pool (const.Utf8 []) added >>= λ units.
    index_of pool (const.Text units.0) units.1

-- A class's method: the class's text, the class, the name, the descriptor, the pair, the method.
abbrev pub method_of : List Const → List ℕ → List ℕ → List ℕ → List Const → Option (ℕ × List Const)
method_of pool class name desc added =
    index_of pool (const.Utf8 class) added >>= λ class_text.
    index_of pool (const.Class class_text.0) class_text.1 >>= λ owner.
    index_of pool (const.Utf8 name) owner.1 >>= λ name_text.
    index_of pool (const.Utf8 desc) name_text.1 >>= λ desc_text.
    index_of pool (const.Pair name_text.0 desc_text.0) desc_text.1 >>= λ pair.
    index_of pool (const.Method owner.0 pair.0) pair.1
