-- What the private parts of the readers answer (this project's own). No public clause cites these:
-- the rules are those of the other files.
use Rattle.std.specs.Prelude.{ℕ, ◌&&◌, ◌==◌, nat_lt, nat_le, List, [], ◌∷◌, ◌++◌, length, Option, Some, None, option_and_then, if◌then◌else◌}
use Rattle.std.specs.Option.{option_map}
use Rattle.std.specs.Char.Utf16.{is_high_surrogate, is_low_surrogate}
use Rattle.class_model.specs.Descriptor.{FieldType, base_kind, kind_of, kinds_of, return_kind}
use Rattle.class_model.specs.DescriptorReading.{base_of, object_at, element_at, field_type_at, parameters_at, return_type_of}
use Rattle.class_model.specs.declared.kind.Kind.{Kind}

-- What stands behind the character at the front. There is none in an empty name, and none where a
-- surrogate without a partner is at the front.
abbrev pub behind_char : List ℕ → Option (List ℕ)
behind_char [] = None
behind_char (first ∷ []) = if nat_le 0xD800 first && nat_lt first 0xE000 then None else Some []
behind_char (first ∷ second ∷ rest) =
    if is_high_surrogate first && is_low_surrogate second then Some rest
    else if nat_le 0xD800 first && nat_lt first 0xE000 then None
    else Some (second ∷ rest)

-- ---- Descriptors, with the kind in place of the tree, and none where it is or holds a float or a
-- double.

abbrev pub as_kind : FieldType × List ℕ → Option Kind × List ℕ
as_kind x = (kind_of x.0, x.1)

abbrev pub base_letter : ℕ → Option (Option Kind)
base_letter first = option_map base_kind (base_of first)

abbrev pub object_kind : List ℕ → Option (Option Kind × List ℕ)
object_kind units = option_map as_kind (object_at units)

abbrev pub element_kind : ℕ → List ℕ → Option (Option Kind × List ℕ)
element_kind first units = option_map as_kind (element_at first units)

abbrev pub kind_at : List ℕ → Option (Option Kind × List ℕ)
kind_at units = option_map as_kind (field_type_at units)

-- what a parameter adds in front of others
abbrev pub with_kind : Option Kind → Option (List Kind) → Option (List Kind)
with_kind first others = option_and_then (λ k. option_map (λ ks. k ∷ ks) others) first

-- what a parameter adds behind others
abbrev pub with_last : Option (List Kind) → Option Kind → Option (List Kind)
with_last others last = option_and_then (λ ks. option_map (λ k. ks ++ k ∷ []) last) others

-- A parameter, or none where a closing parenthesis stands, and what stands behind.
abbrev pub parameter_at : List ℕ → Option (Option (Option Kind) × List ℕ)
parameter_at [] = None
parameter_at (first ∷ units) =
    if first == 41 then Some (None, units)
    else option_map (λ x. (Some x.0, x.1)) (kind_at (first ∷ units))

abbrev pub as_kinds : List FieldType × List ℕ → Option (List Kind) × List ℕ
as_kinds x = (kinds_of x.0, x.1)

abbrev pub kinds_at : List ℕ → Option (Option (List Kind) × List ℕ)
kinds_at units = option_map as_kinds (parameters_at (length units) units)

abbrev pub returned_kind : List ℕ → Option (Option (Option Kind))
returned_kind units = option_map return_kind (return_type_of units)
