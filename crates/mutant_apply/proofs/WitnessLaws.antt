-- A class file is one, and the edit of a mutant of it makes a class.
use Rattle.std.proofs.Common.{◌≡◌, refl, sym, subst, ℕ, zero, suc, Bool, true, false, List, [], ◌∷◌, Option, Some, None, Result, Ok, Err, lit<, arith}
use Rattle.std.specs.Prelude.{is_some, nat_lt, ◌&&◌}
use Rattle.std.specs.List.{Contains, list_all}
use Rattle.std.proofs.lemmas.Bool.{ltb-true}
use Rattle.class_model.specs.declared.class.Class.{Class}
use Rattle.class_model.specs.declared.fault.ClassFault.{ClassFault}
use Rattle.codec_rules.specs.Input.{IsBytes}
use Rattle.class_reader.specs.Reading.{magic_at, major_at, member_at, counted_at, class_at, class_of_file}
use Rattle.mt_pool.specs.Whole.{pool_at}
use Rattle.mt_pool.specs.Reading.{places_at, place_at, entry_at, text_at, one_at, double_at, float_at, handle_at, handle_kind_at, integer_at, long_at, two_at, u8_at}
use Rattle.class_model.specs.Text.{units_within}
use Rattle.std.specs.Char.Utf16.{utf16_chars}
use Rattle.codec_rules.specs.Reading.{many_at, whole_at}
use Rattle.class_model.specs.DescriptorReading.{parameters_at}
use Rattle.mt_attrs.specs.Item.{many_by}
use Rattle.mt_attrs.specs.Attributes.{attr_at}
use Rattle.mt_attrs.specs.CodeParts.{code_content_at, table_at}
use Rattle.mt_insn.specs.Reading.{insn_at, formed_at, wide_at}
use Rattle.mt_insn.specs.Operands.{jump_at, array_at, constant_at, dimensions_at, far_jump_at, increment_at, interface_at, local_at, long_constant_at, lookup_at, lookup_body_at, named_at, pair_at, refused_at, small_constant_at, small_number_at, table_at as operand_table_at, table_items_at, wide_increment_at, wide_local_at, wide_number_at}
use Rattle.class_model.specs.declared.attribute.Body.TheBlock.{hidden-the_row-Attr-0, shape-the_row-Attr-0, shown-the_row-Attr-0}
use Rattle.class_model.specs.declared.attribute.Body.TheViews.{roll-Code, out-Body, out-Code}
use Rattle.mt_attrs.specs.Frames.{far_at, frame_at, full_at, one_at as frame_one_at, same_at, vitem_at}
use Rattle.mt_attrs.specs.Lines.{line_at}
use Rattle.mt_attrs.specs.Notes.{enum_at, front_at, note_at, token_at, tokens_at}
use Rattle.mt_attrs.specs.Rows.{row_at}
use denote.Hole.Carrier.{hidden, out, roll, shown}
use Rattle.class_reader.specs.SpellingLaws.{ReadIsSpelled}
use Rattle.mutator_ops.specs.Mutants.{class_mutants}
use Rattle.mutator_ops.specs.declared.mutant.Mutant.{Mutant}
use Rattle.mutant_apply.specs.Edited.{applied}
use Rattle.mutant_apply.specs.Witness.{sample_file, HasMutant}

and_first : (x y : Bool) → (x && y) ≡ true → x ≡ true
and_first true y e = refl
and_first false y e = absurd cc

and_second : (x y : Bool) → (x && y) ≡ true → y ≡ true
and_second true y e = e
and_second false y e = absurd cc

bytes_are : (xs : List ℕ) → list_all (λ b. nat_lt b 256) xs ≡ true → IsBytes xs
bytes_are [] e i = lit< tt
bytes_are (x ∷ xs) e zero = ltb-true x 256 (and_first (nat_lt x 256) (list_all (λ b. nat_lt b 256) xs) e)
bytes_are (x ∷ xs) e (suc i) = bytes_are xs (and_second (nat_lt x 256) (list_all (λ b. nat_lt b 256) xs) e) i

-- the first mutant's edit makes a class
abbrev makes_first : Class → List Mutant → Bool
makes_first class [] = false
makes_first class (m ∷ ms) = is_some (applied class m.edit)

abbrev is_fit : Result Class ClassFault → Bool
is_fit (Err f) = false
is_fit (Ok class) = makes_first class (class_mutants class)

-- By computing: each definition of the reading is opened, since each kind of entry, instruction and
-- frame is a case of it.
fit : is_fit (class_of_file sample_file) ≡ true
unfolding class_of_file class_at counted_at member_at major_at magic_at pool_at places_at place_at entry_at text_at one_at double_at float_at handle_at handle_kind_at integer_at long_at two_at u8_at units_within utf16_chars many_at whole_at parameters_at many_by attr_at code_content_at table_at insn_at formed_at wide_at jump_at array_at constant_at dimensions_at far_jump_at increment_at interface_at local_at long_constant_at lookup_at lookup_body_at named_at pair_at refused_at small_constant_at small_number_at operand_table_at table_items_at wide_increment_at wide_local_at wide_number_at hidden-the_row-Attr-0 shape-the_row-Attr-0 shown-the_row-Attr-0 roll-Code far_at frame_at full_at frame_one_at same_at vitem_at line_at enum_at front_at note_at token_at tokens_at row_at hidden roll shown out out-Body out-Code
fit = refl

has_by : ReadIsSpelled → (r : Result Class ClassFault) → class_of_file sample_file ≡ r → is_fit r ≡ true → HasMutant sample_file
has_by read (Err f) e t = absurd cc
has_by read (Ok class) e t = by_mutants (class_mutants class) refl t
  where
    by_made : (m : Mutant) (ms : List Mutant) → class_mutants class ≡ m ∷ ms → (o : Option (Class × List ℕ)) → applied class m.edit ≡ o → is_some o ≡ true → HasMutant sample_file
    by_made m ms q None w t = absurd cc
    by_made m ms q (Some made) w t = (class, m, made, (read sample_file class (bytes_are sample_file refl)).0 e, subst (λ (l : List Mutant). Contains l m) (sym q) (0, omega arith, refl), w)

    by_mutants : (ms : List Mutant) → class_mutants class ≡ ms → makes_first class ms ≡ true → HasMutant sample_file
    by_mutants [] q t = absurd cc
    by_mutants (m ∷ ms) q t = by_made m ms q (applied class m.edit) refl t

pub sample_has_mutant : ReadIsSpelled → HasMutant sample_file
sample_has_mutant read = has_by read (class_of_file sample_file) refl fit
