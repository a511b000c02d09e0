-- The boxes, and what Integer, Long, Character and Math do with plain numbers.
use Rattle.std.proofs.Common.{ℤ, true, false, List, [], ◌∷◌, Option, Some, None}
use Rattle.std.specs.Prelude.{pos, ◌-ℤ◌, ◌||◌, slice_get, if◌then◌else◌}
use Rattle.std.specs.Fmt.{signed_decimal}
use Rattle.std.specs.Int.{w32, w64, int_wrap}
use Rattle.std.specs.Ordering.{int_eq}
use Rattle.program_rules.specs.declared.value.Value.TheVariants.{Int, Long}
use Rattle.program_rules.specs.declared.fault.Fault.TheVariants.{ArithmeticException}
use Rattle.program_rules.specs.declared.making.Making.{Making}
use Rattle.program_rules.specs.declared.making.Making.TheVariants as making
use Rattle.program_rules.specs.Names.{Name, object_name, string_name}
use Rattle.program_rules.specs.Kinds.{Kind, OfBoolean, OfByte, OfChar, OfShort, OfInt, OfLong, OfReference, narrow}
use Rattle.program_rules.specs.Programs.{Look}
use Rattle.program_rules.specs.Objects.{Object}
use Rattle.program_rules.specs.Deeds.{Gives, Makes, Boxes, Throws, making_name, value_object}
use Rattle.program_rules.specs.Natives.{is_true, on_object, has_one_box, box_number, integer_value_of, short_value_of, kept_int, int_value}
use Rattle.library_rules.specs.Arguments.{gives, gives_int, gives_bool, bit, on_needed, on_text}
use Rattle.library_rules.specs.Texts.{makes_text, bool_text, char_unit}
use Rattle.library_rules.specs.Numbers.{byte_value_of, char_value_of, bool_value_of, box_long, long_value_of, int_in, long_in, int_as_long, long_value, long_as_int, is_box_with, is_long_with, box_equals, long_equals, fold_halves, long_hash, bool_hash, box_text, long_text, char_box_text, bool_box_text, order, compare_box, compare_long_box, subtract_box, compare_ints, compare_longs, number_in, gives_number, parse_int, is_between, char_is_digit, char_is_letter, absolute, abs_int, abs_long, greater, less, max_int, max_long, min_int, min_long, floor_rem, floor_mod}
use Rattle.type_rules.specs.References.{classes_of}
use Rattle.type_laws.specs.Values.{OfKind}
use Rattle.type_laws.specs.Soundness.{DeedFits}
use Rattle.library_laws.specs.Hosts.{CanMake, IsNativeHost}
use Rattle.library_laws.specs.Fits.{FitsAs}
use Rattle.library_laws.proofs.Forms.{by_this, by_receiver, by_receiver_value, by_int, by_long, by_ints, by_longs, by_value, by_needed, by_text, by_test, on_its_object}
use Rattle.library_laws.proofs.Made.{makes_fits, boxes_fits, text_fits}

-- ---- what makes boxes

module _ (p : Look) (host : IsNativeHost p) (n : Name) where
  abbrev of : Making → Option Kind
  of m = Some (OfReference (making_name m))

  box_fits : (h : List Object) (m : Making) (c : CanMake p m) (z : ℤ) → DeedFits p h (of m) (box_number m z)
  box_fits h m c z = by_test p n (of m) h (has_one_box z) (Boxes m (Int z)) (Makes m [] (Int z ∷ []) 1) (boxes_fits p host h m c (Int z)) (makes_fits p host h m c [] (Int z ∷ []) 1)

  pub integer_fits : FitsAs p n true (OfInt ∷ []) (of making.Integer) integer_value_of
  integer_fits = by_int p n (of making.Integer) OfInt (λ h v o. o) (λ h z. box_number making.Integer (narrow OfInt z)) (λ h z i. box_fits h making.Integer host.integer (narrow OfInt z))

  pub short_fits : FitsAs p n true (OfShort ∷ []) (of making.Short) short_value_of
  short_fits = by_int p n (of making.Short) OfShort (λ h v o. o) (λ h z. box_number making.Short (narrow OfShort z)) (λ h z i. box_fits h making.Short host.short (narrow OfShort z))

  pub byte_fits : FitsAs p n true (OfByte ∷ []) (of making.Byte) byte_value_of
  byte_fits = by_int p n (of making.Byte) OfByte (λ h v o. o) (λ h z. box_number making.Byte (narrow OfByte z)) (λ h z i. box_fits h making.Byte host.byte (narrow OfByte z))

  pub character_fits : FitsAs p n true (OfChar ∷ []) (of making.Character) char_value_of
  character_fits = by_int p n (of making.Character) OfChar (λ h v o. o) (λ h z. box_number making.Character (narrow OfChar z)) (λ h z i. box_fits h making.Character host.character (narrow OfChar z))

  pub boolean_fits : FitsAs p n true (OfBoolean ∷ []) (of making.Boolean) bool_value_of
  boolean_fits = by_int p n (of making.Boolean) OfBoolean (λ h v o. o) (λ h z. Boxes making.Boolean (Int (bit (is_true z)))) (λ h z i. boxes_fits p host h making.Boolean host.boolean (Int (bit (is_true z))))

  box_long_fits : (h : List Object) (z : ℤ) → DeedFits p h (of making.Long) (box_long z)
  box_long_fits h z = by_test p n (of making.Long) h (has_one_box z) (Boxes making.Long (Long z)) (Makes making.Long [] (Long z ∷ []) 1) (boxes_fits p host h making.Long host.long (Long z)) (makes_fits p host h making.Long host.long [] (Long z ∷ []) 1)

  pub long_fits : FitsAs p n true (OfLong ∷ []) (of making.Long) long_value_of
  long_fits = by_long p n (of making.Long) (λ h z. box_long z) (λ h z i. box_long_fits h z)

  -- ---- texts of boxes

  abbrev texts : Option Kind
  texts = Some (OfReference string_name)

  pub box_text_fits : FitsAs p n false [] texts box_text
  box_text_fits = by_receiver p n texts (λ h o. makes_text (signed_decimal (int_in o))) (λ h x i w. text_fits p host h (signed_decimal (int_in w.object)))

  pub long_text_fits : FitsAs p n false [] texts long_text
  long_text_fits = by_receiver p n texts (λ h o. makes_text (signed_decimal (long_in o))) (λ h x i w. text_fits p host h (signed_decimal (long_in w.object)))

  pub char_box_text_fits : FitsAs p n false [] texts char_box_text
  char_box_text_fits = by_receiver p n texts (λ h o. makes_text (char_unit (int_in o) ∷ [])) (λ h x i w. text_fits p host h (char_unit (int_in w.object) ∷ []))

  pub bool_box_text_fits : FitsAs p n false [] texts bool_box_text
  bool_box_text_fits = by_receiver p n texts (λ h o. makes_text (bool_text (is_true (int_in o)))) (λ h x i w. text_fits p host h (bool_text (is_true (int_in w.object))))

-- ---- what boxes give

module _ (p : Look) (n : Name) where
  -- A kind of which each int is.
  abbrev TakesInts : Kind → Type 0
  TakesInts k = (h : List Object) (z : ℤ) → OfKind (classes_of p) h k (Int z)

  pub int_value_fits : (k : Kind) → TakesInts k → FitsAs p n false [] (Some k) int_value
  int_value_fits k ints =
      by_this p n (Some k) (λ h x. on_object h x (λ o. Gives (Some (Int (kept_int (slice_get o.items 0)))))) (λ h x i w.
      on_its_object p n (Some k) h x w (λ o. Gives (Some (Int (kept_int (slice_get o.items 0))))) (ints h (kept_int (slice_get w.object.items 0))))

  pub int_as_long_fits : FitsAs p n false [] (Some OfLong) int_as_long
  int_as_long_fits = by_receiver p n (Some OfLong) (λ h o. gives (Long (int_in o))) (λ h x i w. tt)

  pub long_value_fits : FitsAs p n false [] (Some OfLong) long_value
  long_value_fits = by_receiver p n (Some OfLong) (λ h o. gives (Long (long_in o))) (λ h x i w. tt)

  pub long_as_int_fits : FitsAs p n false [] (Some OfInt) long_as_int
  long_as_int_fits = by_receiver p n (Some OfInt) (λ h o. gives_int (int_wrap w32 (long_in o))) (λ h x i w. tt)

  pub long_hash_fits : FitsAs p n false [] (Some OfInt) long_hash
  long_hash_fits = by_receiver p n (Some OfInt) (λ h o. gives_int (fold_halves (long_in o))) (λ h x i w. tt)

  pub bool_hash_fits : FitsAs p n false [] (Some OfInt) bool_hash
  bool_hash_fits = by_receiver p n (Some OfInt) (λ h o. gives_int (if is_true (int_in o) then pos 1231 else pos 1237)) (λ h x i w. tt)

  -- ---- how they are compared

  pub box_equals_fits : (m : Making) → FitsAs p n false (OfReference object_name ∷ []) (Some OfBoolean) (box_equals m)
  box_equals_fits m = by_receiver_value p n (Some OfBoolean) (OfReference object_name) (λ h o v. gives_bool (is_box_with m (int_in o) (value_object h v))) (λ h x v i w o. tt)

  pub long_equals_fits : FitsAs p n false (OfReference object_name ∷ []) (Some OfBoolean) long_equals
  long_equals_fits = by_receiver_value p n (Some OfBoolean) (OfReference object_name) (λ h o v. gives_bool (is_long_with (long_in o) (value_object h v))) (λ h x v i w o. tt)

  module _ (c : Name) where
    pub compare_box_fits : FitsAs p n false (OfReference c ∷ []) (Some OfInt) compare_box
    compare_box_fits =
        by_receiver_value p n (Some OfInt) (OfReference c) (λ h o v. on_needed h v (λ other. gives_int (order (int_in o) (int_in other)))) (λ h x v i w o.
        by_needed p n (Some OfInt) h c v (λ other. gives_int (order (int_in w.object) (int_in other))) o (λ t. tt))

    pub compare_long_box_fits : FitsAs p n false (OfReference c ∷ []) (Some OfInt) compare_long_box
    compare_long_box_fits =
        by_receiver_value p n (Some OfInt) (OfReference c) (λ h o v. on_needed h v (λ other. gives_int (order (long_in o) (long_in other)))) (λ h x v i w o.
        by_needed p n (Some OfInt) h c v (λ other. gives_int (order (long_in w.object) (long_in other))) o (λ t. tt))

    pub subtract_box_fits : FitsAs p n false (OfReference c ∷ []) (Some OfInt) subtract_box
    subtract_box_fits =
        by_receiver_value p n (Some OfInt) (OfReference c) (λ h o v. on_needed h v (λ other. gives_int (int_wrap w32 (int_in o -ℤ int_in other)))) (λ h x v i w o.
        by_needed p n (Some OfInt) h c v (λ other. gives_int (int_wrap w32 (int_in w.object -ℤ int_in other))) o (λ t. tt))

  -- ---- plain numbers

  pub compare_ints_fits : FitsAs p n true (OfInt ∷ OfInt ∷ []) (Some OfInt) compare_ints
  compare_ints_fits = by_ints p n (Some OfInt) (λ h y z. gives_int (order y z)) (λ h y z i. tt)

  pub compare_longs_fits : FitsAs p n true (OfLong ∷ OfLong ∷ []) (Some OfInt) compare_longs
  compare_longs_fits = by_longs p n (Some OfInt) (λ h y z. gives_int (order y z)) (λ h y z i. tt)

  number_fits : (h : List Object) (o : Option ℤ) → DeedFits p h (Some OfInt) (gives_number o)
  number_fits h None = tt
  number_fits h (Some z) = tt

  pub parse_fits : FitsAs p n true (OfReference string_name ∷ []) (Some OfInt) parse_int
  parse_fits =
      by_value p n (Some OfInt) (OfReference string_name) (λ h v. on_text h v (λ units. gives_number (number_in units))) (λ h v i o.
      by_text p n (Some OfInt) h string_name v (λ units. gives_number (number_in units)) o (λ t. number_fits h (number_in t)))

  pub is_digit_fits : FitsAs p n true (OfChar ∷ []) (Some OfBoolean) char_is_digit
  is_digit_fits = by_int p n (Some OfBoolean) OfChar (λ h v o. o) (λ h z. gives_bool (is_between 48 57 z)) (λ h z i. tt)

  pub is_letter_fits : FitsAs p n true (OfChar ∷ []) (Some OfBoolean) char_is_letter
  is_letter_fits = by_int p n (Some OfBoolean) OfChar (λ h v o. o) (λ h z. gives_bool (is_between 65 90 z || is_between 97 122 z)) (λ h z i. tt)

  pub abs_int_fits : FitsAs p n true (OfInt ∷ []) (Some OfInt) abs_int
  abs_int_fits = by_int p n (Some OfInt) OfInt (λ h v o. o) (λ h z. gives_int (int_wrap w32 (absolute z))) (λ h z i. tt)

  pub abs_long_fits : FitsAs p n true (OfLong ∷ []) (Some OfLong) abs_long
  abs_long_fits = by_long p n (Some OfLong) (λ h z. gives (Long (int_wrap w64 (absolute z)))) (λ h z i. tt)

  pub max_int_fits : FitsAs p n true (OfInt ∷ OfInt ∷ []) (Some OfInt) max_int
  max_int_fits = by_ints p n (Some OfInt) (λ h y z. gives_int (greater y z)) (λ h y z i. tt)

  pub min_int_fits : FitsAs p n true (OfInt ∷ OfInt ∷ []) (Some OfInt) min_int
  min_int_fits = by_ints p n (Some OfInt) (λ h y z. gives_int (less y z)) (λ h y z i. tt)

  pub max_long_fits : FitsAs p n true (OfLong ∷ OfLong ∷ []) (Some OfLong) max_long
  max_long_fits = by_longs p n (Some OfLong) (λ h y z. gives (Long (greater y z))) (λ h y z i. tt)

  pub min_long_fits : FitsAs p n true (OfLong ∷ OfLong ∷ []) (Some OfLong) min_long
  min_long_fits = by_longs p n (Some OfLong) (λ h y z. gives (Long (less y z))) (λ h y z i. tt)

  pub floor_mod_fits : FitsAs p n true (OfInt ∷ OfInt ∷ []) (Some OfInt) floor_mod
  floor_mod_fits =
      by_ints p n (Some OfInt) (λ h y z. if int_eq z (pos 0) then Throws ArithmeticException else gives_int (floor_rem y z)) (λ h y z i.
      by_test p n (Some OfInt) h (int_eq z (pos 0)) (Throws ArithmeticException) (gives_int (floor_rem y z)) tt tt)
