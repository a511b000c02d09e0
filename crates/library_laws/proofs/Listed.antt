-- The classes of the library, row by row.
use Rattle.std.proofs.Common.{◌≡◌, ◌&&◌, Bool, true, false, List, [], ◌∷◌, ◌++◌, Some, None, refl, ap, ◌∙◌, codes}
use Rattle.std.specs.Prelude.{not, drop}
use Rattle.std.specs.List.{list_all}
use Rattle.std.specs.Char.Utf16.{utf16_chars}
use Rattle.std.proofs.lemmas.Bool.{and_parts}
use Rattle.class_model.specs.DescriptorReading.{parameters_at}
use Rattle.class_link.specs.declared.loaded.LibClass.{LibClass}
use Rattle.program_rules.specs.declared.making.Making.TheVariants as making
use Rattle.program_rules.specs.Names.{Name, same, object_name, string_name, is_array_name}
use Rattle.program_rules.specs.Kinds.{OfBoolean, OfByte, OfChar, OfShort, OfInt, OfReference}
use Rattle.program_rules.specs.Programs.{Look}
use Rattle.type_rules.specs.References.{is_subtype, throwable_name}
use Rattle.lib_table.specs.Stated.{Row, methods_from}
use Rattle.lib_table.specs.Interfaces.{char_sequence_methods, comparable_methods, iterable_methods, runnable_methods, auto_closeable_methods, basic_interfaces, iterator_methods, collection_methods, list_methods, map_methods, collection_interfaces}
use Rattle.lib_table.specs.LangClasses.{object_methods, class_methods, objects_methods, objects, string_methods, string_builder_methods, character_methods, boolean_methods, texts, integer_methods, long_methods, short_methods, byte_methods, math_methods, numbers}
use Rattle.lib_table.specs.Exceptions.{throwable_methods, initializers, throwables, errors, machine_exceptions, library_exceptions}
use Rattle.lib_table.specs.Collected.{list_classes, hash_classes, utility_classes, collections, assert_methods, assertions_methods, assertions}
use Rattle.lib_table.specs.Library.{interfaces, lang_classes, exceptions, library}
use Rattle.library_laws.specs.Hosts.{IsNativeHost}
use Rattle.library_laws.specs.Natives.{OthersFit}
use Rattle.library_laws.proofs.Objects.{do_nothing_fits, same_fits, allocation_fits, status_fits, class_of_fits, class_name_fits, object_text_fits}
use Rattle.library_laws.proofs.Throwables.{IsThrown, message_fits, cause_fits, set_message_fits, set_cause_fits, set_both_fits}
use Rattle.library_laws.proofs.Texts.{length_fits, empty_fits, char_at_fits, equals_fits, hash_fits, compare_fits, compare_any_fits, index_of_text_fits, index_of_char_fits, starts_with_fits, ends_with_fits, chars_fits, itself_fits, concat_fits, substring_fits, substring_from_fits, of_int_fits, of_long_fits, of_char_fits, of_bool_fits, builder_text_fits, of_capacity_fits, of_text_fits, append_text_fits, append_int_fits, append_long_fits, append_char_fits, append_bool_fits}
use Rattle.library_laws.proofs.Numbers.{integer_fits, short_fits, byte_fits, character_fits, boolean_fits, long_fits, box_text_fits, long_text_fits, char_box_text_fits, bool_box_text_fits, int_value_fits, int_as_long_fits, long_value_fits, long_as_int_fits, long_hash_fits, bool_hash_fits, box_equals_fits, long_equals_fits, compare_box_fits, compare_long_box_fits, subtract_box_fits, compare_ints_fits, compare_longs_fits, parse_fits, is_digit_fits, is_letter_fits, abs_int_fits, abs_long_fits, max_int_fits, max_long_fits, min_int_fits, min_long_fits, floor_mod_fits}
use Rattle.library_laws.proofs.Assertions.{equal_ints_fits, equal_longs_fits, true_fits, false_fits, null_fits, not_null_fits, both_same_fits, not_same_fits, fail_fits}
use Rattle.library_laws.proofs.Rows.{◌&◌, RowsFit, native_fits, is_abstract, abstract_fit, CaseFits, by_rows, by_name, CasesFit, joined, case_at}

-- ---- the rows of each class

module _ (p : Look) (host : IsNativeHost p) where
  object_rows : RowsFit p (codes "java/lang/Object") object_methods
  unfolding parameters_at utf16_chars
  object_rows =
      let n = codes "java/lang/Object" in
      native_fits p n (do_nothing_fits p n false []) (λ pool. refl)
      & native_fits p n (same_fits p n) (λ pool. refl)
      & native_fits p n (allocation_fits p n) (λ pool. refl)
      & native_fits p n (object_text_fits p n host) (λ pool. refl)
      & native_fits p n (class_of_fits p n host) (λ pool. refl)
      & tt

  class_rows : RowsFit p (codes "java/lang/Class") class_methods
  unfolding parameters_at utf16_chars
  class_rows =
      let n = codes "java/lang/Class" in
      native_fits p n (class_name_fits p n host) (λ pool. refl)
      & native_fits p n (status_fits p n) (λ pool. refl)
      & tt

  string_rows : RowsFit p (codes "java/lang/String") string_methods
  unfolding parameters_at utf16_chars
  string_rows =
      let n = codes "java/lang/String" in
      native_fits p n (length_fits p n) (λ pool. refl)
      & native_fits p n (char_at_fits p n) (λ pool. refl)
      & native_fits p n (empty_fits p n) (λ pool. refl)
      & native_fits p n (equals_fits p n) (λ pool. refl)
      & native_fits p n (hash_fits p n) (λ pool. refl)
      & native_fits p n (compare_fits p n) (λ pool. refl)
      & native_fits p n (compare_any_fits p n) (λ pool. refl)
      & native_fits p n (concat_fits p host n) (λ pool. refl)
      & native_fits p n (substring_from_fits p host n) (λ pool. refl)
      & native_fits p n (substring_fits p host n) (λ pool. refl)
      & native_fits p n (index_of_char_fits p n) (λ pool. refl)
      & native_fits p n (index_of_text_fits p n) (λ pool. refl)
      & native_fits p n (starts_with_fits p n) (λ pool. refl)
      & native_fits p n (ends_with_fits p n) (λ pool. refl)
      & native_fits p n (chars_fits p n) (λ pool. refl)
      & native_fits p n (itself_fits p n) (λ pool. refl)
      & native_fits p n (of_int_fits p host n) (λ pool. refl)
      & native_fits p n (of_long_fits p host n) (λ pool. refl)
      & native_fits p n (of_char_fits p host n) (λ pool. refl)
      & native_fits p n (of_bool_fits p host n) (λ pool. refl)
      & tt

  builder_rows : RowsFit p (codes "java/lang/StringBuilder") string_builder_methods
  unfolding parameters_at utf16_chars
  builder_rows =
      let n = codes "java/lang/StringBuilder" in
      native_fits p n (do_nothing_fits p n false []) (λ pool. refl)
      & native_fits p n (of_capacity_fits p n) (λ pool. refl)
      & native_fits p n (of_text_fits p n) (λ pool. refl)
      & native_fits p n (append_text_fits p n) (λ pool. refl)
      & native_fits p n (append_int_fits p n) (λ pool. refl)
      & native_fits p n (append_long_fits p n) (λ pool. refl)
      & native_fits p n (append_char_fits p n) (λ pool. refl)
      & native_fits p n (append_bool_fits p n) (λ pool. refl)
      & native_fits p n (length_fits p n) (λ pool. refl)
      & native_fits p n (char_at_fits p n) (λ pool. refl)
      & native_fits p n (builder_text_fits p host n) (λ pool. refl)
      & tt

  character_rows : RowsFit p (codes "java/lang/Character") character_methods
  unfolding parameters_at utf16_chars
  character_rows =
      let n = codes "java/lang/Character" in
      native_fits p n (character_fits p host n) (λ pool. refl)
      & native_fits p n (box_equals_fits p n making.Character) (λ pool. refl)
      & native_fits p n (int_value_fits p n OfChar (λ h z. tt)) (λ pool. refl)
      & native_fits p n (int_value_fits p n OfInt (λ h z. tt)) (λ pool. refl)
      & native_fits p n (char_box_text_fits p host n) (λ pool. refl)
      & native_fits p n (is_digit_fits p n) (λ pool. refl)
      & native_fits p n (is_letter_fits p n) (λ pool. refl)
      & tt

  boolean_rows : RowsFit p (codes "java/lang/Boolean") boolean_methods
  unfolding parameters_at utf16_chars
  boolean_rows =
      let n = codes "java/lang/Boolean" in
      native_fits p n (boolean_fits p host n) (λ pool. refl)
      & native_fits p n (box_equals_fits p n making.Boolean) (λ pool. refl)
      & native_fits p n (int_value_fits p n OfBoolean (λ h z. tt)) (λ pool. refl)
      & native_fits p n (bool_hash_fits p n) (λ pool. refl)
      & native_fits p n (bool_box_text_fits p host n) (λ pool. refl)
      & tt

  integer_rows : RowsFit p (codes "java/lang/Integer") integer_methods
  unfolding parameters_at utf16_chars
  integer_rows =
      let n = codes "java/lang/Integer" in
      native_fits p n (integer_fits p host n) (λ pool. refl)
      & native_fits p n (box_equals_fits p n making.Integer) (λ pool. refl)
      & native_fits p n (int_value_fits p n OfInt (λ h z. tt)) (λ pool. refl)
      & native_fits p n (int_as_long_fits p n) (λ pool. refl)
      & native_fits p n (int_value_fits p n OfInt (λ h z. tt)) (λ pool. refl)
      & native_fits p n (box_text_fits p host n) (λ pool. refl)
      & native_fits p n (compare_box_fits p n n) (λ pool. refl)
      & native_fits p n (compare_ints_fits p n) (λ pool. refl)
      & native_fits p n (of_int_fits p host n) (λ pool. refl)
      & native_fits p n (parse_fits p n) (λ pool. refl)
      & tt

  long_rows : RowsFit p (codes "java/lang/Long") long_methods
  unfolding parameters_at utf16_chars
  long_rows =
      let n = codes "java/lang/Long" in
      native_fits p n (long_fits p host n) (λ pool. refl)
      & native_fits p n (long_equals_fits p n) (λ pool. refl)
      & native_fits p n (long_as_int_fits p n) (λ pool. refl)
      & native_fits p n (long_value_fits p n) (λ pool. refl)
      & native_fits p n (long_hash_fits p n) (λ pool. refl)
      & native_fits p n (long_text_fits p host n) (λ pool. refl)
      & native_fits p n (compare_long_box_fits p n n) (λ pool. refl)
      & native_fits p n (compare_longs_fits p n) (λ pool. refl)
      & tt

  short_rows : RowsFit p (codes "java/lang/Short") short_methods
  unfolding parameters_at utf16_chars
  short_rows =
      let n = codes "java/lang/Short" in
      native_fits p n (short_fits p host n) (λ pool. refl)
      & native_fits p n (box_equals_fits p n making.Short) (λ pool. refl)
      & native_fits p n (int_value_fits p n OfShort (λ h z. tt)) (λ pool. refl)
      & native_fits p n (int_value_fits p n OfInt (λ h z. tt)) (λ pool. refl)
      & native_fits p n (box_text_fits p host n) (λ pool. refl)
      & native_fits p n (subtract_box_fits p n n) (λ pool. refl)
      & tt

  byte_rows : RowsFit p (codes "java/lang/Byte") byte_methods
  unfolding parameters_at utf16_chars
  byte_rows =
      let n = codes "java/lang/Byte" in
      native_fits p n (byte_fits p host n) (λ pool. refl)
      & native_fits p n (box_equals_fits p n making.Byte) (λ pool. refl)
      & native_fits p n (int_value_fits p n OfByte (λ h z. tt)) (λ pool. refl)
      & native_fits p n (int_value_fits p n OfInt (λ h z. tt)) (λ pool. refl)
      & native_fits p n (box_text_fits p host n) (λ pool. refl)
      & native_fits p n (subtract_box_fits p n n) (λ pool. refl)
      & tt

  math_rows : RowsFit p (codes "java/lang/Math") math_methods
  unfolding parameters_at utf16_chars
  math_rows =
      let n = codes "java/lang/Math" in
      native_fits p n (abs_int_fits p n) (λ pool. refl)
      & native_fits p n (abs_long_fits p n) (λ pool. refl)
      & native_fits p n (max_int_fits p n) (λ pool. refl)
      & native_fits p n (max_long_fits p n) (λ pool. refl)
      & native_fits p n (min_int_fits p n) (λ pool. refl)
      & native_fits p n (min_long_fits p n) (λ pool. refl)
      & native_fits p n (floor_mod_fits p n) (λ pool. refl)
      & tt

  throwable_rows : IsThrown p throwable_name → RowsFit p throwable_name throwable_methods
  unfolding parameters_at utf16_chars
  throwable_rows thrown =
      let n = throwable_name in
      native_fits p n (do_nothing_fits p n false []) (λ pool. refl)
      & native_fits p n (set_message_fits p host n thrown) (λ pool. refl)
      & native_fits p n (set_both_fits p host n thrown) (λ pool. refl)
      & native_fits p n (set_cause_fits p host n thrown) (λ pool. refl)
      & native_fits p n (message_fits p host n thrown) (λ pool. refl)
      & native_fits p n (cause_fits p host n thrown) (λ pool. refl)
      & native_fits p n (do_nothing_fits p n false (OfReference throwable_name ∷ [])) (λ pool. refl)
      & tt

  initializer_rows : (n : Name) → IsThrown p n → RowsFit p n initializers
  unfolding parameters_at utf16_chars
  initializer_rows n thrown =
      native_fits p n (do_nothing_fits p n false []) (λ pool. refl)
      & native_fits p n (set_message_fits p host n thrown) (λ pool. refl)
      & native_fits p n (set_both_fits p host n thrown) (λ pool. refl)
      & native_fits p n (set_cause_fits p host n thrown) (λ pool. refl)
      & tt

  assert_rows : RowsFit p (codes "org/junit/Assert") assert_methods
  unfolding parameters_at utf16_chars
  assert_rows =
      let n = codes "org/junit/Assert" in
      native_fits p n (equal_longs_fits p n) (λ pool. refl)
      & native_fits p n (equal_ints_fits p n) (λ pool. refl)
      & native_fits p n (true_fits p n) (λ pool. refl)
      & native_fits p n (false_fits p n) (λ pool. refl)
      & native_fits p n (null_fits p n) (λ pool. refl)
      & native_fits p n (not_null_fits p n) (λ pool. refl)
      & native_fits p n (both_same_fits p n) (λ pool. refl)
      & native_fits p n (not_same_fits p n) (λ pool. refl)
      & native_fits p n (fail_fits p n [] None) (λ pool. refl)
      & native_fits p n (fail_fits p n [] None) (λ pool. refl)
      & native_fits p n (fail_fits p n (OfReference string_name ∷ []) None) (λ pool. refl)
      & tt

  assertions_rows : RowsFit p (codes "org/junit/jupiter/api/Assertions") assertions_methods
  unfolding parameters_at utf16_chars
  assertions_rows =
      let n = codes "org/junit/jupiter/api/Assertions" in
      native_fits p n (equal_longs_fits p n) (λ pool. refl)
      & native_fits p n (equal_ints_fits p n) (λ pool. refl)
      & native_fits p n (true_fits p n) (λ pool. refl)
      & native_fits p n (false_fits p n) (λ pool. refl)
      & native_fits p n (null_fits p n) (λ pool. refl)
      & native_fits p n (not_null_fits p n) (λ pool. refl)
      & native_fits p n (both_same_fits p n) (λ pool. refl)
      & native_fits p n (not_same_fits p n) (λ pool. refl)
      & native_fits p n (fail_fits p n [] None) (λ pool. refl)
      & native_fits p n (fail_fits p n (OfReference string_name ∷ []) (Some (OfReference object_name))) (λ pool. refl)
      & tt

-- ---- the exceptions

not_false : (b : Bool) → not b ≡ true → b ≡ false
not_false true e = cc
not_false false e = refl

all_parts : (test : LibClass → Bool) (cs ds : List LibClass) → list_all test (cs ++ ds) ≡ true → (list_all test cs ≡ true) × (list_all test ds ≡ true)
all_parts test [] ds e = (refl, e)
all_parts test (c ∷ cs) ds e =
    let both = and_parts (test c) (list_all test (cs ++ ds)) e in
    let rest = all_parts test cs ds both.1 in
    (ap (λ b. b && list_all test cs) both.0 ∙ rest.0, rest.1)

-- Neither an array nor Object.
abbrev is_named : LibClass → Bool
is_named c = not (is_array_name c.name) && not (same c.name object_name)

abbrev AllInitialized : List LibClass → Type 0
AllInitialized [] = Unit {0}
AllInitialized (c ∷ cs) = (c.methods ≡ methods_from [] initializers) × AllInitialized cs

module _ (p : Look) (host : IsNativeHost p) where
  abbrev is_below : LibClass → Bool
  is_below c = is_subtype p c.name throwable_name

  thrown_by : (c : LibClass) → is_below c ≡ true → is_named c ≡ true → IsThrown p c.name
  thrown_by c e f =
      let both = and_parts (not (is_array_name c.name)) (not (same c.name object_name)) f in
      record { below = e; no_array = not_false (is_array_name c.name) both.0; no_object = not_false (same c.name object_name) both.1 }

  thrown_cases : (cs : List LibClass) → AllInitialized cs → list_all is_named cs ≡ true → list_all is_below cs ≡ true → CasesFit p cs
  thrown_cases [] a e f = tt
  thrown_cases (c ∷ cs) a e f =
      let named = and_parts (is_named c) (list_all is_named cs) e in
      let below = and_parts (is_below c) (list_all is_below cs) f in
      (by_rows p initializers a.0 (initializer_rows p host c.name (thrown_by c below.0 named.0)), thrown_cases cs a.1 named.1 below.1)

  abbrev AreBelow : List LibClass → Type 0
  AreBelow cs = list_all is_below cs ≡ true

  throwable_cases : AreBelow throwables → CasesFit p throwables
  unfolding throwables
  throwable_cases e =
      let below = and_parts (is_subtype p throwable_name throwable_name) (list_all is_below (drop 1 throwables)) e in
      (by_rows p throwable_methods refl (throwable_rows p host (record { below = below.0; no_array = refl; no_object = refl })), thrown_cases (drop 1 throwables) (refl & refl & refl & refl & refl & tt) refl below.1)

  error_cases : AreBelow errors → CasesFit p errors
  unfolding errors
  error_cases e = thrown_cases errors (refl & refl & refl & refl & refl & refl & refl & refl & refl & tt) refl e

  machine_cases : AreBelow machine_exceptions → CasesFit p machine_exceptions
  unfolding machine_exceptions
  machine_cases e = thrown_cases machine_exceptions (refl & refl & refl & refl & refl & refl & refl & refl & tt) refl e

  library_cases : AreBelow library_exceptions → CasesFit p library_exceptions
  unfolding library_exceptions
  library_cases e = thrown_cases library_exceptions (refl & refl & refl & refl & refl & refl & tt) refl e

  exception_cases : CasesFit p exceptions
  exception_cases =
      let parts = all_parts is_below (throwables ++ errors) (machine_exceptions ++ library_exceptions) host.thrown in
      let first = all_parts is_below throwables errors parts.0 in
      let second = all_parts is_below machine_exceptions library_exceptions parts.1 in
      joined p (throwables ++ errors) (machine_exceptions ++ library_exceptions)
      (joined p throwables errors (throwable_cases first.0) (error_cases first.1))
      (joined p machine_exceptions library_exceptions (machine_cases second.0) (library_cases second.1))

  -- ---- the other classes

  abbrev abstract_case : {c : LibClass} (rows : List Row) → c.methods ≡ methods_from [] rows → list_all (is_abstract p c.name) rows ≡ true → CaseFits p c
  abstract_case {c} rows e f = by_rows p rows e (abstract_fit p c.name rows f)

  basic_cases : CasesFit p basic_interfaces
  unfolding basic_interfaces
  basic_cases =
      abstract_case char_sequence_methods refl refl
      & abstract_case comparable_methods refl refl
      & abstract_case iterable_methods refl refl
      & abstract_case runnable_methods refl refl
      & abstract_case auto_closeable_methods refl refl
      & abstract_case [] refl refl
      & abstract_case [] refl refl
      & tt

  collection_cases : CasesFit p collection_interfaces
  unfolding collection_interfaces
  collection_cases =
      abstract_case iterator_methods refl refl
      & abstract_case collection_methods refl refl
      & abstract_case list_methods refl refl
      & abstract_case [] refl refl
      & abstract_case map_methods refl refl
      & tt

  object_cases : CasesFit p objects
  unfolding objects
  object_cases =
      by_rows p object_methods refl (object_rows p host)
      & by_rows p class_methods refl (class_rows p host)
      & by_name p refl
      & by_name p refl
      & by_rows p objects_methods refl tt
      & tt

  text_cases : CasesFit p texts
  unfolding texts
  text_cases =
      by_rows p string_methods refl (string_rows p host)
      & by_rows p string_builder_methods refl (builder_rows p host)
      & by_rows p character_methods refl (character_rows p host)
      & by_rows p boolean_methods refl (boolean_rows p host)
      & tt

  number_cases : CasesFit p numbers
  unfolding numbers
  number_cases =
      by_rows p [] refl tt
      & by_rows p integer_methods refl (integer_rows p host)
      & by_rows p long_methods refl (long_rows p host)
      & by_rows p short_methods refl (short_rows p host)
      & by_rows p byte_methods refl (byte_rows p host)
      & by_rows p math_methods refl (math_rows p host)
      & tt

  collected_cases : CasesFit p collections
  unfolding collections list_classes hash_classes utility_classes
  collected_cases = by_name p refl & by_name p refl & by_name p refl & by_name p refl & by_name p refl & by_name p refl & by_name p refl & tt

  assertion_cases : CasesFit p assertions
  unfolding assertions
  assertion_cases =
      by_rows p assert_methods refl (assert_rows p host)
      & by_rows p assertions_methods refl (assertions_rows p host)
      & tt

  cases : CasesFit p library
  cases =
      joined p (interfaces ++ lang_classes) (exceptions ++ (collections ++ assertions))
      (joined p interfaces lang_classes (joined p basic_interfaces collection_interfaces basic_cases collection_cases) (joined p (objects ++ texts) numbers (joined p objects texts object_cases text_cases) number_cases))
      (joined p exceptions (collections ++ assertions) exception_cases (joined p collections assertions collected_cases assertion_cases))

pub natives_fit : OthersFit
natives_fit p host j c e l = (case_at p library j c (cases p host) e).fit l
