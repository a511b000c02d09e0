-- String and StringBuilder.
use Rattle.std.proofs.Common.{◌+◌, ◌-◌, ℕ, ℤ, true, false, List, [], ◌∷◌, ◌++◌, length, Option, Some, None, refl, sym, subst, codes}
use Rattle.std.specs.Prelude.{pos, negsuc, nat_eq, take, drop}
use Rattle.std.specs.Fmt.{signed_decimal}
use Rattle.std.specs.List.{starts_with, ends_with}
use Rattle.program_rules.specs.declared.value.Value.{Value}
use Rattle.program_rules.specs.declared.value.Value.TheVariants.{Int, Long, Ref, Null}
use Rattle.program_rules.specs.declared.fault.Fault.TheVariants.{ClassCastException}
use Rattle.program_rules.specs.declared.making.Making.TheVariants as making
use Rattle.program_rules.specs.Names.{Name, object_name, string_name}
use Rattle.program_rules.specs.Kinds.{Kind, OfBoolean, OfChar, OfInt, OfLong, OfReference}
use Rattle.program_rules.specs.Programs.{Look}
use Rattle.program_rules.specs.Objects.{Object}
use Rattle.program_rules.specs.Deeds.{Deed, Changes, MakesChars, Makes, Throws, SetText, AddText, value_object, on_some}
use Rattle.program_rules.specs.Natives.{is_true, on_object, text_in, text_of, append_text, builder_text}
use Rattle.library_rules.specs.Arguments.{place_of, is_made_of, word, gives, gives_int, gives_bool, on_needed, on_text}
use Rattle.library_rules.specs.Texts.{makes_text, text_length, is_empty, unit_at, gives_unit, char_at, is_text, text_equals, hash_from, text_hash, text_order, compare_text, order_with, compare_any_text, concat, span_within, makes_part, substring, substring_from, index_in, index_of_text, units_of_point, index_of_units, index_of_char, text_starts_with, text_ends_with, itself, text_chars, bool_text, char_unit, text_of_int, text_of_long, text_of_char, text_of_bool, builder_of_capacity, builder_of_text, appends, append_int, append_long, append_char, append_bool}
use Rattle.type_rules.specs.References.{classes_of}
use Rattle.type_laws.specs.Values.{IsWithin, OfKind, HeapFits}
use Rattle.type_laws.specs.Soundness.{DeedFits, ChangeFits}
use Rattle.library_laws.specs.Hosts.{IsNativeHost}
use Rattle.library_laws.specs.Fits.{FitsAs}
use Rattle.library_laws.proofs.Forms.{by_this, by_receiver, by_this_int, by_receiver_int, by_this_ints, by_this_long, by_this_value, by_receiver_value, by_int, by_long, by_needed, by_text, by_test, of_this_int, on_its_object}
use Rattle.library_laws.proofs.Made.{makes_fits, text_fits}

abbrev texts : Option Kind
texts = Some (OfReference string_name)

-- ---- what asks a text

module _ (p : Look) (n : Name) where
  pub length_fits : FitsAs p n false [] (Some OfInt) text_length
  length_fits = by_receiver p n (Some OfInt) (λ h o. gives_int (word (length o.text))) (λ h x i w. tt)

  pub empty_fits : FitsAs p n false [] (Some OfBoolean) is_empty
  empty_fits = by_receiver p n (Some OfBoolean) (λ h o. gives_bool (nat_eq (length o.text) 0)) (λ h x i w. tt)

  unit_fits : (h : List Object) (u : Option ℕ) → DeedFits p h (Some OfChar) (gives_unit u)
  unit_fits h None = tt
  unit_fits h (Some u) = tt

  pub char_at_fits : FitsAs p n false (OfInt ∷ []) (Some OfChar) char_at
  char_at_fits = by_receiver_int p n (Some OfChar) OfInt (λ h v o. o) (λ h o z. gives_unit (unit_at o.text (place_of z))) (λ h x z i w. unit_fits h (unit_at w.object.text (place_of z)))

  pub equals_fits : FitsAs p n false (OfReference object_name ∷ []) (Some OfBoolean) text_equals
  equals_fits = by_receiver_value p n (Some OfBoolean) (OfReference object_name) (λ h o v. gives_bool (is_text o.text (value_object h v))) (λ h x v i w o. tt)

  pub hash_fits : FitsAs p n false [] (Some OfInt) text_hash
  hash_fits = by_receiver p n (Some OfInt) (λ h o. gives_int (hash_from (pos 0) o.text)) (λ h x i w. tt)

  pub compare_fits : FitsAs p n false (OfReference string_name ∷ []) (Some OfInt) compare_text
  compare_fits =
      by_receiver_value p n (Some OfInt) (OfReference string_name) (λ h o v. on_text h v (λ units. gives_int (text_order o.text units))) (λ h x v i w o.
      by_text p n (Some OfInt) h string_name v (λ units. gives_int (text_order w.object.text units)) o (λ t. tt))

  order_fits : (h : List Object) (units : List ℕ) (o : Object) → DeedFits p h (Some OfInt) (order_with units o)
  order_fits h units o = by_test p n (Some OfInt) h (is_made_of making.Text o) (gives_int (text_order units o.text)) (Throws ClassCastException) tt tt

  pub compare_any_fits : FitsAs p n false (OfReference object_name ∷ []) (Some OfInt) compare_any_text
  compare_any_fits =
      by_receiver_value p n (Some OfInt) (OfReference object_name) (λ h o v. on_needed h v (order_with o.text)) (λ h x v i w o.
      by_needed p n (Some OfInt) h object_name v (order_with w.object.text) o (order_fits h w.object.text))

  pub index_of_text_fits : FitsAs p n false (OfReference string_name ∷ []) (Some OfInt) index_of_text
  index_of_text_fits =
      by_receiver_value p n (Some OfInt) (OfReference string_name) (λ h o v. on_text h v (λ wanted. gives_int (index_in o.text wanted))) (λ h x v i w o.
      by_text p n (Some OfInt) h string_name v (λ wanted. gives_int (index_in w.object.text wanted)) o (λ t. tt))

  pub index_of_char_fits : FitsAs p n false (OfInt ∷ []) (Some OfInt) index_of_char
  index_of_char_fits = by_receiver_int p n (Some OfInt) OfInt (λ h v o. o) (λ h o z. gives_int (index_of_units o.text (units_of_point (place_of z)))) (λ h x z i w. tt)

  pub starts_with_fits : FitsAs p n false (OfReference string_name ∷ []) (Some OfBoolean) text_starts_with
  starts_with_fits =
      by_receiver_value p n (Some OfBoolean) (OfReference string_name) (λ h o v. on_text h v (λ units. gives_bool (starts_with nat_eq o.text units))) (λ h x v i w o.
      by_text p n (Some OfBoolean) h string_name v (λ units. gives_bool (starts_with nat_eq w.object.text units)) o (λ t. tt))

  pub ends_with_fits : FitsAs p n false (OfReference string_name ∷ []) (Some OfBoolean) text_ends_with
  ends_with_fits =
      by_receiver_value p n (Some OfBoolean) (OfReference string_name) (λ h o v. on_text h v (λ units. gives_bool (ends_with nat_eq o.text units))) (λ h x v i w o.
      by_text p n (Some OfBoolean) h string_name v (λ units. gives_bool (ends_with nat_eq w.object.text units)) o (λ t. tt))

  pub chars_fits : FitsAs p n false [] (Some (OfReference (codes "[C"))) text_chars
  chars_fits = by_receiver p n (Some (OfReference (codes "[C"))) (λ h o. MakesChars o.text) (λ h x i w. record { class = codes "[C"; gives = refl; within = refl })

  pub itself_fits : FitsAs p n false [] (Some (OfReference n)) itself
  itself_fits = by_this p n (Some (OfReference n)) (λ h x. gives (Ref x)) (λ h x i w. w)

-- ---- what makes texts

module _ (p : Look) (host : IsNativeHost p) (n : Name) where
  made : (h : List Object) (t : List ℕ) → DeedFits p h texts (makes_text t)
  made = text_fits p host

  pub concat_fits : FitsAs p n false (OfReference string_name ∷ []) texts concat
  concat_fits =
      by_receiver_value p n texts (OfReference string_name) (λ h o v. on_text h v (λ units. makes_text (o.text ++ units))) (λ h x v i w o.
      by_text p n texts h string_name v (λ units. makes_text (w.object.text ++ units)) o (λ t. made h (w.object.text ++ t)))

  part_fits : (h : List Object) (units : List ℕ) (span : Option (ℕ × ℕ)) → DeedFits p h texts (makes_part units span)
  part_fits h units None = tt
  part_fits h units (Some span) = made h (take (span.1 - span.0) (drop span.0 units))

  abbrev part : ℤ → ℤ → Object → Deed
  part begin end o = makes_part o.text (span_within (length o.text) (place_of begin) (place_of end))

  pub substring_fits : FitsAs p n false (OfInt ∷ OfInt ∷ []) texts substring
  substring_fits =
      by_this_ints p n texts (λ h x y z. on_object h x (part y z)) (λ h x y z i w.
      on_its_object p n texts h x w (part y z) (part_fits h w.object.text (span_within (length w.object.text) (place_of y) (place_of z))))

  pub substring_from_fits : FitsAs p n false (OfInt ∷ []) texts substring_from
  substring_from_fits =
      by_receiver_int p n texts OfInt (λ h v o. o) (λ h o z. makes_part o.text (span_within (length o.text) (place_of z) (Some (length o.text)))) (λ h x z i w.
      part_fits h w.object.text (span_within (length w.object.text) (place_of z) (Some (length w.object.text))))

  pub of_int_fits : FitsAs p n true (OfInt ∷ []) texts text_of_int
  of_int_fits = by_int p n texts OfInt (λ h v o. o) (λ h z. makes_text (signed_decimal z)) (λ h z i. made h (signed_decimal z))

  pub of_long_fits : FitsAs p n true (OfLong ∷ []) texts text_of_long
  of_long_fits = by_long p n texts (λ h z. makes_text (signed_decimal z)) (λ h z i. made h (signed_decimal z))

  pub of_char_fits : FitsAs p n true (OfChar ∷ []) texts text_of_char
  of_char_fits = by_int p n texts OfChar (λ h v o. o) (λ h z. makes_text (char_unit z ∷ [])) (λ h z i. made h (char_unit z ∷ []))

  pub of_bool_fits : FitsAs p n true (OfBoolean ∷ []) texts text_of_bool
  of_bool_fits = by_int p n texts OfBoolean (λ h v o. o) (λ h z. makes_text (bool_text (is_true z))) (λ h z i. made h (bool_text (is_true z)))

  pub builder_text_fits : FitsAs p n false [] texts builder_text
  builder_text_fits =
      by_this p n texts (λ h x. on_object h x (λ o. Makes making.Text o.text [] (1 + length o.text))) (λ h x i w.
      on_its_object p n texts h x w (λ o. Makes making.Text o.text [] (1 + length o.text)) (makes_fits p host h making.Text host.text w.object.text [] (1 + length w.object.text)))

-- ---- StringBuilder

module _ (p : Look) (n : Name) where
  abbrev Within : List Object → ℕ → Type 0
  Within h x = IsWithin (classes_of p) h n x

  capacity_fits : (h : List Object) (x : ℕ) (z : ℤ) → DeedFits p h None (builder_of_capacity h (Ref x ∷ Int z ∷ []))
  capacity_fits h x (pos k) = tt
  capacity_fits h x (negsuc k) = tt

  pub of_capacity_fits : FitsAs p n false (OfInt ∷ []) None builder_of_capacity
  of_capacity_fits = of_this_int p n None builder_of_capacity (λ h x z i w. capacity_fits h x z)

  set_fits : (h : List Object) (x : ℕ) (t : List ℕ) → HeapFits p h → Within h x → ChangeFits p h x (SetText t)
  set_fits h x t f i = record { object = i.object; there = i.there; fits = f x i.object i.there }

  pub of_text_fits : FitsAs p n false (OfReference string_name ∷ []) None builder_of_text
  of_text_fits =
      by_this_value p n None (OfReference string_name) (λ h x v. on_text h v (λ units. Changes x (SetText units) (length units) None)) (λ h x v i w o.
      by_text p n None h string_name v (λ units. Changes x (SetText units) (length units) None) o (λ t. (set_fits h x t i w, tt)))

  abbrev same_class : Option Kind
  same_class = Some (OfReference n)

  added_fits : (h : List Object) (x : ℕ) (t : List ℕ) → HeapFits p h → Within h x → DeedFits p h same_class (appends x t)
  added_fits h x t f i =
      let changed : ChangeFits p h x (AddText t) = record { object = i.object; there = i.there; fits = f x i.object i.there } in
      (changed, i)

  abbrev adds : ℕ → Option (List ℕ) → Deed
  adds x o = on_some o (λ t. Changes x (AddText t) (length t) (Some (Ref x)))

  text_added : (h : List Object) (x : ℕ) (v : Value) → HeapFits p h → Within h x → OfKind (classes_of p) h (OfReference string_name) v → DeedFits p h same_class (adds x (text_of h v))
  text_added h x (Int z) f i o = absurd o
  text_added h x (Long z) f i o = absurd o
  text_added h x (Ref y) f i o = subst (λ z. DeedFits p h same_class (adds x (text_in z))) (sym o.there) (added_fits h x o.object.text f i)
  text_added h x Null f i o = added_fits h x (codes "null") f i

  pub append_text_fits : FitsAs p n false (OfReference string_name ∷ []) same_class append_text
  append_text_fits = by_this_value p n same_class (OfReference string_name) (λ h x v. adds x (text_of h v)) (λ h x v i w o. text_added h x v i w o)

  pub append_int_fits : FitsAs p n false (OfInt ∷ []) same_class append_int
  append_int_fits = by_this_int p n same_class OfInt (λ h v o. o) (λ h x z. appends x (signed_decimal z)) (λ h x z i w. added_fits h x (signed_decimal z) i w)

  pub append_long_fits : FitsAs p n false (OfLong ∷ []) same_class append_long
  append_long_fits = by_this_long p n same_class (λ h x z. appends x (signed_decimal z)) (λ h x z i w. added_fits h x (signed_decimal z) i w)

  pub append_char_fits : FitsAs p n false (OfChar ∷ []) same_class append_char
  append_char_fits = by_this_int p n same_class OfChar (λ h v o. o) (λ h x z. appends x (char_unit z ∷ [])) (λ h x z i w. added_fits h x (char_unit z ∷ []) i w)

  pub append_bool_fits : FitsAs p n false (OfBoolean ∷ []) same_class append_bool
  append_bool_fits = by_this_int p n same_class OfBoolean (λ h v o. o) (λ h x z. appends x (bool_text (is_true z))) (λ h x z i w. added_fits h x (bool_text (is_true z)) i w)
