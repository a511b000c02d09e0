-- What annotations make of a method goes by what their indices name.
use Rattle.std.proofs.Common.{◌≡◌, ◌∙◌, ℕ, zero, suc, ◌+◌, Bool, true, false, List, [], ◌∷◌, ◌++◌, map, Option, Some, None, refl, sym, ap}
use Rattle.std.specs.Prelude.{◌&&◌, ◌||◌, not, IsSome, if◌then◌else◌, codes}
use Rattle.std.specs.List.{list_any, flat_map, AllByRecursion}
use Rattle.std.specs.Option.{option_map}
use Rattle.class_model.specs.Pool.{entry_of, text_of}
use Rattle.class_model.specs.OwnElements.{opened_by, own_elements}
use Rattle.class_model.specs.DescriptorReading.{field_kind}
use Rattle.class_model.specs.declared.annotation.Note.{Note}
use Rattle.class_model.specs.declared.annotation.Token.{Token}
use Rattle.class_model.specs.declared.annotation.Token.TheVariants as token
use Rattle.class_model.specs.declared.attribute.Attr.{Attr}
use Rattle.class_model.specs.declared.constant.Const.{Const}
use Rattle.class_model.specs.declared.constant.Const.TheVariants as const
use Rattle.mt_insn.specs.Named.{names}
use Rattle.mt_attrs.specs.Named.{is_text, is_described, names_type, is_name, names_result, IsIndex}
use Rattle.mt_attrs.specs.Notes.{next_due, outer_due, IsToken, AreTokens, IsNote}
use Rattle.mt_attrs.specs.declared.due.Due.{Due}
use Rattle.program_rules.specs.Names.{Name}
use Rattle.test_discovery.specs.Notes.{is_text as reads_text, notes_at}
use Rattle.test_discovery.specs.Annotations.{test_type, test_types, before_types, after_types, before_all_types, after_all_types, ignored_types, is_one_of, has_one_of, has_any, marks_of}
use Rattle.test_discovery.specs.Expected.{class_in, said_by, said_by_pair, said_of, said_at, first_said}
use Rattle.test_discovery.specs.declared.expected.Expected.{Expected}
use Rattle.test_discovery.specs.declared.marks.Marks.{Marks}
use Rattle.mutant_apply.proofs.PoolLaws.{some_is, text_kept}
use Rattle.test_laws.proofs.Lists.{any_mapped, flat_mapped, any_on, flat_on}

-- ---- by the lists of annotations of an owner

abbrev pub has_in : List Const → List Name → List (List Note) → Bool
has_in pool types lists = list_any (λ ns. list_any (is_one_of pool types) ns) lists

abbrev said_lists : List Const → List (List Note) → List Expected
said_lists pool lists = flat_map (λ ns. flat_map (said_of pool test_type) ns) lists

abbrev marks_by : Bool → Bool → Bool → Bool → Bool → Bool → Option Expected → Marks
marks_by test ignored before after before_all after_all expected = record {
  test = test && not ignored;
  before = before;
  after = after;
  before_all = before_all;
  after_all = after_all;
  expected = expected;
}

abbrev pub marks_in : List Const → List (List Note) → Marks
marks_in pool lists =
    marks_by (has_in pool test_types lists) (has_in pool ignored_types lists) (has_in pool before_types lists) (has_in pool after_types lists)
    (has_in pool before_all_types lists) (has_in pool after_all_types lists) (first_said (said_lists pool lists))

pub has_lists : (pool : List Const) (types : List Name) (attrs : List Attr) → has_any pool types attrs ≡ has_in pool types (map notes_at attrs)
has_lists pool types attrs = any_mapped (has_one_of pool types) (λ ns. list_any (is_one_of pool types) ns) notes_at (λ a. refl) attrs

said_same : (pool : List Const) (attrs : List Attr) → flat_map (said_at pool test_type) attrs ≡ said_lists pool (map notes_at attrs)
said_same pool attrs = flat_mapped (said_at pool test_type) (λ ns. flat_map (said_of pool test_type) ns) notes_at (λ a. refl) attrs

pub marks_lists : (pool : List Const) (attrs : List Attr) → marks_of pool attrs ≡ marks_in pool (map notes_at attrs)
unfolding marks_of
marks_lists pool attrs = λ i.
    marks_by (has_lists pool test_types attrs i) (has_lists pool ignored_types attrs i) (has_lists pool before_types attrs i) (has_lists pool after_types attrs i)
    (has_lists pool before_all_types attrs i) (has_lists pool after_all_types attrs i) (first_said (said_same pool attrs i))

-- ---- with entries behind the pool

module _ (pool more : List Const) where
  abbrev longer : List Const
  longer = pool ++ more

  abbrev Kept : ℕ → Type 0
  Kept i = text_of longer i ≡ text_of pool i

  -- a test of the text that an index names, which no text doesn't pass
  text_case : (f : Option (List ℕ) → Bool) (i : ℕ) (o : Option (List ℕ)) → text_of pool i ≡ o → f None ≡ false → f o ≡ true → IsSome (text_of pool i)
  text_case f i None e none h = absurd (let bad : false ≡ true = sym none ∙ h in cc)
  text_case f i (Some t) e none h = some_is (text_of pool i) t e

  type_kept : (i : ℕ) → IsIndex (names_type pool) i → Kept i
  type_kept i q = text_kept pool more i (text_case (λ o. is_described (option_map field_kind o)) i (text_of pool i) refl refl q.1)

  result_kept : (i : ℕ) → IsIndex (names_result pool) i → Kept i
  result_kept i q = text_kept pool more i (text_case (λ o. is_name (codes "V") o || is_described (option_map field_kind o)) i (text_of pool i) refl refl q.1)

  named_text : (i : ℕ) (o : Option Const) → entry_of pool i ≡ o → names is_text pool i ≡ true → IsSome (text_of pool i)
  named_text i None e h = absurd (let bad : false ≡ true = rw e at h in cc)
  named_text i (Some c) e h = text_entry c (let good : is_text c ≡ true = rw e at h in good) e
    where
      text_entry : (c : Const) → is_text c ≡ true → entry_of pool i ≡ Some c → IsSome (text_of pool i)
      text_entry (const.Utf8 units) t at = rw at refl
      text_entry other t at = absurd cc

  index_kept : (i : ℕ) → IsIndex (names is_text pool) i → Kept i
  index_kept i q = text_kept pool more i (named_text i (entry_of pool i) refl q.1)

  -- ---- elements

  abbrev IsKept : Token → Type 0
  IsKept (token.Name name) = Kept name
  IsKept (token.Class index) = Kept index
  IsKept other = Unit {0}

  token_kept : (due : Due) (t : Token) → IsToken pool due t → IsKept t
  token_kept due (token.Name name) q = index_kept name q.1
  token_kept due (token.Plain tag index) q = tt
  token_kept due (token.Enum kind name) q = tt
  token_kept due (token.Class index) q = result_kept index q.1
  token_kept due (token.Inner kind count) q = tt
  token_kept due (token.Many count) q = tt

  tokens_kept : (dues : List Due) (ts : List Token) → AreTokens pool dues ts → AllByRecursion IsKept ts
  tokens_kept dues [] q = tt
  tokens_kept [] (t ∷ ts) q = absurd q
  tokens_kept (due ∷ others) (t ∷ ts) q = (token_kept due t q.0, tokens_kept (next_due due others t) ts q.1)

  said_kept : (t : Token) → IsKept t → said_by longer t ≡ said_by pool t
  said_kept (token.Name name) k = refl
  said_kept (token.Plain tag index) k = refl
  said_kept (token.Enum kind name) k = refl
  said_kept (token.Class index) k = ap class_in k
  said_kept (token.Inner kind count) k = refl
  said_kept (token.Many count) k = refl

  pair_kept : (n : ℕ) (t : Token) → Kept n → IsKept t → said_by_pair longer (n, t) ≡ said_by_pair pool (n, t)
  pair_kept n t e k = λ i. if reads_text (codes "expected") (e i) then said_kept t k i ∷ [] else []

  abbrev NameKept : Option ℕ → Type 0
  NameKept None = Unit {0}
  NameKept (Some n) = Kept n

  own_kept : (name : Option ℕ) (due : ℕ) (ts : List Token) → NameKept name → AllByRecursion IsKept ts → flat_map (said_by_pair longer) (own_elements name due ts) ≡ flat_map (said_by_pair pool) (own_elements name due ts)
  unfolding own_elements
  own_kept None due [] k all = refl
  own_kept (Some n) due [] k all = refl
  own_kept (Some n) due (t ∷ ts) k all = λ i. pair_kept n t k all.0 i ++ own_kept None (opened_by t) ts tt all.1 i
  own_kept None (suc due) (t ∷ ts) k all = own_kept None (due + opened_by t) ts tt all.1
  own_kept None zero (token.Name n ∷ ts) k all = own_kept (Some n) 0 ts all.0 all.1
  own_kept None zero (token.Plain tag index ∷ ts) k all = refl
  own_kept None zero (token.Enum kind name ∷ ts) k all = refl
  own_kept None zero (token.Class index ∷ ts) k all = refl
  own_kept None zero (token.Inner kind count ∷ ts) k all = refl
  own_kept None zero (token.Many count ∷ ts) k all = refl

  -- ---- annotations

  one_kept : (types : List Name) (note : Note) → IsNote pool note → is_one_of longer types note ≡ is_one_of pool types note
  one_kept types note q = ap (λ (o : Option (List ℕ)). list_any (λ wanted. reads_text wanted o) types) (type_kept note.kind q.kind)

  note_kept : (note : Note) → IsNote pool note → said_of longer test_type note ≡ said_of pool test_type note
  note_kept note q = λ i. if reads_text test_type (type_kept note.kind q.kind i) then own_kept None 0 note.tokens tt (tokens_kept (outer_due note.count) note.tokens q.tokens) i else []

  abbrev AreNamed : List (List Note) → Type 0
  AreNamed lists = AllByRecursion (AllByRecursion (IsNote pool)) lists

  pub has_kept : (types : List Name) (lists : List (List Note)) → AreNamed lists → has_in longer types lists ≡ has_in pool types lists
  has_kept types lists q =
      any_on (λ ns. list_any (is_one_of longer types) ns) (λ ns. list_any (is_one_of pool types) ns) (AllByRecursion (IsNote pool))
      (λ ns all. any_on (is_one_of longer types) (is_one_of pool types) (IsNote pool) (one_kept types) ns all) lists q

  said_all : (lists : List (List Note)) → AreNamed lists → said_lists longer lists ≡ said_lists pool lists
  said_all lists q =
      flat_on (λ ns. flat_map (said_of longer test_type) ns) (λ ns. flat_map (said_of pool test_type) ns) (AllByRecursion (IsNote pool))
      (λ ns all. flat_on (said_of longer test_type) (said_of pool test_type) (IsNote pool) note_kept ns all) lists q

  pub marks_kept : (lists : List (List Note)) → AreNamed lists → marks_in longer lists ≡ marks_in pool lists
  marks_kept lists q = λ i.
      marks_by (has_kept test_types lists q i) (has_kept ignored_types lists q i) (has_kept before_types lists q i) (has_kept after_types lists q i)
      (has_kept before_all_types lists q i) (has_kept after_all_types lists q i) (first_said (said_all lists q i))
