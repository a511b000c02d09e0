-- How a constant pool grows: an entry stays where it was added, and the index that was given for it
-- names it in each pool that goes on so and has room in a file.
use Rattle.std.proofs.Common.{◌≡◌, ℕ, zero, suc, ◌+◌, ◌-◌, ◌^◌, ◌<◌, Bool, true, false, eqb, List, [], ◌∷◌, ◌++◌, length, Option, Some, None, refl, sym, ap, subst, ◌∙◌, arith}
use Rattle.std.specs.Prelude.{◌↔◌, ◌==◌, ◌&&◌, ℤ, IsTrue, IsSomeAnd, slice_get, get_or, position}
use Rattle.std.specs.List.{AllByRecursion}
use Rattle.std.specs.Cmp.Lexicographic.{same_text}
use Rattle.std.proofs.lemmas.Bool.{eqb-true, ne_eqb, lt-ltb}
use Rattle.std.proofs.lemmas.Bool.Decides.{Decides-int_eq}
use Rattle.std.proofs.lemmas.Option.{slice_get_within, slice_get-get_or}
use Rattle.std.proofs.lemmas.List.Quantifiers.{position-Some}
use Rattle.class_model.specs.Pool.{entry_of, is_wide, IsEntry, IsPoolForm}
use Rattle.class_model.specs.declared.constant.Const.{Const}
use Rattle.class_model.specs.declared.constant.Const.TheVariants as const
use Rattle.class_asm.specs.Numbering.{Numbered, index_of, found_or, added, interned, added_wide, wide_interned, is_same, is_utf8, is_integer, is_long, is_class, is_text, is_field, is_method, is_interface_method, is_pair}

-- ---- entries stay

-- Each entry of a list stands in a pool, at its place.
pub record IsIn (pool list : List Const) : Type 0 where
  pub kept : (place : ℕ) (c : Const) → slice_get list place ≡ Some c → slice_get pool place ≡ Some c

pub all_in : (pool : List Const) → IsIn pool pool
all_in pool = record { kept = λ place c e. e }

at_front : (front behind : List Const) (place : ℕ) (c : Const) → slice_get front place ≡ Some c → slice_get (front ++ behind) place ≡ Some c
at_front [] behind place c e = absurd cc
at_front (x ∷ xs) behind zero c e = e
at_front (x ∷ xs) behind (suc place) c e = at_front xs behind place c e

at_seam : (front : List Const) (c : Const) (behind : List Const) → slice_get (front ++ c ∷ behind) (length front) ≡ Some c
at_seam [] c behind = refl
at_seam (x ∷ xs) c behind = at_seam xs c behind

pub front_in : (front behind pool : List Const) → IsIn pool (front ++ behind) → IsIn pool front
front_in front behind pool h = record { kept = λ place c e. h.kept place c (at_front front behind place c e) }

-- ---- what an index names

pub record IsNumberOf (pool : List Const) (c : Const) (index : ℕ) : Type 0 where
  pub fits : index < 2 ^ 16
  pub names : entry_of pool index ≡ Some c

entry_behind : (pool : List Const) (index : ℕ) → entry_of pool (index + 1) ≡ slice_get pool index
entry_behind pool index =
    let more : eqb (index + 1) 0 ≡ false = ne_eqb (index + 1) 0 (λ e. omega (arith, e)) in
    let less : index + 1 - 1 ≡ index = omega arith in
    rw (more, less) refl

index_is : (place : ℕ) → place < 0xFFFF → index_of place ≡ place + 1
index_is place lt = rw (lt-ltb place 0xFFFF lt) refl

pub number_of : (pool : List Const) (place : ℕ) (c : Const) → length pool + 1 < 2 ^ 16 → slice_get pool place ≡ Some c → IsNumberOf pool c (index_of place)
number_of pool place c few e =
    let within = slice_get_within pool place c e in
    let small : place < 0xFFFF = omega (arith, within, few) in
    subst (IsNumberOf pool c) (sym (index_is place small)) (record { fits = omega (arith, small); names = entry_behind pool place ∙ e })

-- ---- equal entries

utf8_same : (units : List ℕ) (c : Const) → is_utf8 units c ≡ true → const.Utf8 units ≡ c
utf8_same units (const.Utf8 text) e = ap const.Utf8 (same_text units text (sym e))
utf8_same units other e = absurd cc

integer_same : (value : ℤ) (c : Const) → is_integer value c ≡ true → const.Integer value ≡ c
integer_same value (const.Integer number) e = ap const.Integer ((Decides-int_eq value number).0 e)
integer_same value other e = absurd cc

long_same : (value : ℤ) (c : Const) → is_long value c ≡ true → const.Long value ≡ c
long_same value (const.Long number) e = ap const.Long ((Decides-int_eq value number).0 e)
long_same value other e = absurd cc

class_same : (name : ℕ) (c : Const) → is_class name c ≡ true → const.Class name ≡ c
class_same name (const.Class index) e = ap const.Class (eqb-true name index e)
class_same name other e = absurd cc

text_same : (text : ℕ) (c : Const) → is_text text c ≡ true → const.Text text ≡ c
text_same text (const.Text index) e = ap const.Text (eqb-true text index e)
text_same text other e = absurd cc

both_true : (a b : Bool) → a && b ≡ true → (a ≡ true) × (b ≡ true)
both_true true b e = (refl, e)
both_true false b e = absurd cc

two_same : (make : ℕ → ℕ → Const) (a b first second : ℕ) → (a == first) && (b == second) ≡ true → make a b ≡ make first second
two_same make a b first second e =
    let both = both_true (a == first) (b == second) e in
    ap (λ (n : ℕ). make n b) (eqb-true a first both.0) ∙ ap (make first) (eqb-true b second both.1)

field_same : (class pair : ℕ) (c : Const) → is_field class pair c ≡ true → const.Field class pair ≡ c
field_same class pair (const.Field first second) e = two_same const.Field class pair first second e
field_same class pair other e = absurd cc

method_same : (class pair : ℕ) (c : Const) → is_method class pair c ≡ true → const.Method class pair ≡ c
method_same class pair (const.Method first second) e = two_same const.Method class pair first second e
method_same class pair other e = absurd cc

interface_method_same : (class pair : ℕ) (c : Const) → is_interface_method class pair c ≡ true → const.IMethod class pair ≡ c
interface_method_same class pair (const.IMethod first second) e = two_same const.IMethod class pair first second e
interface_method_same class pair other e = absurd cc

pair_same : (name desc : ℕ) (c : Const) → is_pair name desc c ≡ true → const.Pair name desc ≡ c
pair_same name desc (const.Pair first second) e = two_same const.Pair name desc first second e
pair_same name desc other e = absurd cc

same_is : (one c : Const) → is_same one c ≡ true → one ≡ c
same_is (const.Utf8 units) c e = utf8_same units c e
same_is (const.Integer value) c e = integer_same value c e
same_is (const.Long value) c e = long_same value c e
same_is (const.Class name) c e = class_same name c e
same_is (const.Text text) c e = text_same text c e
same_is (const.Field class pair) c e = field_same class pair c e
same_is (const.Method class pair) c e = method_same class pair c e
same_is (const.IMethod class pair) c e = interface_method_same class pair c e
same_is (const.Pair name desc) c e = pair_same name desc c e
same_is one c e = absurd cc

-- ---- where `Second` stands

-- `Second` stands exactly behind each entry that takes two places, the first where `second` says
-- so.
abbrev pub AreSeconds : Bool → List Const → Type 0
AreSeconds second [] = second ≡ false
AreSeconds second (c ∷ cs) = ((Some c ≡ Some const.Second) ↔ IsTrue second) × AreSeconds (is_wide c) cs

abbrev before_all : Const
before_all = const.Class 0

seconds_from : (before : Const) (cs : List Const) → AreSeconds (is_wide before) cs → (index : ℕ) → (slice_get cs index ≡ Some const.Second) ↔ IsSomeAnd (slice_get (before ∷ cs) index) (λ c. IsTrue (is_wide c))
seconds_from before [] p zero = (λ e. absurd cc, λ e. absurd cc)
seconds_from before [] p (suc index) = (λ e. absurd cc, λ e. absurd e)
seconds_from before (c ∷ cs) p zero = p.0
seconds_from before (c ∷ cs) p (suc index) = seconds_from c cs p.1 index

entry_there : (pool : List Const) (index : ℕ) → IsSomeAnd (entry_of pool index) (λ c. IsTrue (is_wide c)) ↔ IsSomeAnd (slice_get (before_all ∷ pool) index) (λ c. IsTrue (is_wide c))
entry_there pool zero = (λ e. absurd e, λ e. absurd cc)
entry_there pool (suc index) =
    let next : suc index ≡ index + 1 = omega arith in
    let same : entry_of pool (suc index) ≡ slice_get pool index = ap (entry_of pool) next ∙ entry_behind pool index in
    (λ e. subst (λ (o : Option Const). IsSomeAnd o (λ c. IsTrue (is_wide c))) same e, λ e. subst (λ (o : Option Const). IsSomeAnd o (λ c. IsTrue (is_wide c))) (sym same) e)

seconds_of : (pool : List Const) → AreSeconds false pool → (index : ℕ) → (entry_of pool (index + 1) ≡ Some const.Second) ↔ IsSomeAnd (entry_of pool index) (λ c. IsTrue (is_wide c))
seconds_of pool p index =
    let s = seconds_from before_all pool p index in
    let there = entry_there pool index in
    (λ e. there.1 (s.0 (sym (entry_behind pool index) ∙ e)), λ e. entry_behind pool index ∙ s.1 (there.0 e))

-- An entry other than `Second`, and whether it takes two places.
pub record IsOfWidth (wide : Bool) (c : Const) : Type 0 where
  pub unlike : Some c ≡ Some const.Second → ⊥
  pub width : is_wide c ≡ wide

first_of_width : (wide : Bool) (c : Const) (second : Bool) → IsOfWidth wide c → second ≡ false → (Some c ≡ Some const.Second) ↔ IsTrue second
first_of_width wide c second w e = (λ s. absurd (w.unlike s), λ t. absurd cc)

seconds_push : (second : Bool) (cs : List Const) (c : Const) → IsOfWidth false c → AreSeconds second cs → AreSeconds second (cs ++ c ∷ [])
seconds_push second [] c w p = (first_of_width false c second w p, w.width)
seconds_push second (d ∷ ds) c w p = (p.0, seconds_push (is_wide d) ds c w p.1)

seconds_push_wide : (second : Bool) (cs : List Const) (c : Const) → IsOfWidth true c → AreSeconds second cs → AreSeconds second ((cs ++ c ∷ []) ++ const.Second ∷ [])
seconds_push_wide second [] c w p = (first_of_width true c second w p, ((λ e. w.width, λ e. refl), refl))
seconds_push_wide second (d ∷ ds) c w p = (p.0, seconds_push_wide (is_wide d) ds c w p.1)

-- ---- the form of what a pool begins with

-- The entries of a list are right in a pool.
pub record IsFormed (pool list : List Const) : Type 0 where
  pub entries : AllByRecursion (IsEntry pool) list
  pub seconds : AreSeconds false list

pub none_formed : (pool : List Const) → IsFormed pool []
none_formed pool = record { entries = tt; seconds = refl }

pub pool_formed : (pool : List Const) → IsFormed pool pool → IsPoolForm pool
pool_formed pool f = record { entries = f.entries; seconds = seconds_of pool f.seconds }

entries_push : (pool list : List Const) (c : Const) → AllByRecursion (IsEntry pool) list → IsEntry pool c → AllByRecursion (IsEntry pool) (list ++ c ∷ [])
entries_push pool [] c all is = (is, tt)
entries_push pool (d ∷ ds) c all is = (all.0, entries_push pool ds c all.1 is)

-- ---- an entry that is added unless an equal one is there

get_at : (list : List Const) (place : ℕ) (one : Const) → position (is_same one) list ≡ Some place → slice_get list place ≡ Some one
get_at list place one e =
    let found = position-Some (is_same one) list place one e in
    slice_get-get_or list place one found.0 ∙ ap Some (sym (same_is one (get_or list place one) found.1))

-- what is given for an entry under a pool that goes on from the list at last
pub record IsAdded (pool : List Const) (c : Const) (list : List Const) (x : ℕ × List Const) : Type 0 where
  pub back : IsIn pool x.1 → IsIn pool list
  pub right : IsIn pool x.1 → IsFormed pool list → IsEntry pool c → IsNumberOf pool c x.0 × IsFormed pool x.1

found_is : (pool : List Const) (c : Const) (list : List Const) (place : ℕ) → length pool + 1 < 2 ^ 16 → position (is_same c) list ≡ Some place → IsAdded pool c list (index_of place, list)
found_is pool c list place few e = record {
  back = λ h. h;
  right = λ h f is. (number_of pool place c few (h.kept place c (get_at list place c e)), f);
}

added_is : (pool : List Const) (c : Const) (list : List Const) → length pool + 1 < 2 ^ 16 → IsOfWidth false c → IsAdded pool c list (added c list)
added_is pool c list few w = record {
  back = λ h. front_in list (c ∷ []) pool h;
  right = λ h f is. (
    number_of pool (length list) c few (h.kept (length list) c (at_seam list c [])),
    record { entries = entries_push pool list c f.entries is; seconds = seconds_push false list c w f.seconds },
  );
}

added_wide_is : (pool : List Const) (c : Const) (list : List Const) → length pool + 1 < 2 ^ 16 → IsOfWidth true c → IsAdded pool c list (added_wide c list)
added_wide_is pool c list few w = record {
  back = λ h. front_in list (c ∷ []) pool (front_in (list ++ c ∷ []) (const.Second ∷ []) pool h);
  right = λ h f is. (
    number_of pool (length list) c few ((front_in (list ++ c ∷ []) (const.Second ∷ []) pool h).kept (length list) c (at_seam list c [])),
    record { entries = entries_push pool (list ++ c ∷ []) const.Second (entries_push pool list c f.entries is) tt; seconds = seconds_push_wide false list c w f.seconds },
  );
}

by_place : (pool : List Const) (c : Const) (list : List Const) (add : Numbered ℕ) (o : Option ℕ) → length pool + 1 < 2 ^ 16 → position (is_same c) list ≡ o → IsAdded pool c list (add list) → IsAdded pool c list (found_or list add o)
by_place pool c list add None few e is = is
by_place pool c list add (Some place) few e is = found_is pool c list place few e

pub interned_is : (pool : List Const) (c : Const) (list : List Const) → length pool + 1 < 2 ^ 16 → IsOfWidth false c → IsAdded pool c list (interned c list)
interned_is pool c list few w = by_place pool c list (added c) (position (is_same c) list) few refl (added_is pool c list few w)

pub wide_interned_is : (pool : List Const) (c : Const) (list : List Const) → length pool + 1 < 2 ^ 16 → IsOfWidth true c → IsAdded pool c list (wide_interned c list)
wide_interned_is pool c list few w = by_place pool c list (added_wide c) (position (is_same c) list) few refl (added_wide_is pool c list few w)
