-- Which types may stand in a frame, and how many.
use Rattle.std.proofs.Common.{◌≡◌, ◌≤◌, ◌+◌, ◌&&◌, ℕ, zero, suc, Bool, true, false, List, [], ◌∷◌, ◌++◌, map, reverse, drop, Some, None, refl, sym, ap, ◌∙◌, arith}
use Rattle.std.specs.Prelude.{if◌then◌else◌, nat_le, slice_get, is_some}
use Rattle.std.specs.List.{list_all}
use Rattle.std.specs.Option.{option_map}
use Rattle.std.proofs.lemmas.Bool.{false≢true, le-leb, lt-leb, leb-true, leb-false, and_parts, and_from}
use Rattle.std.proofs.lemmas.Grind.{reverse_onto}
use Rattle.std.proofs.lemmas.Option.{slice_get-map}
use Rattle.program_rules.specs.Names.{Name, same, object_name}
use Rattle.program_rules.specs.Kinds.{Kind, OfBoolean, OfByte, OfChar, OfShort, OfInt, OfLong, OfReference}
use Rattle.program_rules.specs.Linked.{LinkedMethod, LinkedCode, is_static}
use Rattle.program_rules.specs.Types.{VType, Top, IntType, LongType, NullType, UninitThis, Uninit, Obj}
use Rattle.type_rules.specs.Frames.{is_initializer, receiver_of, first_items, type_of as type_of_kind, may_stand, new_at, new_of}
use Rattle.class_link.specs.declared.instruction.Instruction.{Instruction}
use Rattle.class_link.specs.declared.linked.Entry.{Entry}
use Rattle.class_link.specs.declared.linked.Switch.{Switch}
use Rattle.class_link.specs.View.{instruction_of}
use Rattle.vframes.specs.declared.named.Named.{Named}
use Rattle.vframes.specs.declared.slot_type.SlotType.{SlotType}
use Rattle.vframes.specs.declared.slot_type.SlotType.TheVariants as slot
use Rattle.vframes.specs.View.{type_of, types_in, words_of}
use Rattle.vframes.proofs.Words.{words_append, words_turned}
use Rattle.type_verifier.specs.declared.method.MethodCode.{MethodCode}
use Rattle.type_verifier.specs.Standing.{IsOf, AreFirst, is_new_in, stands, fits}

-- ---- the instruction at a place

pub new_there : (es : List Entry) (ss : List Switch) (is : List Instruction) (at : ℕ) (i : Instruction) → Some i ≡ slice_get is at → is_some (new_of (slice_get (map (instruction_of es ss) is) at)) ≡ is_new_in es ss i
new_there es ss is at i e = ap (λ o. is_some (new_of o)) (slice_get-map (instruction_of es ss) is at ∙ ap (option_map (instruction_of es ss)) (sym e))

pub none_there : (es : List Entry) (ss : List Switch) (is : List Instruction) (at : ℕ) → None ≡ slice_get is at → false ≡ is_some (new_of (slice_get (map (instruction_of es ss) is) at))
none_there es ss is at e = sym (ap (λ o. is_some (new_of o)) (slice_get-map (instruction_of es ss) is at ∙ ap (option_map (instruction_of es ss)) (sym e)))

-- ---- by the names of a class

pub may_stand_is : (x : MethodCode) (m : LinkedMethod) (code : LinkedCode) → IsOf x m code → (ns : List Named) (t : SlotType) → may_stand m code (type_of ns t) ≡ stands x t
may_stand_is x m code h ns slot.Top = refl
may_stand_is x m code h ns slot.Int = refl
may_stand_is x m code h ns slot.Long = refl
may_stand_is x m code h ns slot.Null = refl
may_stand_is x m code h ns slot.UninitThis = h.initializer
may_stand_is x m code h ns (slot.Uninit at) = ap (λ c. is_some (new_at c at)) h.code
may_stand_is x m code h ns (slot.Obj i) = refl

pub all_stand : (x : MethodCode) (m : LinkedMethod) (code : LinkedCode) → IsOf x m code → (ns : List Named) (ts : List SlotType) → list_all (may_stand m code) (types_in ns ts) ≡ list_all (stands x) ts
all_stand x m code h ns [] = refl
all_stand x m code h ns (t ∷ ts) =
    ap (λ b. b && list_all (may_stand m code) (types_in ns ts)) (may_stand_is x m code h ns t)
    ∙ ap (λ b. stands x t && b) (all_stand x m code h ns ts)

-- ---- all of a list

module _ {A : Type 0} (p : A → Bool) where
  regroup : (a b c : Bool) → (a && (b && c)) ≡ ((a && b) && c)
  regroup true b c = refl
  regroup false b c = refl

  swap : (a b : Bool) → (a && (b && true)) ≡ (b && a)
  swap true true = refl
  swap true false = refl
  swap false true = refl
  swap false false = refl

  pub all_append : (xs ys : List A) → list_all p (xs ++ ys) ≡ (list_all p xs && list_all p ys)
  all_append [] ys = refl
  all_append (x ∷ xs) ys = ap (λ b. p x && b) (all_append xs ys) ∙ regroup (p x) (list_all p xs) (list_all p ys)

  pub all_turned : (xs : List A) → list_all p (reverse xs) ≡ list_all p xs
  all_turned [] = refl
  all_turned (x ∷ xs) =
      ap (list_all p) (reverse_onto xs x []) ∙ all_append (reverse xs) (x ∷ [])
      ∙ swap (list_all p (reverse xs)) (p x) ∙ ap (λ b. p x && b) (all_turned xs)

-- ---- types that fit

pub few : (x : MethodCode) (max : ℕ) (ts : List SlotType) → fits x max ts ≡ true → words_of ts ≤ max
few x max ts e = leb-true (words_of ts) max (and_parts (nat_le (words_of ts) max) (list_all (stands x) ts) e).0

pub each_stands : (x : MethodCode) (max : ℕ) (ts : List SlotType) → fits x max ts ≡ true → list_all (stands x) ts ≡ true
each_stands x max ts e = (and_parts (nat_le (words_of ts) max) (list_all (stands x) ts) e).1

pub fitting : (x : MethodCode) (max : ℕ) (ts : List SlotType) → words_of ts ≤ max → list_all (stands x) ts ≡ true → fits x max ts ≡ true
fitting x max ts l e = and_from (nat_le (words_of ts) max) (list_all (stands x) ts) (le-leb (words_of ts) max l) e

pub none_fits : (x : MethodCode) (max : ℕ) → fits x max [] ≡ true
none_fits x max = fitting x max [] (omega arith) refl

pub fits_turned : (x : MethodCode) (max : ℕ) (ts : List SlotType) → fits x max (reverse ts) ≡ fits x max ts
fits_turned x max ts =
    ap (λ w. nat_le w max && list_all (stands x) (reverse ts)) (words_turned ts)
    ∙ ap (λ b. nat_le (words_of ts) max && b) (all_turned (stands x) ts)

le_moved : (a w room max n : ℕ) → n ≡ a + w → room + w ≡ max → nat_le n max ≡ nat_le a room
le_moved a w room max n e f = by_test (nat_le a room) refl
  where
    by_test : (b : Bool) → nat_le a room ≡ b → nat_le n max ≡ b
    by_test true t = let l = leb-true a room t in le-leb n max (omega (arith, l, e, f))
    by_test false t = let l = leb-false a room t in lt-leb n max (omega (arith, l, e, f))

and_true : (a b : Bool) → b ≡ true → (a && b) ≡ a
and_true true b e = e
and_true false b e = refl

pub fits_more : (x : MethodCode) (max room w : ℕ) (more ts : List SlotType) → w ≡ words_of ts → room + w ≡ max → list_all (stands x) ts ≡ true → fits x max (reverse more ++ ts) ≡ fits x room more
fits_more x max room w more ts e f s =
    let words : words_of (reverse more ++ ts) ≡ words_of more + w = (let a = words_append (reverse more) ts in let b = words_turned more in omega (arith, a, b, e)) in
    ap (λ b. b && list_all (stands x) (reverse more ++ ts)) (le_moved (words_of more) w room max (words_of (reverse more ++ ts)) words f)
    ∙ ap (λ b. nat_le (words_of more) room && b)
    (all_append (stands x) (reverse more) ts ∙ and_true (list_all (stands x) (reverse more)) (list_all (stands x) ts) s ∙ all_turned (stands x) more)

pub fits_drop : (x : MethodCode) (max n : ℕ) (ts : List SlotType) → fits x max ts ≡ true → fits x max (drop n ts) ≡ true
fits_drop x max zero ts e = e
fits_drop x max (suc n) [] e = e
fits_drop x max (suc n) (t ∷ ts) e =
    let l = few x max (t ∷ ts) e in
    fits_drop x max n ts (fitting x max ts (omega (arith, l)) (and_parts (stands x t) (list_all (stands x) ts) (each_stands x max (t ∷ ts) e)).1)

-- ---- the first types

begins : Bool → VType → Bool
begins b Top = true
begins b IntType = true
begins b LongType = true
begins b NullType = true
begins b UninitThis = b
begins b (Uninit at) = false
begins b (Obj n) = true

kind_begins : (b : Bool) (k : Kind) → begins b (type_of_kind k) ≡ true
unfolding begins
kind_begins b OfBoolean = refl
kind_begins b OfByte = refl
kind_begins b OfChar = refl
kind_begins b OfShort = refl
kind_begins b OfInt = refl
kind_begins b OfLong = refl
kind_begins b (OfReference n) = refl

args_begin : (b : Bool) (ks : List Kind) → list_all (begins b) (map type_of_kind ks) ≡ true
args_begin b [] = refl
args_begin b (k ∷ ks) = and_from (begins b (type_of_kind k)) (list_all (begins b) (map type_of_kind ks)) (kind_begins b k) (args_begin b ks)

receiver_case : (class : Name) (a s t : Bool) → list_all (begins a) (if a then (if s then Obj class else UninitThis) ∷ [] else if t then [] else Obj class ∷ []) ≡ true
unfolding begins
receiver_case class true true t = refl
receiver_case class true false t = refl
receiver_case class false s true = refl
receiver_case class false s false = refl

first_begin : (class : Name) (m : LinkedMethod) → list_all (begins (is_initializer m)) (first_items class m) ≡ true
first_begin class m =
    all_append (begins (is_initializer m)) (receiver_of class m) (map type_of_kind m.args)
    ∙ and_from (list_all (begins (is_initializer m)) (receiver_of class m)) (list_all (begins (is_initializer m)) (map type_of_kind m.args))
    (receiver_case class (is_initializer m) (same class object_name) (is_static m.flags)) (args_begin (is_initializer m) m.args)

stands_from : (x : MethodCode) (ns : List Named) (t : SlotType) → begins x.is_initializer (type_of ns t) ≡ true → stands x t ≡ true
unfolding begins
stands_from x ns slot.Top e = refl
stands_from x ns slot.Int e = refl
stands_from x ns slot.Long e = refl
stands_from x ns slot.Null e = refl
stands_from x ns slot.UninitThis e = e
stands_from x ns (slot.Uninit at) e = absurd (false≢true e)
stands_from x ns (slot.Obj i) e = refl

all_from : (x : MethodCode) (ns : List Named) (ts : List SlotType) → list_all (begins x.is_initializer) (types_in ns ts) ≡ true → list_all (stands x) ts ≡ true
all_from x ns [] e = refl
all_from x ns (t ∷ ts) e =
    let both = and_parts (begins x.is_initializer (type_of ns t)) (list_all (begins x.is_initializer) (types_in ns ts)) e in
    and_from (stands x t) (list_all (stands x) ts) (stands_from x ns t both.0) (all_from x ns ts both.1)

pub first_fits : (x : MethodCode) (first : List SlotType) → AreFirst x first → fits x x.code.now.max_locals first ≡ true
first_fits x first h =
    fitting x x.code.now.max_locals first h.few
    (all_from x h.names first (ap (list_all (begins x.is_initializer)) h.types
    ∙ ap (λ b. list_all (begins b) (first_items h.class h.method)) (sym h.initializer) ∙ first_begin h.class h.method))
