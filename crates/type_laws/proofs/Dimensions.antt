-- multianewarray goes on from a state that fits to one that fits: the arrays of each level are made
-- by the name of the level, by induction on the counts.
use Rattle.std.proofs.Common.{◌≡◌, ◌≤◌, ◌<◌, ℕ, zero, suc, ◌+◌, ◌++◌, ◌&&◌, Bool, true, false, List, [], ◌∷◌, length, map, replicate, Option, Some, None, ℤ, refl, sym, ap, ◌∙◌, subst, arith}
use Rattle.std.specs.Prelude.{codes, nat_eq, nat_le, nat_lt, if◌then◌else◌, unsigned_abs}
use Rattle.std.specs.Int.{is_negative}
use Rattle.std.specs.List.{list_any}
use Rattle.std.proofs.lemmas.Bool.{and_parts, and_from, eqb-true, false≢true}
use Rattle.std.proofs.lemmas.Bool.Decides.{nat_tests}
use Rattle.std.proofs.lemmas.Cmp.{nat_list_eq_equiv}
use Rattle.std.proofs.lemmas.List.{length-map}
use Rattle.program_rules.specs.declared.value.Value.{Value}
use Rattle.program_rules.specs.declared.value.Value.TheVariants.{Ref}
use Rattle.program_rules.specs.declared.fault.Fault.TheVariants.{NegativeArraySizeException}
use Rattle.machine_rules.specs.declared.machine.Limits.{Limits}
use Rattle.program_rules.specs.Names.{Name, same, object_name, class_behind, is_array_name, element_of, element_class, without_last}
use Rattle.program_rules.specs.Kinds.{Kind, OfBoolean, OfByte, OfChar, OfShort, OfInt, OfLong, OfReference, default_of, kind_in, kind_of_unit, descriptor_in, class_of_kind}
use Rattle.program_rules.specs.Types.{VType, IntType, Obj}
use Rattle.program_rules.specs.Linked.{method_in}
use Rattle.program_rules.specs.Programs.{Look}
use Rattle.program_rules.specs.Objects.{with_object_at, Object, ArrayOf}
use Rattle.machine_rules.specs.State.{Frame, World}
use Rattle.machine_rules.specs.Effects.{Effect, NoRow, throws, unless_full}
use Rattle.machine_rules.specs.Lookups.{consult}
use Rattle.machine_rules.specs.NewObjects.{array_of, new_array, with_component, next_component, components, fill_array, fill_array_with, new_arrays}
use Rattle.machine_rules.specs.Arrays.{pushes_new, on_counts, has_dimensions, makes_arrays_in, makes_arrays}
use Rattle.type_rules.specs.References.{ClassBase, LetterBase, classes_of, dimensions, base_of, base_stated}
use Rattle.type_rules.specs.Assignability.{FrameTypes, same_type, height}
use Rattle.type_rules.specs.Rows.{Setting, Checked, Falls, Fails, takes_ints, has_room, allows, gives, falls}
use Rattle.type_laws.specs.Values.{base_within, kind_within, kind_dimensions, kind_base, BaseThere, IsWithin, AllItems, OfKind, EachOfKind}
use Rattle.type_laws.specs.States.{setting, Leads, Fits, AllLower, FramesFit, WorldFits}
use Rattle.type_laws.specs.Soundness.{Meanings, IsArrayNamed}
use Rattle.type_laws.proofs.Kept.{each_kept}
use Rattle.type_laws.proofs.Accepting.{Right}
use Rattle.type_laws.proofs.Initialised.{no_dimensions, own_base}
use Rattle.type_laws.proofs.Taking.{right_if}
use Rattle.type_laws.proofs.Good.{Given, Good, good_if, good_true, good_unless_full, Grown, Made, keeps_all, keeps_both, made_object, holds_of, good_resolves}
use Rattle.type_laws.proofs.Rows.{at_int, throws_here}
use Rattle.type_laws.proofs.Objects.{good_new, defaults_fit}
use Rattle.type_laws.proofs.Casts.{base_there, name_is}
use Rattle.type_laws.proofs.Stores.{within_same, object_set}

-- ---- the name of an array, and the kind of its components

-- What stands behind the first bracket is the descriptor of the component's kind.
record IsLevel (us : Name) : Type 0 where
  base : kind_base (kind_in us) ≡ base_stated us
  dims : kind_dimensions (kind_in us) ≡ dimensions us
  behind : class_of_kind (kind_in us) ≡ element_class (element_of us)

-- by the first unit, and by whether it is that of a class
abbrev Letter : Bool → ℕ → Name → Kind → Type 0
Letter b c cs k =
    (kind_base k ≡ (if b then ClassBase (without_last cs) else LetterBase c))
    × (kind_dimensions k ≡ 0)
    × (class_of_kind k ≡ (if b then without_last cs else object_name))

if_letter : (c x : ℕ) (cs : Name) (k rest : Kind) → Letter (nat_eq x 76) x cs k → (descriptor_in rest ≡ c ∷ cs → Letter (nat_eq c 76) c cs rest) → descriptor_in (if nat_eq c x then k else rest) ≡ c ∷ cs → Letter (nat_eq c 76) c cs (if nat_eq c x then k else rest)
if_letter c x cs k rest i go h = by_unit (nat_eq c x) refl h
  where
    by_unit : (b : Bool) → nat_eq c x ≡ b → descriptor_in (if b then k else rest) ≡ c ∷ cs → Letter (nat_eq c 76) c cs (if b then k else rest)
    by_unit true e h = subst (λ z. Letter (nat_eq z 76) z cs k) (sym (eqb-true c x e)) i
    by_unit false e h = go h

-- a class's name that a descriptor has isn't that of an array
no_bracket : (m : Name) (c : ℕ) (cs : Name) (b : Bool) → nat_eq c 91 ≡ false → is_array_name m ≡ b → (if b then m else 76 ∷ (m ++ 59 ∷ [])) ≡ c ∷ cs → b ≡ false
no_bracket m c cs true ne e h = sym e ∙ ap is_array_name h ∙ ne
no_bracket m c cs false ne e h = refl

class_letter : (c : ℕ) (cs : Name) → nat_eq c 91 ≡ false → descriptor_in (if nat_eq c 76 then OfReference (without_last cs) else OfReference (c ∷ cs)) ≡ c ∷ cs → Letter (nat_eq c 76) c cs (if nat_eq c 76 then OfReference (without_last cs) else OfReference (c ∷ cs))
class_letter c cs ne h = by_unit (nat_eq c 76) refl h
  where
    other : 76 ∷ ((c ∷ cs) ++ 59 ∷ []) ≡ c ∷ cs → nat_eq c 76 ≡ true
    other g = let is : 76 ≡ c = cc in subst (λ z. nat_eq z 76 ≡ true) is refl

    by_unit : (b : Bool) → nat_eq c 76 ≡ b → descriptor_in (if b then OfReference (without_last cs) else OfReference (c ∷ cs)) ≡ c ∷ cs → Letter b c cs (if b then OfReference (without_last cs) else OfReference (c ∷ cs))
    by_unit true e h =
        let m = without_last cs in
        let plain : is_array_name m ≡ false = no_bracket m c cs (is_array_name m) ne refl h in
        (own_base m plain, no_dimensions m plain, ap (λ b. if b then element_class (element_of m) else m) plain)
    by_unit false e h = absurd (false≢true (sym e ∙ other (subst (λ b. (if b then c ∷ cs else 76 ∷ ((c ∷ cs) ++ 59 ∷ [])) ≡ c ∷ cs) ne h)))

letters : (c : ℕ) (cs : Name) → nat_eq c 91 ≡ false → descriptor_in (kind_of_unit c cs) ≡ c ∷ cs → Letter (nat_eq c 76) c cs (kind_of_unit c cs)
letters c cs ne h =
    if_letter c 90 cs OfBoolean _ (refl, refl, refl)
    (if_letter c 66 cs OfByte _ (refl, refl, refl)
    (if_letter c 67 cs OfChar _ (refl, refl, refl)
    (if_letter c 83 cs OfShort _ (refl, refl, refl)
    (if_letter c 73 cs OfInt _ (refl, refl, refl)
    (if_letter c 74 cs OfLong _ (refl, refl, refl)
    (class_letter c cs ne)))))) h

level : (us : Name) → IsArrayNamed us → IsLevel us
level [] h = let no : codes "I" ≡ [] = h in cc
level (c ∷ cs) h = by_bracket (nat_eq c 91) refl h
  where
    by_bracket : (b : Bool) → nat_eq c 91 ≡ b → descriptor_in (kind_in (if b then element_of cs else c ∷ cs)) ≡ (if b then element_of cs else c ∷ cs) → IsLevel (c ∷ cs)
    by_bracket true e h = subst (λ z. IsLevel (z ∷ cs)) (sym (eqb-true c 91 e)) (record { base = refl; dims = refl; behind = refl })
    by_bracket false e h =
        let x = letters c cs e h in
        record {
          base = x.0 ∙ sym (ap (λ b. if b then base_stated cs else if nat_eq c 76 then ClassBase (without_last cs) else LetterBase c) e);
          dims = x.1 ∙ sym (ap (λ b. if b then suc (dimensions cs) else 0) e);
          behind = x.2 ∙ sym (ap (λ b. element_class (if b then element_of cs else c ∷ cs)) e);
        }

-- A name of that many dimensions begins with a bracket.
bracket : (name : Name) (n : ℕ) → suc n ≤ dimensions name → (us : Name) × (name ≡ 91 ∷ us) × (n ≤ dimensions us)
bracket [] n le = absurd (grind (arith, le))
bracket (u ∷ us) n le = by_unit (nat_eq u 91) refl le
  where
    by_unit : (b : Bool) → nat_eq u 91 ≡ b → suc n ≤ (if b then suc (dimensions us) else 0) → (vs : Name) × (u ∷ us ≡ 91 ∷ vs) × (n ≤ dimensions vs)
    by_unit true e le = (us, ap (λ z. z ∷ us) (eqb-true u 91 e), grind (arith, le))
    by_unit false e le = absurd (grind (arith, le))

-- The class behind each level is the class behind the whole.
all_levels : (class name : Name) (n : ℕ) → n ≤ dimensions name → IsArrayNamed name → class ≡ element_class (element_of name) → has_dimensions class name n ≡ true
all_levels class name zero le named is = refl
all_levels class name (suc n) le named is =
    let b = bracket name n le in
    let us = b.0 in
    let named' : IsArrayNamed us = subst (λ z. IsArrayNamed z) b.1 named in
    let is' : class ≡ element_class (element_of us) = is ∙ ap (λ z. element_class (element_of z)) b.1 in
    let here : same class (class_of_kind (kind_in us)) ≡ true = subst (λ z. same class z ≡ true) (is' ∙ sym (level us named').behind) (nat_list_eq_equiv.refl class) in
    subst (λ z. has_dimensions class z (suc n) ≡ true) (sym b.1) (and_from _ _ here (all_levels class us n b.2 named' is'))

module _ (p : Look) (d : Meanings) (q : Limits) (law : Given p d) where
  level_within : (us : Name) → IsArrayNamed us → kind_within (classes_of p) (ArrayOf (kind_in us)) (91 ∷ us) ≡ true
  level_within us named =
      let x = level us named in
      subst (λ m. base_within (classes_of p) m (dimensions us) (kind_base (kind_in us)) (base_stated us) ≡ true) (sym x.dims)
      (subst (λ b. base_within (classes_of p) (dimensions us) (dimensions us) b (base_stated us) ≡ true) (sym x.base) (within_same p d q law (dimensions us) (base_stated us)))

  -- ---- the arrays of one level

  -- A value of a kind was made, and values of it.
  record PartMade (k : Kind) (w : World) (a : World × ℕ) : Type 0 where
    grown : Grown p d q law w a.0
    fits : OfKind (classes_of p) a.0.heap k (Ref a.1)

  record PartsMade (k : Kind) (w : World) (a : World × List Value) : Type 0 where
    grown : Grown p d q law w a.0
    fit : EachOfKind (classes_of p) a.0.heap k a.1

  record ArrayMade (name : Name) (w : World) (a : World × ℕ) : Type 0 where
    grown : Grown p d q law w a.0
    within : IsWithin (classes_of p) a.0.heap name a.1

  each_joined : (h : List Object) (k : Kind) (vs : List Value) (v : Value) → EachOfKind (classes_of p) h k vs → OfKind (classes_of p) h k v → EachOfKind (classes_of p) h k (vs ++ v ∷ [])
  each_joined h k [] v a i = (i, tt)
  each_joined h k (u ∷ vs) v a i = (a.0, each_joined h k vs v a.1 i)

  grown_both : (u v w : World) → Grown p d q law u v → Grown p d q law v w → Grown p d q law u w
  grown_both u v w a b = record { keeps = keeps_both u.heap v.heap w.heap a.keeps b.keeps; here = b.here; live = b.live }

  module _ (k : Kind) (make : World → Option (World × ℕ)) (makes : (u : World) (a : World × ℕ) → u.over ≡ None → WorldFits p u → make u ≡ Some a → PartMade k u a) where
    one_more : (w : World) (c a : World × List Value) (o : Option (World × ℕ)) → PartsMade k w c → make c.0 ≡ o → with_component c.1 o ≡ Some a → PartsMade k w a
    one_more w c a None x f e = cc
    one_more w c a (Some b) x f e =
        let m = makes c.0 b x.grown.live x.grown.here f in
        let is : (b.0, c.1 ++ Ref b.1 ∷ []) ≡ a = cc in
        subst (PartsMade k w) is (record {
          grown = grown_both w c.0 b.0 x.grown m.grown;
          fit = each_joined b.0.heap k c.1 (Ref b.1) (each_kept c.0.heap b.0.heap m.grown.keeps (classes_of p) k c.1 x.fit) m.fits;
        })

    parts_made : (n : ℕ) (w : World) (a : World × List Value) → w.over ≡ None → WorldFits p w → components make n w ≡ Some a → PartsMade k w a
    parts_made zero w a live here e =
        let is : (w, []) ≡ a = cc in
        subst (PartsMade k w) is (record { grown = record { keeps = keeps_all w.heap; here = here; live = live }; fit = tt })
    parts_made (suc n) w a live here e = by_rest (components make n w) (λ c f. parts_made n w c live here f) refl e
      where
        by_rest : (o : Option (World × List Value)) → ((c : World × List Value) → components make n w ≡ Some c → PartsMade k w c) → components make n w ≡ o → next_component make o ≡ Some a → PartsMade k w a
        by_rest None go f e = cc
        by_rest (Some c) go f e = one_more w c a (make c.0) (go c f) refl e

    -- the array that was made, once its components are put into it
    filled : (name : Name) (w : World) (b : World × ℕ) (n : ℕ) (a : World × ℕ) (o : Option (World × List Value)) → kind_within (classes_of p) (ArrayOf k) name ≡ true → BaseThere (classes_of p) (kind_base k) → Made p d q law w (array_of k (replicate n (default_of k))) b → components make n b.0 ≡ o → fill_array k b.1 o ≡ Some a → ArrayMade name w a
    filled name w b n a None within base m f e = cc
    filled name w b n a (Some c) within base m f e =
        let x = parts_made n b.0 c m.grown.live m.grown.here f in
        let still = x.grown.keeps b.1 (array_of k (replicate n (default_of k))) m.there in
        let u : World = record c.0 { heap = with_object_at c.0.heap b.1 (array_of k c.1) } in
        let g = object_set p d q law c.0 b.1 still.object (array_of k c.1) x.grown.live x.grown.here still.there (sym still.same) (base, x.fit, tt) in
        let last = g.keeps b.1 still.object still.there in
        let is : (u, b.1) ≡ a = cc in
        subst (ArrayMade name w) is (record {
          grown = grown_both w b.0 u m.grown (grown_both b.0 c.0 u x.grown g);
          within = record { object = last.object; there = last.there; within = subst (λ z. kind_within (classes_of p) z name ≡ true) (sym (last.same ∙ still.same)) within };
        })

    outer_made : (name : Name) (n : ℕ) (w : World) (a : World × ℕ) → kind_within (classes_of p) (ArrayOf k) name ≡ true → BaseThere (classes_of p) (kind_base k) → w.over ≡ None → WorldFits p w → fill_array_with make k n (new_array q w k n) ≡ Some a → ArrayMade name w a
    outer_made name n w a within base live here e = by_new (new_array q w k n) refl e
      where
        by_new : (o : Option (World × ℕ)) → new_array q w k n ≡ o → fill_array_with make k n o ≡ Some a → ArrayMade name w a
        by_new None f e = cc
        by_new (Some b) f e =
            let o = array_of k (replicate n (default_of k)) in
            let m = made_object p d q law w o (2 + n) b live here (base, defaults_fit p d q law (w.heap ++ o ∷ []) k n, tt) f in
            filled name w b n a (components make n b.0) within base m refl e

  -- ---- all levels

  arrays_made : (ns : List ℕ) (n : ℕ) (us : Name) (w : World) (a : World × ℕ) → length ns ≤ dimensions us → IsArrayNamed us → BaseThere (classes_of p) (base_stated us) → w.over ≡ None → WorldFits p w → new_arrays q (91 ∷ us) (n ∷ ns) w ≡ Some a → ArrayMade (91 ∷ us) w a
  arrays_made [] n us w a le named base live here e =
      let k = kind_in us in
      let o = array_of k (replicate n (default_of k)) in
      let base' : BaseThere (classes_of p) (kind_base k) = subst (BaseThere (classes_of p)) (sym (level us named).base) base in
      let m = made_object p d q law w o (2 + n) a live here (base', defaults_fit p d q law (w.heap ++ o ∷ []) k n, tt) e in
      record { grown = m.grown; within = record { object = o; there = m.there; within = level_within us named } }
  arrays_made (m ∷ ns) n us w a le named base live here e =
      let b = bracket us (length ns) le in
      let base' : BaseThere (classes_of p) (kind_base (kind_in us)) = subst (BaseThere (classes_of p)) (sym (level us named).base) base in
      inner b.0 b.1 (λ u c live here f. arrays_made ns m b.0 u c b.2 (subst (λ z. IsArrayNamed z) b.1 named) (subst (λ z. BaseThere (classes_of p) (base_stated z)) b.1 base) live here f) base' (level_within us named) e
    where
      inner : (vs : Name) → us ≡ 91 ∷ vs → ((u : World) (c : World × ℕ) → u.over ≡ None → WorldFits p u → new_arrays q (91 ∷ vs) (m ∷ ns) u ≡ Some c → ArrayMade (91 ∷ vs) u c) → BaseThere (classes_of p) (kind_base (kind_in us)) → kind_within (classes_of p) (ArrayOf (kind_in us)) (91 ∷ us) ≡ true → new_arrays q (91 ∷ us) (n ∷ m ∷ ns) w ≡ Some a → ArrayMade (91 ∷ us) w a
      inner vs is go base within e =
          outer_made (kind_in us) (new_arrays q us (m ∷ ns)) (λ u c live here f. (let x = go u c live here (subst (λ z. new_arrays q z (m ∷ ns) u ≡ Some c) is f) in record { grown = x.grown; fits = subst (λ z. OfKind (classes_of p) c.0.heap (kind_in z) (Ref c.1)) (sym is) x.within })) (91 ∷ us) n w a within base live here e

  -- ---- the row

  module _ (w : World) (live : w.over ≡ None) (here : WorldFits p w) (f : Frame) (fs : List Frame) (x : Fits p w.heap f) (low : AllLower p w.heap (method_in (p f.class) f.method) fs) (Q : FrameTypes → Type 0) where
    abbrev calling : Setting
    calling = setting x.stands

    abbrev top : ℕ
    top = x.stands.code.max_stack

    at_counts : (n : ℕ) (zs : List ℤ) (ts : List VType) (vs : List Value) (go : List VType → Checked) (k : List ℤ → List Value → Effect) → Right Q (takes_ints n ts go) → AllItems calling w.heap ts vs → ((ys : List ℤ) (us : List VType) (rest : List Value) → length ys ≡ n + length zs → Right Q (go us) → AllItems calling w.heap us rest → Good p d q law (k ys rest)) → Good p d q law (on_counts n zs vs k)
    at_counts zero zs ts vs go k r a step = step zs ts vs (grind (arith)) r a
    at_counts (suc n) zs ts vs go k r a step =
        at_int p d q law w live here f fs x low Q ts vs (λ rest. takes_ints n rest go) (λ z rest. on_counts n (z ∷ zs) rest k) r a (λ z us rest r a.
        at_counts n (z ∷ zs) us rest go k r a (λ ys us rest e r a. (let e' : length ys ≡ suc n + length zs = grind (arith, e) in step ys us rest e' r a)))

    module _ (lead : (g : FrameTypes) → Q g → Leads (setting x.stands) (suc f.at) g) where
      given : (n : Name) (k : ℕ) (us : List VType) → Right Q (has_room calling (Obj n ∷ us) (allows (nat_lt 0 k && nat_le k (dimensions n)) (falls x.types (Obj n ∷ us)))) → Right Q (gives calling x.types (Obj n ∷ us)) × (nat_lt 0 k ≡ true) × (nat_le k (dimensions n) ≡ true)
      given n k us r =
          let room = right_if Q (nat_le (height (Obj n ∷ us)) top) _ 8 r in
          let ok = right_if Q (nat_lt 0 k && nat_le k (dimensions n)) _ 13 room.1 in
          let g : Right Q (gives calling x.types (Obj n ∷ us)) = subst (λ b. Right Q (if b then Falls (record x.types { stack = Obj n ∷ us }) else Fails 8)) (sym room.0) ok.1 in
          (let b = and_parts (nat_lt 0 k) _ ok.0 in (g, b.0, b.1))

      counted : (n : Name) (ys : List ℕ) (us : List VType) (rest : List Value) → length ys ≤ dimensions n → 0 < length ys → IsArrayNamed n → BaseThere (classes_of p) (base_of n) → Right Q (gives calling x.types (Obj n ∷ us)) → AllItems calling w.heap us rest → Good p d q law (unless_full w (f ∷ fs) (new_arrays q n ys w) (pushes_new f fs top rest))
      counted n [] us rest le lt named base r a = absurd (grind (arith, lt))
      counted n (y ∷ ys) us rest le lt named base r a =
          let b = bracket n (length ys) le in
          let base' : BaseThere (classes_of p) (base_stated b.0) = subst (λ z. BaseThere (classes_of p) (base_of z)) b.1 base in
          good_unless_full p d q law w (f ∷ fs) (new_arrays q n (y ∷ ys) w) (pushes_new f fs top rest) (λ c e.
          let m = arrays_made ys y b.0 w c b.2 (subst (λ z. IsArrayNamed z) b.1 named) base' live here (subst (λ z. new_arrays q z (y ∷ ys) w ≡ Some c) b.1 e) in
          good_new p d q law w live here f fs x low Q lead c (Obj n) us rest m.grown r (subst (λ z. IsWithin (classes_of p) c.0.heap z c.1) (sym b.1) m.within) a)

      made_in : (n : Name) (k : ℕ) → IsArrayNamed n → BaseThere (classes_of p) (base_of n) → Right Q (takes_ints k x.types.stack (λ rest. has_room calling (Obj n ∷ rest) (allows (nat_lt 0 k && nat_le k (dimensions n)) (falls x.types (Obj n ∷ rest))))) → Good p d q law (makes_arrays_in q f fs top n k w)
      made_in n k named base h =
          at_counts k [] x.types.stack f.stack _ (λ zs rest. if list_any is_negative zs then throws q w (f ∷ fs) NegativeArraySizeException else unless_full w (f ∷ fs) (new_arrays q n (map unsigned_abs zs) w) (pushes_new f fs top rest)) h x.fits.1 (λ ys us rest e r a.
          good_if p d q law (list_any is_negative ys) _ _ (throws_here p d q law w live here f fs x low NegativeArraySizeException)
          (let g = given n k us r in
          let le = g.2 in
          let lt = g.1 in
          let long : length (map unsigned_abs ys) ≡ length ys = length-map ys unsigned_abs in
          let le' : length (map unsigned_abs ys) ≤ dimensions n = grind (arith, nat_tests, e, long, le) in
          let lt' : 0 < length (map unsigned_abs ys) = grind (arith, nat_tests, e, long, lt) in
          counted n (map unsigned_abs ys) us rest le' lt' named base g.0 a))

  -- the rule's test, which stands behind the counts
  behind_ints : (Q : FrameTypes → Type 0) (R : Type 0) (n : ℕ) (ts : List VType) (go : List VType → Checked) → Right Q (takes_ints n ts go) → ((us : List VType) → Right Q (go us) → R) → R
  behind_ints Q R zero ts go r k = k ts r
  behind_ints Q R (suc n) [] go r k = absurd r
  behind_ints Q R (suc n) (t ∷ ts) go r k = behind_ints Q R n ts go (right_if Q (same_type t IntType) _ 7 r).1 k

  module _ (w : World) (live : w.over ≡ None) (here : WorldFits p w) (f : Frame) (fs : List Frame) (x : Fits p w.heap f) (low : AllLower p w.heap (method_in (p f.class) f.method) fs) (Q : FrameTypes → Type 0) (lead : (g : FrameTypes) → Q g → Leads (setting x.stands) (suc f.at) g) where
    class_at : (n : Name) (k : ℕ) → 0 < k → k ≤ dimensions n → class_behind n ≡ element_class (element_of n)
    class_at n k lt le = let b = bracket n 0 (grind (arith, lt, le)) in subst (λ z. class_behind z ≡ element_class (element_of z)) (sym b.1) refl

    pub good_makes_arrays : (n : Name) (k : ℕ) → IsArrayNamed n → Right Q (takes_ints k x.types.stack (λ rest. has_room (setting x.stands) (Obj n ∷ rest) (allows (nat_lt 0 k && nat_le k (dimensions n)) (falls x.types (Obj n ∷ rest))))) → Good p d q law (makes_arrays p q w f fs x.stands.code.max_stack n k)
    good_makes_arrays n k named h =
        let held : FramesFit p w.heap (Some 0) (f ∷ fs) = (holds_of p d q law w.heap f x, low) in
        let top = x.stands.code.max_stack in
        behind_ints Q (Good p d q law (makes_arrays p q w f fs top n k)) k x.types.stack _ h (λ us r.
        let g = given w live here f fs x low Q lead n k us r in
        let lt : 0 < k = (let z = g.1 in grind (arith, nat_tests, z)) in
        let le : k ≤ dimensions n = (let z = g.2 in grind (arith, nat_tests, z)) in
        good_resolves p d q law w (f ∷ fs) n (λ u c. if nat_lt 0 k && has_dimensions (class_behind n) n k then makes_arrays_in q f fs top n k u else NoRow) live here held (λ there.
        good_true p d q law _ _ NoRow (and_from _ _ g.1 (all_levels (class_behind n) n k le named (class_at n k lt le)))
        (made_in (consult p (class_behind n) w) live here f fs x low Q lead n k named (base_there p d q law (class_behind n) (base_of n) (name_is p d q law n (is_array_name n) refl) there) h)))
