-- A difference, by the names of a class, makes the frame that the rules make of it.
use Rattle.std.proofs.Common.{◌≡◌, ◌≤◌, ◌-◌, ◌&&◌, ℕ, zero, suc, Bool, true, false, List, [], ◌∷◌, ◌++◌, length, map, reverse, take, drop, Option, Some, None, Result, Err, refl, sym, ap, ◌∙◌, arith}
use Rattle.std.specs.Prelude.{if◌then◌else◌, nat_le, nat_lt}
use Rattle.std.specs.List.{list_all}
use Rattle.std.specs.Option.{option_map}
use Rattle.std.proofs.lemmas.Bool.{and_from}
use Rattle.std.proofs.lemmas.Grind.{reverse_onto}
use Rattle.std.proofs.lemmas.List.{length-map, length-reverse, map-append, reverse-append, reverse-reverse, take_all}
use Rattle.program_rules.specs.Linked.{LinkedMethod, LinkedCode}
use Rattle.program_rules.specs.Types.{VType}
use Rattle.type_rules.specs.Assignability.{height}
use Rattle.type_rules.specs.Frames.{FullFrame, stated_items, is_expandable, may_stand, expands_to, put_before, full_frame}
use Rattle.class_link.specs.View.{instruction_of}
use Rattle.vframes.specs.declared.named.Named.{Named}
use Rattle.vframes.specs.declared.slot_type.SlotType.{SlotType}
use Rattle.vframes.specs.declared.stated.Local.{Local}
use Rattle.vframes.specs.declared.stated.StatedFrame.{StatedFrame}
use Rattle.vframes.specs.View.{type_of, types_in, words_of}
use Rattle.vframes.specs.StatedFrames.{types_down}
use Rattle.vframes.proofs.Words.{words_are, words_turned}
use Rattle.vframes.proofs.FreshLaws.{map_turned}
use Rattle.type_verifier.specs.declared.shapes.Shape.{Shape}
use Rattle.type_verifier.specs.declared.shapes.Shape.TheVariants as shape
use Rattle.type_verifier.specs.declared.shapes.Difference.{Difference}
use Rattle.type_verifier.specs.Shapes.{shape_in}
use Rattle.type_verifier.specs.declared.method.MethodCode.{MethodCode}
use Rattle.type_verifier.specs.Standing.{IsOf, code_in, stands, fits}
use Rattle.type_verifier.specs.Steps.{IsFrameBy, locals_by, stack_by, fit_any, is_framed}
use Rattle.type_verifier.proofs.Stands.{all_stand, all_turned}

-- ---- locals and stack

front_of : {A : Type 0} (k : ℕ) (xs : List A) (x : A) → k ≤ length xs → take k (xs ++ x ∷ []) ≡ take k xs
front_of zero xs x l = refl
front_of (suc k) [] x l = absurd (omega (arith, l))
front_of (suc k) (y ∷ xs) x l = ap (λ r. y ∷ r) (front_of k xs x (omega (arith, l)))

mapped_front : {A B : Type 0} (f : A → B) (k : ℕ) (xs : List A) → take k (map f xs) ≡ map f (take k xs)
mapped_front f zero xs = refl
mapped_front f (suc k) [] = refl
mapped_front f (suc k) (x ∷ xs) = ap (λ r. f x ∷ r) (mapped_front f k xs)

take_turned : {A : Type 0} (n : ℕ) (ts : List A) → take (length ts - n) (reverse ts) ≡ reverse (drop n ts)
take_turned zero ts =
    let long : length ts - 0 ≡ length (reverse ts) = (let r = length-reverse ts in omega (arith, r)) in
    ap (λ k. take k (reverse ts)) long ∙ take_all (length (reverse ts)) (reverse ts) (omega arith)
take_turned (suc n) [] = let none : 0 - suc n ≡ 0 = omega arith in ap (λ k. take k (reverse [])) none
take_turned (suc n) (t ∷ ts) =
    let less : length (t ∷ ts) - suc n ≡ length ts - n = omega arith in
    let within : length ts - n ≤ length (reverse ts) = (let r = length-reverse ts in omega (arith, r)) in
    ap (λ k. take k (reverse (t ∷ ts))) less ∙ ap (take (length ts - n)) (reverse_onto ts t [])
    ∙ front_of (length ts - n) (reverse ts) t within ∙ take_turned n ts

abbrev pub both : List Named → List SlotType → List SlotType → List VType × List VType
both ns st us = (types_in ns (reverse us), types_in ns st)

module _ (ns : List Named) (ts : List SlotType) where
  items_long : length (types_in ns (reverse ts)) ≡ length ts
  items_long = length-map (reverse ts) (type_of ns) ∙ length-reverse ts

  chopped_case : (n : ℕ) (b : Bool) → (if b then Some (take (length ts - n) (types_in ns (reverse ts)), []) else None) ≡ option_map (both ns []) (if b then Some (drop n ts) else None)
  chopped_case n true = ap (λ (l : List VType). Some (l, [])) (mapped_front (type_of ns) (length ts - n) (reverse ts) ∙ ap (types_in ns) (take_turned n ts))
  chopped_case n false = refl

  pub shape_is : (s : Shape) → stated_items (types_in ns (reverse ts)) (shape_in ns s) ≡ option_map (both ns (stack_by s)) (locals_by ts s)
  shape_is shape.SameLocals = refl
  shape_is (shape.OneItem t) = refl
  shape_is (shape.Chopped n) =
      ap (λ k. if nat_le n k then Some (take (k - n) (types_in ns (reverse ts)), []) else None) items_long
      ∙ chopped_case n (nat_le n (length ts))
  shape_is (shape.Appended more) =
      let turned : reverse (reverse more.items ++ ts) ≡ reverse ts ++ more.items = reverse-append (reverse more.items) ts ∙ ap (λ l. reverse ts ++ l) (reverse-reverse more.items) in
      ap (λ (l : List VType). Some (l, [])) (sym (ap (types_in ns) turned ∙ map-append (type_of ns) (reverse ts) more.items))
  shape_is (shape.Whole locals stack) =
      ap (λ (l : List VType). Some (l, reverse (types_in ns stack.items))) (ap (types_in ns) (sym (reverse-reverse locals.items)))
      ∙ ap (λ (l : List VType). Some (types_in ns (reverse (reverse locals.items)), l)) (sym (map_turned (type_of ns) stack.items))

-- ---- whether a frame can be expanded

regroup : (a b c d e : Bool) → (a && b && c && d && e) ≡ (a && (b && d) && (c && e))
regroup false b c d e = refl
regroup true false c d e = refl
regroup true true false false e = refl
regroup true true false true e = refl
regroup true true true d e = refl

module _ (x : MethodCode) (m : LinkedMethod) (code : LinkedCode) (h : IsOf x m code) (ns : List Named) where
  here : IsOf x m (code_in x)
  here = record { initializer = h.initializer; code = refl }

  abbrev fits_at : ℕ → List SlotType → List SlotType → Bool
  fits_at at us st =
      nat_lt at (length x.code.now.instructions) && fits x x.code.now.max_locals us && fits x x.code.now.max_stack st

  pub expandable : (at : ℕ) (us st : List SlotType) → is_expandable m code at (types_in ns (reverse us)) (types_in ns st) ≡ fits_at at us st
  expandable at us st =
      ap (λ c. is_expandable m c at (types_in ns (reverse us)) (types_in ns st)) h.code
      ∙ ap (λ n. nat_lt at n && nat_le (height (types_in ns (reverse us))) x.code.now.max_locals && nat_le (height (types_in ns st)) x.code.now.max_stack && list_all (may_stand m (code_in x)) (types_in ns (reverse us)) && list_all (may_stand m (code_in x)) (types_in ns st)) (length-map x.code.now.instructions (instruction_of x.linked.now.entries x.code.now.switches))
      ∙ ap (λ n. nat_lt at (length x.code.now.instructions) && nat_le n x.code.now.max_locals && nat_le (height (types_in ns st)) x.code.now.max_stack && list_all (may_stand m (code_in x)) (types_in ns (reverse us)) && list_all (may_stand m (code_in x)) (types_in ns st)) (words_are ns (reverse us) ∙ words_turned us)
      ∙ ap (λ n. nat_lt at (length x.code.now.instructions) && nat_le (words_of us) x.code.now.max_locals && nat_le n x.code.now.max_stack && list_all (may_stand m (code_in x)) (types_in ns (reverse us)) && list_all (may_stand m (code_in x)) (types_in ns st)) (words_are ns st)
      ∙ ap (λ b. nat_lt at (length x.code.now.instructions) && nat_le (words_of us) x.code.now.max_locals && nat_le (words_of st) x.code.now.max_stack && b && list_all (may_stand m (code_in x)) (types_in ns st)) (all_stand x m (code_in x) here ns (reverse us) ∙ all_turned (stands x) us)
      ∙ ap (λ b. nat_lt at (length x.code.now.instructions) && nat_le (words_of us) x.code.now.max_locals && nat_le (words_of st) x.code.now.max_stack && list_all (stands x) us && b) (all_stand x m (code_in x) here ns st)
      ∙ regroup (nat_lt at (length x.code.now.instructions)) (nat_le (words_of us) x.code.now.max_locals) (nat_le (words_of st) x.code.now.max_stack) (list_all (stands x) us) (list_all (stands x) st)

  abbrev Expanded : Type 0
  Expanded = Result (List FullFrame) ℕ

  -- a frame by number, in full
  abbrev pub full_of : ℕ → List SlotType → List SlotType → FullFrame
  full_of at us st = record { at = at; types = full_frame code.max_locals (types_in ns (reverse us)) (types_in ns st) }

  -- it can be
  yes_case : (at : ℕ) (us st : List SlotType) (go : List VType → Expanded) (b : Bool) → b ≡ true → (if b then put_before (full_of at us st) (go (types_in ns (reverse us))) else Err at) ≡ put_before (full_of at us st) (go (types_in ns (reverse us)))
  yes_case at us st go true e = refl
  yes_case at us st go false e = absurd cc

  pub steps : (ts : List SlotType) (d : Difference) (store : List Local) (f : StatedFrame) → IsFrameBy x ts d store f → (go : List VType → Expanded) → expands_to m code d.at (stated_items (types_in ns (reverse ts)) (shape_in ns d.shape)) go ≡ put_before (full_of d.at (types_down store f.locals) f.stack) (go (types_in ns (reverse (types_down store f.locals))))
  steps ts d store f y go =
      let us = types_down store f.locals in
      let st = stack_by d.shape in
      let fit : fits_at d.at us st ≡ true =
      and_from (nat_lt d.at (length x.code.now.instructions) && fits x x.code.now.max_locals us) (fits x x.code.now.max_stack st)
      (and_from (nat_lt d.at (length x.code.now.instructions)) (fits x x.code.now.max_locals us) y.there y.locals.right.fit) y.stack.fit in
      ap (λ o. expands_to m code d.at o go) (shape_is ns ts d.shape ∙ ap (option_map (both ns st)) y.locals.is)
      ∙ yes_case d.at us st go (is_expandable m code d.at (types_in ns (reverse us)) (types_in ns st)) (expandable d.at us st ∙ fit)
      ∙ ap (λ s. put_before (full_of d.at us s) (go (types_in ns (reverse us)))) (sym y.stack.is)

  -- it can't be
  no_case : (at : ℕ) (us st : List SlotType) (go : List VType → Expanded) (b : Bool) → b ≡ false → (if b then put_before (full_of at us st) (go (types_in ns (reverse us))) else Err at) ≡ Err at
  no_case at us st go true e = absurd cc
  no_case at us st go false e = refl

  fails_case : (at : ℕ) (st : List SlotType) (go : List VType → Expanded) (o : Option (List SlotType)) → (nat_lt at (length x.code.now.instructions) && fit_any x o && fits x x.code.now.max_stack st) ≡ false → expands_to m code at (option_map (both ns st) o) go ≡ Err at
  fails_case at st go None e = refl
  fails_case at st go (Some us) e = no_case at us st go (is_expandable m code at (types_in ns (reverse us)) (types_in ns st)) (expandable at us st ∙ e)

  pub fails : (ts : List SlotType) (d : Difference) → is_framed x ts d ≡ false → (go : List VType → Expanded) → expands_to m code d.at (stated_items (types_in ns (reverse ts)) (shape_in ns d.shape)) go ≡ Err d.at
  fails ts d e go =
      ap (λ o. expands_to m code d.at o go) (shape_is ns ts d.shape)
      ∙ fails_case d.at (stack_by d.shape) go (locals_by ts d.shape) e
