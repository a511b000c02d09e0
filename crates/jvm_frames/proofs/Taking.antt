-- Values on the top of a stack, as words and as arguments.
use Rattle.std.proofs.Common.{◌≡◌, ℕ, zero, suc, ◌+◌, ◌-◌, ◌<◌, ◌≤◌, true, false, List, [], ◌∷◌, ◌++◌, map, reverse, length, take, drop, Some, refl, sym, ap, ◌∙◌, arith, append_assoc, take-append-drop, take-add, Bool, get_or}
use Rattle.std.proofs.lemmas.List.{reverse-append, map-append, length-append, length-reverse, length-take-le, length-drop, take_at, drop_at, drop-drop, take-take, take_all, take_more, reverse-reverse, length-map}
use Rattle.std.proofs.lemmas.Option.{slice_get_within, get_or_from_slice_get, slice_get-map, slice_get-get_or}
use Rattle.std.specs.Option.{option_map}
use Rattle.class_model.specs.declared.kind.Kind as plain
use Rattle.class_link.specs.Symbols.{kind_of}
use Rattle.std.specs.Prelude.{slice_get, if◌then◌else◌}
use Rattle.program_rules.specs.declared.value.Value.{Value}
use Rattle.program_rules.specs.declared.value.Value.TheVariants.{Int, Long, Ref, Null}
use Rattle.program_rules.specs.Kinds.{Kind, is_of_kind, width_of, height_of, reversed_onto}
use Rattle.machine_rules.specs.Effects.{Effect, NoRow, on_args, on_reversed, local_of, locals_of}
use Rattle.jvm_state.specs.declared.slot.Slot.{Slot}
use Rattle.jvm_state.specs.declared.slot.Slot.TheVariants as slot
use Rattle.jvm_state.specs.Slots.{local_in, locals_in, values_in, words_in, stack_in, IsStack}
use Rattle.jvm_frames.specs.Frames.{args_on, TakesArgs, AreArgs}

-- ---- heights

pub height_parts : (n : ℕ) (vs : List Value) → height_of (take n vs) + height_of (drop n vs) ≡ height_of vs
height_parts zero vs = omega arith
height_parts (suc n) [] = refl
height_parts (suc n) (v ∷ vs) = omega (arith, height_parts n vs)

pub locals_append : (xs ys : List Value) → locals_of (xs ++ ys) ≡ locals_of xs ++ locals_of ys
locals_append [] ys = refl
locals_append (x ∷ xs) ys = ap (λ t. local_of x ++ t) (locals_append xs ys) ∙ sym (append_assoc (local_of x) (locals_of xs) (locals_of ys))

length_local : (v : Value) → length (local_of v) ≡ width_of v
length_local (Int z) = refl
length_local (Long z) = refl
length_local (Ref x) = refl
length_local Null = refl

length_locals : (vs : List Value) → length (locals_of vs) ≡ height_of vs
length_locals [] = refl
length_locals (v ∷ vs) = length-append (local_of v) (locals_of vs) ∙ omega (arith, length_local v, length_locals vs)

pub height_append : (xs ys : List Value) → height_of (xs ++ ys) ≡ height_of xs + height_of ys
height_append [] ys = omega arith
height_append (x ∷ xs) ys = omega (arith, height_append xs ys)

height_reverse : (vs : List Value) → height_of (reverse vs) ≡ height_of vs
height_reverse [] = refl
height_reverse (v ∷ vs) = ap height_of (reverse-append (v ∷ []) vs) ∙ height_append (reverse vs) (v ∷ []) ∙ omega (arith, height_reverse vs)

-- The words of arguments are those of their values.
pub words_of_args : (n : ℕ) (vs : List Value) → length (locals_of (args_on n vs)) ≡ height_of (take n vs)
words_of_args n vs = length_locals (reverse (take n vs)) ∙ height_reverse (take n vs)

-- ---- words that are taken off

-- One value more, and its words.
more : (xs t : List Slot) (v : Value) (vs : List Value) → locals_in (reverse t) ≡ locals_of (reverse vs) → locals_in (reverse xs) ≡ local_of v ++ [] → locals_in (reverse (xs ++ t)) ≡ locals_of (reverse (v ∷ vs))
more xs t v vs h e =
    ap locals_in (reverse-append xs t) ∙ map-append local_in (reverse t) (reverse xs)
    ∙ (λ i. h i ++ e i)
    ∙ sym (ap locals_of (reverse-append (v ∷ []) vs) ∙ locals_append (reverse vs) (v ∷ []))

one_more : (h : ℕ) → 1 + h ≡ suc h
one_more h = omega arith

pub taken_rest : (ws : List Slot) (n : ℕ) → n ≤ length (values_in ws) → values_in (drop (height_of (take n (values_in ws))) ws) ≡ drop n (values_in ws)
taken_rest ws zero le = refl
taken_rest [] (suc n) le = absurd (omega arith)
taken_rest (slot.Int z ∷ ws) (suc n) le = ap (λ k. values_in (drop k (slot.Int z ∷ ws))) (one_more (height_of (take n (values_in ws)))) ∙ taken_rest ws n (omega arith)
taken_rest (slot.Ref x ∷ ws) (suc n) le = ap (λ k. values_in (drop k (slot.Ref x ∷ ws))) (one_more (height_of (take n (values_in ws)))) ∙ taken_rest ws n (omega arith)
taken_rest (slot.Null ∷ ws) (suc n) le = ap (λ k. values_in (drop k (slot.Null ∷ ws))) (one_more (height_of (take n (values_in ws)))) ∙ taken_rest ws n (omega arith)
taken_rest (slot.Long z ∷ ws) (suc n) le = absurd (omega arith)
taken_rest (slot.Unset ∷ []) (suc n) le = absurd (omega arith)
taken_rest (slot.Unset ∷ slot.Int z ∷ ws) (suc n) le = absurd (omega arith)
taken_rest (slot.Unset ∷ slot.Ref x ∷ ws) (suc n) le = absurd (omega arith)
taken_rest (slot.Unset ∷ slot.Null ∷ ws) (suc n) le = absurd (omega arith)
taken_rest (slot.Unset ∷ slot.Unset ∷ ws) (suc n) le = absurd (omega arith)
taken_rest (slot.Unset ∷ slot.Long z ∷ ws) (suc n) le =
    let h = height_of (take n (values_in ws)) in
    let two : 2 + h ≡ suc (suc h) = omega arith in
    ap (λ k. values_in (drop k (slot.Unset ∷ slot.Long z ∷ ws))) two ∙ taken_rest ws n (omega arith)

pub taken_locals : (ws : List Slot) (n : ℕ) → n ≤ length (values_in ws) → locals_in (reverse (take (height_of (take n (values_in ws))) ws)) ≡ locals_of (args_on n (values_in ws))
taken_locals ws zero le = refl
taken_locals [] (suc n) le = absurd (omega arith)
taken_locals (slot.Int z ∷ ws) (suc n) le = ap (λ k. locals_in (reverse (take k (slot.Int z ∷ ws)))) (one_more (height_of (take n (values_in ws)))) ∙ more (slot.Int z ∷ []) (take (height_of (take n (values_in ws))) ws) (Int z) (take n (values_in ws)) (taken_locals ws n (omega arith)) refl
taken_locals (slot.Ref x ∷ ws) (suc n) le = ap (λ k. locals_in (reverse (take k (slot.Ref x ∷ ws)))) (one_more (height_of (take n (values_in ws)))) ∙ more (slot.Ref x ∷ []) (take (height_of (take n (values_in ws))) ws) (Ref x) (take n (values_in ws)) (taken_locals ws n (omega arith)) refl
taken_locals (slot.Null ∷ ws) (suc n) le = ap (λ k. locals_in (reverse (take k (slot.Null ∷ ws)))) (one_more (height_of (take n (values_in ws)))) ∙ more (slot.Null ∷ []) (take (height_of (take n (values_in ws))) ws) Null (take n (values_in ws)) (taken_locals ws n (omega arith)) refl
taken_locals (slot.Long z ∷ ws) (suc n) le = absurd (omega arith)
taken_locals (slot.Unset ∷ []) (suc n) le = absurd (omega arith)
taken_locals (slot.Unset ∷ slot.Int z ∷ ws) (suc n) le = absurd (omega arith)
taken_locals (slot.Unset ∷ slot.Ref x ∷ ws) (suc n) le = absurd (omega arith)
taken_locals (slot.Unset ∷ slot.Null ∷ ws) (suc n) le = absurd (omega arith)
taken_locals (slot.Unset ∷ slot.Unset ∷ ws) (suc n) le = absurd (omega arith)
taken_locals (slot.Unset ∷ slot.Long z ∷ ws) (suc n) le =
    let h = height_of (take n (values_in ws)) in
    let two : 2 + h ≡ suc (suc h) = omega arith in
    ap (λ k. locals_in (reverse (take k (slot.Unset ∷ slot.Long z ∷ ws)))) two ∙ more (slot.Unset ∷ slot.Long z ∷ []) (take (height_of (take n (values_in ws))) ws) (Long z) (take n (values_in ws)) (taken_locals ws n (omega arith)) refl

-- ---- the words of a stack by their number

-- The words below the uppermost ones, and these.
parted : (xs : List Slot) (sp h : ℕ) → h ≤ sp → words_in xs sp ≡ reverse (drop (sp - h) (take sp xs)) ++ reverse (take (sp - h) (take sp xs))
parted xs sp h le = ap reverse (sym (take-append-drop (sp - h) (take sp xs))) ∙ reverse-append (take (sp - h) (take sp xs)) (drop (sp - h) (take sp xs))

module _ (xs : List Slot) (sp n : ℕ) (is : IsStack xs sp) (le : n ≤ length (stack_in xs sp)) where
  abbrev pub height : ℕ
  height = height_of (take n (stack_in xs sp))

  pub height_within : height ≤ sp
  height_within = omega (arith, is.1, height_parts n (stack_in xs sp))

  abbrev upper : List Slot
  upper = reverse (drop (sp - height) (take sp xs))

  upper_length : length upper ≡ height
  upper_length =
      length-reverse (drop (sp - height) (take sp xs)) ∙ length-drop (sp - height) (take sp xs)
      ∙ omega (arith, height_within, length-take-le sp xs (is.0))

  lower : reverse (take (sp - height) (take sp xs)) ≡ words_in xs (sp - height)
  lower = ap reverse (take-take (sp - height) sp xs (omega arith))

  pub cut_words : stack_in xs (sp - height) ≡ drop n (stack_in xs sp)
  cut_words =
      ap values_in (sym lower ∙ sym (ap (drop height) (parted xs sp height height_within) ∙ drop_at upper (reverse (take (sp - height) (take sp xs))) height upper_length))
      ∙ taken_rest (words_in xs sp) n le

  pub cut_stack : IsStack xs (sp - height)
  cut_stack = (omega (arith, is.0), ap height_of cut_words ∙ omega (arith, is.1, height_parts n (stack_in xs sp)))

  pub cut_locals : locals_in (drop (sp - height) (take sp xs)) ≡ locals_of (args_on n (stack_in xs sp))
  cut_locals =
      ap locals_in (sym (reverse-reverse (drop (sp - height) (take sp xs))) ∙ ap reverse (sym (ap (take height) (parted xs sp height height_within) ∙ take_at upper (reverse (take (sp - height) (take sp xs))) height upper_length)))
      ∙ taken_locals (words_in xs sp) n le

-- ---- arguments by their kinds

reversed_last : (ks above : List Kind) (k : Kind) → reversed_onto (ks ++ k ∷ []) above ≡ k ∷ reversed_onto ks above
reversed_last [] above k = refl
reversed_last (x ∷ ks) above k = reversed_last ks (x ∷ above) k

-- Once the arguments of the last kinds were taken off a stack, so many kinds are left, and this
-- rest of the stack.
pub record IsBelow (kinds : List Kind) (stack : List Value) (left : ℕ) (below : List Value) : Type 0 where
  pub goes : (go : List Value → List Value → Effect) → on_args kinds stack go ≡ on_reversed (reversed_onto (take left kinds) []) (args_on (length kinds - left) stack) below go
  pub count : length kinds - left ≤ length stack
  pub rest : below ≡ drop (length kinds - left) stack

pub below_start : (ks : List Kind) (stack : List Value) (left : ℕ) → left ≡ length ks → IsBelow ks stack left stack
below_start ks stack left e =
    let none : length ks - left ≡ 0 = omega (arith, e) in
    record {
      goes = λ go. ap (λ t. on_reversed (reversed_onto t []) [] stack go) (sym (take_all left ks (omega (arith, e)))) ∙ ap (λ n. on_reversed (reversed_onto (take left ks) []) (args_on n stack) stack go) (sym none);
      count = omega (arith, none);
      rest = ap (λ n. drop n stack) (sym none);
    }

pub take_next : {A : Type 0} (m : ℕ) (xs ys : List A) (x : A) → drop m xs ≡ x ∷ ys → take (m + 1) xs ≡ take m xs ++ x ∷ []
take_next m xs ys x e = take-add m 1 xs ∙ ap (λ t. take m xs ++ take 1 t) e

pub drop_next : {A : Type 0} (m : ℕ) (xs ys : List A) (x : A) → drop m xs ≡ x ∷ ys → drop (m + 1) xs ≡ ys
drop_next m xs ys x e = sym (drop-drop 1 m xs) ∙ ap (drop 1) e

pub args_next : (m : ℕ) (stack rest : List Value) (v : Value) → drop m stack ≡ v ∷ rest → args_on (m + 1) stack ≡ v ∷ args_on m stack
args_next m stack rest v e = ap reverse (take_next m stack rest v e) ∙ reverse-append (take m stack) (v ∷ [])

kinds_next : (ks : List Kind) (l : ℕ) (k : Kind) → slice_get ks l ≡ Some k → reversed_onto (take (l + 1) ks) [] ≡ k ∷ reversed_onto (take l ks) []
kinds_next ks l k e =
    ap (λ t. reversed_onto t []) (take_more ks l k (slice_get_within ks l k e) ∙ ap (λ x. take l ks ++ x ∷ []) (get_or_from_slice_get ks l k k e))
    ∙ reversed_last (take l ks) [] k

at_top : (ks : List Kind) (stack rest : List Value) (l : ℕ) (k : Kind) (go : List Value → List Value → Effect) → slice_get ks l ≡ Some k → IsBelow ks stack (l + 1) rest → on_args ks stack go ≡ on_reversed (k ∷ reversed_onto (take l ks) []) (args_on (length ks - (l + 1)) stack) rest go
at_top ks stack rest l k go e h = h.goes go ∙ ap (λ t. on_reversed t (args_on (length ks - (l + 1)) stack) rest go) (kinds_next ks l k e)

pub below_none : (ks : List Kind) (stack rest : List Value) (l : ℕ) (k : Kind) → slice_get ks l ≡ Some k → IsBelow ks stack (l + 1) rest → rest ≡ [] → (go : List Value → List Value → Effect) → on_args ks stack go ≡ NoRow
below_none ks stack rest l k e h none go = at_top ks stack rest l k go e h ∙ ap (λ t. on_reversed (k ∷ reversed_onto (take l ks) []) (args_on (length ks - (l + 1)) stack) t go) none

by_kind : (b : Bool) (x : Effect) → b ≡ false → (if b then x else NoRow) ≡ NoRow
by_kind true x e = absurd cc
by_kind false x e = refl

by_kind_true : (b : Bool) (x : Effect) → b ≡ true → (if b then x else NoRow) ≡ x
by_kind_true true x e = refl
by_kind_true false x e = absurd cc

pub below_other : (ks : List Kind) (stack rest below : List Value) (l : ℕ) (k : Kind) (v : Value) → slice_get ks l ≡ Some k → IsBelow ks stack (l + 1) rest → rest ≡ v ∷ below → is_of_kind k v ≡ false → (go : List Value → List Value → Effect) → on_args ks stack go ≡ NoRow
below_other ks stack rest below l k v e h top other go =
    at_top ks stack rest l k go e h
    ∙ ap (λ t. on_reversed (k ∷ reversed_onto (take l ks) []) (args_on (length ks - (l + 1)) stack) t go) top
    ∙ by_kind (is_of_kind k v) (on_reversed (reversed_onto (take l ks) []) (v ∷ args_on (length ks - (l + 1)) stack) below go) other

module _ (ks : List Kind) (stack rest below : List Value) (l : ℕ) (k : Kind) (v : Value) (e : slice_get ks l ≡ Some k) (h : IsBelow ks stack (l + 1) rest) (top : rest ≡ v ∷ below) where
  abbrev pub taken : ℕ
  taken = length ks - (l + 1)

  next : taken + 1 ≡ length ks - l
  next = omega (arith, slice_get_within ks l k e)

  at : drop taken stack ≡ v ∷ below
  at = sym h.rest ∙ top

  inside : taken < length stack
  inside = let up : length (drop taken stack) ≡ suc (length below) = ap length at in omega (arith, up, length-drop taken stack)

  pub below_more : is_of_kind k v ≡ true → IsBelow ks stack l below
  below_more is = record {
    goes = λ go.
        at_top ks stack rest l k go e h
        ∙ ap (λ t. on_reversed (k ∷ reversed_onto (take l ks) []) (args_on taken stack) t go) top
        ∙ by_kind_true (is_of_kind k v) (on_reversed (reversed_onto (take l ks) []) (v ∷ args_on taken stack) below go) is
        ∙ ap (λ t. on_reversed (reversed_onto (take l ks) []) t below go) (sym (args_next taken stack below v at) ∙ ap (λ n. args_on n stack) next);
    count = omega (arith, next, inside);
    rest = sym (drop_next taken stack below v at) ∙ ap (λ n. drop n stack) next;
  }

  pub below_height : height_of (take (length ks - l) stack) ≡ height_of (take taken stack) + width_of v
  below_height =
      ap (λ n. height_of (take n stack)) (sym next) ∙ ap height_of (take_next taken stack below v at) ∙ height_append (take taken stack) (v ∷ []) ∙ omega arith

pub kind_at : (kinds : List plain.Kind) (l : ℕ) (d : plain.Kind) → l < length kinds → slice_get (map kind_of kinds) l ≡ Some (kind_of (get_or kinds l d))
kind_at kinds l d lt = slice_get-map kind_of kinds l ∙ ap (option_map kind_of) (slice_get-get_or kinds l d lt)

pub kind_here : (kinds : List plain.Kind) (l : ℕ) (k : plain.Kind) → l < length kinds → k ≡ get_or kinds l k → slice_get (map kind_of kinds) l ≡ Some (kind_of k)
kind_here kinds l k lt e = kind_at kinds l k lt ∙ ap (λ x. Some (kind_of x)) (sym e)

-- The same by the number of kinds that are left.
pub before : (n : ℕ) → 0 < n → n ≡ n - 1 + 1
before n lt = omega arith

pub next_value : (stack rest below : List Value) (n : ℕ) (xs : List Value) (v : Value) → xs ≡ take n stack → rest ≡ drop n stack → rest ≡ v ∷ below → (xs ++ v ∷ [] ≡ take (n + 1) stack) × (below ≡ drop (n + 1) stack)
next_value stack rest below n xs v a b e =
    let top : drop n stack ≡ v ∷ below = sym b ∙ e in
    (ap (λ t. t ++ v ∷ []) a ∙ sym (take_next n stack below v top), sym (drop_next n stack below v top))

pub below_all : (ks : List Kind) (stack rest : List Value) → IsBelow ks stack 0 rest → TakesArgs ks stack
below_all ks stack rest h =
    let all : length ks - 0 ≡ length ks = omega arith in
    record {
      count = omega (arith, h.count);
      takes = λ go. h.goes go ∙ (λ i. go (args_on (all i) stack) (h.rest i)) ∙ ap (λ n. go (args_on (length ks) stack) (drop n stack)) all;
    }

pub args_counted : (kinds : List plain.Kind) (stack : List Value) (below sp : ℕ) → TakesArgs (map kind_of kinds) stack → below + height_of (take (length kinds) stack) ≡ sp → AreArgs (length kinds) (sp - below) stack
args_counted kinds stack below sp h e = record {
  count = omega (arith, h.count, length-map kinds kind_of);
  words = omega (arith, e, words_of_args (length kinds) stack);
}
