-- Two words on the top of a stack.
use Rattle.std.proofs.Common.{◌≡◌, ℕ, ◌+◌, ◌-◌, ◌<◌, true, false, ℤ, List, [], ◌∷◌, ◌++◌, set, length, refl, ap, ◌∙◌, arith}
use Rattle.program_rules.specs.declared.value.Value.{Value}
use Rattle.program_rules.specs.Kinds.{height_of}
use Rattle.jvm_state.specs.declared.slot.Slot.{Slot}
use Rattle.jvm_state.specs.declared.slot.Slot.TheVariants as slot
use Rattle.jvm_state.specs.Slots.{values_in, words_in, stack_in, IsStack, is_pair, pair_in}
use Rattle.jvm_state.specs.Tops.{TakesPair, NoPair}
use Rattle.std.proofs.lemmas.List.{length-set}
use Rattle.jvm_state.proofs.Stacks.{words_set}

pair_values : (lower upper : Slot) (ws : List Slot) → is_pair lower upper ≡ true → values_in (upper ∷ lower ∷ ws) ≡ pair_in lower upper ++ values_in ws
pair_values slot.Unset slot.Unset ws e = absurd cc
pair_values slot.Unset (slot.Int z) ws e = absurd cc
pair_values slot.Unset (slot.Long z) ws e = absurd cc
pair_values slot.Unset (slot.Ref z) ws e = absurd cc
pair_values slot.Unset slot.Null ws e = absurd cc
pair_values (slot.Int y) slot.Unset ws e = absurd cc
pair_values (slot.Int y) (slot.Int z) ws e = refl
pair_values (slot.Int y) (slot.Long z) ws e = absurd cc
pair_values (slot.Int y) (slot.Ref z) ws e = refl
pair_values (slot.Int y) slot.Null ws e = refl
pair_values (slot.Long y) slot.Unset ws e = refl
pair_values (slot.Long y) (slot.Int z) ws e = absurd cc
pair_values (slot.Long y) (slot.Long z) ws e = absurd cc
pair_values (slot.Long y) (slot.Ref z) ws e = absurd cc
pair_values (slot.Long y) slot.Null ws e = absurd cc
pair_values (slot.Ref y) slot.Unset ws e = absurd cc
pair_values (slot.Ref y) (slot.Int z) ws e = refl
pair_values (slot.Ref y) (slot.Long z) ws e = absurd cc
pair_values (slot.Ref y) (slot.Ref z) ws e = refl
pair_values (slot.Ref y) slot.Null ws e = refl
pair_values slot.Null slot.Unset ws e = absurd cc
pair_values slot.Null (slot.Int z) ws e = refl
pair_values slot.Null (slot.Long z) ws e = absurd cc
pair_values slot.Null (slot.Ref z) ws e = refl
pair_values slot.Null slot.Null ws e = refl

pub takes_pair : (lower upper : Slot) (rest : List Value) → is_pair lower upper ≡ true → TakesPair (pair_in lower upper ++ rest) lower upper rest
takes_pair slot.Unset slot.Unset rest e = absurd cc
takes_pair slot.Unset (slot.Int z) rest e = absurd cc
takes_pair slot.Unset (slot.Long z) rest e = absurd cc
takes_pair slot.Unset (slot.Ref z) rest e = absurd cc
takes_pair slot.Unset slot.Null rest e = absurd cc
takes_pair (slot.Int y) slot.Unset rest e = absurd cc
takes_pair (slot.Int y) (slot.Int z) rest e = λ go. refl
takes_pair (slot.Int y) (slot.Long z) rest e = absurd cc
takes_pair (slot.Int y) (slot.Ref z) rest e = λ go. refl
takes_pair (slot.Int y) slot.Null rest e = λ go. refl
takes_pair (slot.Long y) slot.Unset rest e = λ go. refl
takes_pair (slot.Long y) (slot.Int z) rest e = absurd cc
takes_pair (slot.Long y) (slot.Long z) rest e = absurd cc
takes_pair (slot.Long y) (slot.Ref z) rest e = absurd cc
takes_pair (slot.Long y) slot.Null rest e = absurd cc
takes_pair (slot.Ref y) slot.Unset rest e = absurd cc
takes_pair (slot.Ref y) (slot.Int z) rest e = λ go. refl
takes_pair (slot.Ref y) (slot.Long z) rest e = absurd cc
takes_pair (slot.Ref y) (slot.Ref z) rest e = λ go. refl
takes_pair (slot.Ref y) slot.Null rest e = λ go. refl
takes_pair slot.Null slot.Unset rest e = absurd cc
takes_pair slot.Null (slot.Int z) rest e = λ go. refl
takes_pair slot.Null (slot.Long z) rest e = absurd cc
takes_pair slot.Null (slot.Ref z) rest e = λ go. refl
takes_pair slot.Null slot.Null rest e = λ go. refl

pub pair_height : (lower upper : Slot) (rest : List Value) → is_pair lower upper ≡ true → height_of (pair_in lower upper ++ rest) ≡ 2 + height_of rest
pair_height slot.Unset slot.Unset rest e = absurd cc
pair_height slot.Unset (slot.Int z) rest e = absurd cc
pair_height slot.Unset (slot.Long z) rest e = absurd cc
pair_height slot.Unset (slot.Ref z) rest e = absurd cc
pair_height slot.Unset slot.Null rest e = absurd cc
pair_height (slot.Int y) slot.Unset rest e = absurd cc
pair_height (slot.Int y) (slot.Int z) rest e = omega arith
pair_height (slot.Int y) (slot.Long z) rest e = absurd cc
pair_height (slot.Int y) (slot.Ref z) rest e = omega arith
pair_height (slot.Int y) slot.Null rest e = omega arith
pair_height (slot.Long y) slot.Unset rest e = refl
pair_height (slot.Long y) (slot.Int z) rest e = absurd cc
pair_height (slot.Long y) (slot.Long z) rest e = absurd cc
pair_height (slot.Long y) (slot.Ref z) rest e = absurd cc
pair_height (slot.Long y) slot.Null rest e = absurd cc
pair_height (slot.Ref y) slot.Unset rest e = absurd cc
pair_height (slot.Ref y) (slot.Int z) rest e = omega arith
pair_height (slot.Ref y) (slot.Long z) rest e = absurd cc
pair_height (slot.Ref y) (slot.Ref z) rest e = omega arith
pair_height (slot.Ref y) slot.Null rest e = omega arith
pair_height slot.Null slot.Unset rest e = absurd cc
pair_height slot.Null (slot.Int z) rest e = omega arith
pair_height slot.Null (slot.Long z) rest e = absurd cc
pair_height slot.Null (slot.Ref z) rest e = omega arith
pair_height slot.Null slot.Null rest e = omega arith

-- A value of one word above what is half of one.
int_on_half : (z : ℤ) (ws : List Slot) → NoPair (values_in ((slot.Int z) ∷ slot.Unset ∷ ws))
int_on_half z [] = λ go. refl
int_on_half z (slot.Unset ∷ ws) = λ go. refl
int_on_half z ((slot.Int y) ∷ ws) = λ go. refl
int_on_half z ((slot.Long y) ∷ ws) = λ go. refl
int_on_half z ((slot.Ref y) ∷ ws) = λ go. refl
int_on_half z (slot.Null ∷ ws) = λ go. refl

ref_on_half : (z : ℕ) (ws : List Slot) → NoPair (values_in ((slot.Ref z) ∷ slot.Unset ∷ ws))
ref_on_half z [] = λ go. refl
ref_on_half z (slot.Unset ∷ ws) = λ go. refl
ref_on_half z ((slot.Int y) ∷ ws) = λ go. refl
ref_on_half z ((slot.Long y) ∷ ws) = λ go. refl
ref_on_half z ((slot.Ref y) ∷ ws) = λ go. refl
ref_on_half z (slot.Null ∷ ws) = λ go. refl

null_on_half : (ws : List Slot) → NoPair (values_in ((slot.Null) ∷ slot.Unset ∷ ws))
null_on_half [] = λ go. refl
null_on_half (slot.Unset ∷ ws) = λ go. refl
null_on_half ((slot.Int y) ∷ ws) = λ go. refl
null_on_half ((slot.Long y) ∷ ws) = λ go. refl
null_on_half ((slot.Ref y) ∷ ws) = λ go. refl
null_on_half (slot.Null ∷ ws) = λ go. refl

pub no_pair : (lower upper : Slot) (ws : List Slot) → is_pair lower upper ≡ false → NoPair (values_in (upper ∷ lower ∷ ws))
no_pair slot.Unset slot.Unset ws e = λ go. refl
no_pair slot.Unset (slot.Int z) ws e = int_on_half z ws
no_pair slot.Unset (slot.Long z) ws e = λ go. refl
no_pair slot.Unset (slot.Ref z) ws e = ref_on_half z ws
no_pair slot.Unset slot.Null ws e = null_on_half ws
no_pair (slot.Int y) slot.Unset ws e = λ go. refl
no_pair (slot.Int y) (slot.Int z) ws e = absurd cc
no_pair (slot.Int y) (slot.Long z) ws e = λ go. refl
no_pair (slot.Int y) (slot.Ref z) ws e = absurd cc
no_pair (slot.Int y) slot.Null ws e = absurd cc
no_pair (slot.Long y) slot.Unset ws e = absurd cc
no_pair (slot.Long y) (slot.Int z) ws e = λ go. refl
no_pair (slot.Long y) (slot.Long z) ws e = λ go. refl
no_pair (slot.Long y) (slot.Ref z) ws e = λ go. refl
no_pair (slot.Long y) slot.Null ws e = λ go. refl
no_pair (slot.Ref y) slot.Unset ws e = λ go. refl
no_pair (slot.Ref y) (slot.Int z) ws e = absurd cc
no_pair (slot.Ref y) (slot.Long z) ws e = λ go. refl
no_pair (slot.Ref y) (slot.Ref z) ws e = absurd cc
no_pair (slot.Ref y) slot.Null ws e = absurd cc
no_pair slot.Null slot.Unset ws e = λ go. refl
no_pair slot.Null (slot.Int z) ws e = absurd cc
no_pair slot.Null (slot.Long z) ws e = λ go. refl
no_pair slot.Null (slot.Ref z) ws e = absurd cc
no_pair slot.Null slot.Null ws e = absurd cc

pub no_pair_of_one : (s : Slot) → NoPair (values_in (s ∷ []))
no_pair_of_one slot.Unset = λ go. refl
no_pair_of_one (slot.Int z) = λ go. refl
no_pair_of_one (slot.Long z) = λ go. refl
no_pair_of_one (slot.Ref z) = λ go. refl
no_pair_of_one slot.Null = λ go. refl

pub no_pair_of_none : NoPair (values_in [])
no_pair_of_none = λ go. refl

pub pair_stack : (xs : List Slot) (sp : ℕ) (lower upper : Slot) → words_in xs sp ≡ upper ∷ words_in xs (sp - 1) → words_in xs (sp - 1) ≡ lower ∷ words_in xs (sp - 1 - 1) → is_pair lower upper ≡ true → stack_in xs sp ≡ pair_in lower upper ++ stack_in xs (sp - 2)
pair_stack xs sp lower upper a b e =
    let same : sp - 1 - 1 ≡ sp - 2 = omega arith in
    ap values_in (a ∙ ap (λ ws. upper ∷ ws) (b ∙ ap (λ k. lower ∷ words_in xs k) same)) ∙ pair_values lower upper (words_in xs (sp - 2)) e

pub pair_below : (xs : List Slot) (sp : ℕ) (lower upper : Slot) → IsStack xs sp → stack_in xs sp ≡ pair_in lower upper ++ stack_in xs (sp - 2) → is_pair lower upper ≡ true → IsStack xs (sp - 2)
pair_below xs sp lower upper h e p =
    let up : height_of (stack_in xs sp) ≡ 2 + height_of (stack_in xs (sp - 2)) = ap height_of e ∙ pair_height lower upper (stack_in xs (sp - 2)) p in
    (omega (arith, h.0), omega (arith, h.1, up))

pub pair_put : (xs : List Slot) (k : ℕ) (lower upper : Slot) → k + 1 < length xs → is_pair lower upper ≡ true → stack_in (set (set xs k lower) (k + 1) upper) (k + 2) ≡ pair_in lower upper ++ stack_in xs k
pair_put xs k lower upper lt e =
    let first : k < length xs = omega arith in
    let second : k + 1 < length (set xs k lower) = rw (length-set xs k lower) lt in
    let same : k + 2 ≡ k + 1 + 1 = omega arith in
    ap (λ n. stack_in (set (set xs k lower) (k + 1) upper) n) same
    ∙ ap values_in (words_set (set xs k lower) (k + 1) upper second ∙ ap (λ ws. upper ∷ ws) (words_set xs k lower first))
    ∙ pair_values lower upper (words_in xs k) e

pub takes_pair_at : (xs : List Slot) (sp : ℕ) (lower upper : Slot) → words_in xs sp ≡ upper ∷ words_in xs (sp - 1) → words_in xs (sp - 1) ≡ lower ∷ words_in xs (sp - 1 - 1) → is_pair lower upper ≡ true → TakesPair (stack_in xs sp) lower upper (stack_in xs (sp - 2))
takes_pair_at xs sp lower upper a b e = rw (pair_stack xs sp lower upper a b e) (takes_pair lower upper (stack_in xs (sp - 2)) e)
