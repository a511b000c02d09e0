-- What the words of a stack mean.
use Rattle.std.proofs.Common.{◌≡◌, ℕ, ◌+◌, ◌-◌, ◌<◌, ◌≤◌, ℤ, true, List, [], ◌∷◌, ◌++◌, reverse, take, set, length, Some, refl, ap, ◌∙◌, arith}
use Rattle.std.specs.Prelude.{slice_get}
use Rattle.std.proofs.lemmas.List.{reverse-append, take_more, take_more_set}
use Rattle.std.proofs.lemmas.Option.{get_or_from_slice_get}
use Rattle.program_rules.specs.declared.value.Value.{Value}
use Rattle.program_rules.specs.declared.value.Value.TheVariants.{Int, Long, Ref, Null}
use Rattle.program_rules.specs.Kinds.{width_of, height_of}
use Rattle.jvm_state.specs.declared.slot.Slot.{Slot}
use Rattle.jvm_state.specs.declared.slot.Slot.TheVariants as slot
use Rattle.jvm_state.specs.Slots.{values_in, words_in, stack_in, IsStack, is_word, value_in}
use Rattle.jvm_state.specs.Tops.{NoInt, NoReference, NoWord}

-- One word more.
words_suc : (xs : List Slot) (k : ℕ) (s : Slot) → k < length xs → slice_get xs k ≡ Some s → words_in xs (k + 1) ≡ s ∷ words_in xs k
words_suc xs k s lt e =
    ap reverse (take_more xs k s lt ∙ ap (λ t. take k xs ++ t ∷ []) (get_or_from_slice_get xs k s s e)) ∙ reverse-append (take k xs) (s ∷ [])

pub top_word : (xs : List Slot) (sp : ℕ) (s : Slot) → 0 < sp → sp ≤ length xs → slice_get xs (sp - 1) ≡ Some s → words_in xs sp ≡ s ∷ words_in xs (sp - 1)
top_word xs sp s a b e =
    let same : sp ≡ (sp - 1) + 1 = omega arith in
    let lt : sp - 1 < length xs = omega arith in
    ap (words_in xs) same ∙ words_suc xs (sp - 1) s lt e

-- The words below a value are a stack.
below : (xs : List Slot) (sp : ℕ) (v : Value) (k : ℕ) → IsStack xs sp → stack_in xs sp ≡ v ∷ stack_in xs (sp - k) → width_of v ≡ k → IsStack xs (sp - k)
below xs sp v k h e w =
    let up : height_of (stack_in xs sp) ≡ width_of v + height_of (stack_in xs (sp - k)) = ap height_of e in
    (omega (arith, h.0), omega (arith, h.1, up, w))

pub below_int : (xs : List Slot) (sp : ℕ) (z : ℤ) → IsStack xs sp → words_in xs sp ≡ slot.Int z ∷ words_in xs (sp - 1) → IsStack xs (sp - 1)
below_int xs sp z h e = below xs sp (Int z) 1 h (ap values_in e) refl

pub below_reference : (xs : List Slot) (sp : ℕ) (x : ℕ) → IsStack xs sp → words_in xs sp ≡ slot.Ref x ∷ words_in xs (sp - 1) → IsStack xs (sp - 1)
below_reference xs sp x h e = below xs sp (Ref x) 1 h (ap values_in e) refl

pub below_null : (xs : List Slot) (sp : ℕ) → IsStack xs sp → words_in xs sp ≡ slot.Null ∷ words_in xs (sp - 1) → IsStack xs (sp - 1)
below_null xs sp h e = below xs sp Null 1 h (ap values_in e) refl

-- The two words of a long.
pub long_words : (xs : List Slot) (sp : ℕ) (z : ℤ) → words_in xs sp ≡ slot.Unset ∷ words_in xs (sp - 1) → words_in xs (sp - 1) ≡ slot.Long z ∷ words_in xs (sp - 1 - 1) → 0 < sp - 1 → words_in xs sp ≡ slot.Unset ∷ slot.Long z ∷ words_in xs (sp - 2)
long_words xs sp z a b lt =
    let same : sp - 1 - 1 ≡ sp - 2 = omega arith in
    a ∙ ap (λ ws. slot.Unset ∷ ws) (b ∙ ap (λ k. slot.Long z ∷ words_in xs k) same)

pub below_long : (xs : List Slot) (sp : ℕ) (z : ℤ) → IsStack xs sp → words_in xs sp ≡ slot.Unset ∷ slot.Long z ∷ words_in xs (sp - 2) → IsStack xs (sp - 2)
below_long xs sp z h e = below xs sp (Long z) 2 h (ap values_in e) refl

pub no_int_unset : (ws : List Slot) → NoInt (values_in (slot.Unset ∷ ws))
no_int_unset [] = λ go. refl
no_int_unset (slot.Unset ∷ ws) = λ go. refl
no_int_unset (slot.Int z ∷ ws) = λ go. refl
no_int_unset (slot.Long z ∷ ws) = λ go. refl
no_int_unset (slot.Ref x ∷ ws) = λ go. refl
no_int_unset (slot.Null ∷ ws) = λ go. refl

pub no_reference_unset : (ws : List Slot) → NoReference (values_in (slot.Unset ∷ ws))
no_reference_unset [] = λ go. refl
no_reference_unset (slot.Unset ∷ ws) = λ go. refl
no_reference_unset (slot.Int z ∷ ws) = λ go. refl
no_reference_unset (slot.Long z ∷ ws) = λ go. refl
no_reference_unset (slot.Ref x ∷ ws) = λ go. refl
no_reference_unset (slot.Null ∷ ws) = λ go. refl

pub no_word_unset : (ws : List Slot) → NoWord (values_in (slot.Unset ∷ ws))
no_word_unset [] = λ go. refl
no_word_unset (slot.Unset ∷ ws) = λ go. refl
no_word_unset (slot.Int z ∷ ws) = λ go. refl
no_word_unset (slot.Long z ∷ ws) = λ go. refl
no_word_unset (slot.Ref x ∷ ws) = λ go. refl
no_word_unset (slot.Null ∷ ws) = λ go. refl

pub words_set : (xs : List Slot) (k : ℕ) (s : Slot) → k < length xs → words_in (set xs k s) (k + 1) ≡ s ∷ words_in xs k
words_set xs k s lt = ap reverse (take_more_set xs k s lt) ∙ reverse-append (take k xs) (s ∷ [])

word_stack : (s : Slot) (ws : List Slot) → is_word s ≡ true → values_in (s ∷ ws) ≡ value_in s ∷ values_in ws
word_stack (slot.Int z) ws e = refl
word_stack (slot.Ref x) ws e = refl
word_stack slot.Null ws e = refl
word_stack slot.Unset ws e = absurd cc
word_stack (slot.Long z) ws e = absurd cc

pub word_put : (xs : List Slot) (k : ℕ) (s : Slot) → k < length xs → is_word s ≡ true → stack_in (set xs k s) (k + 1) ≡ value_in s ∷ stack_in xs k
word_put xs k s lt e = ap values_in (words_set xs k s lt) ∙ word_stack s (words_in xs k) e
