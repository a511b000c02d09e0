-- One instruction more is decoded.
use Rattle.std.proofs.Common.{◌≡◌, ℕ, zero, suc, ◌+◌, ◌<◌, ℤ, get_or, subst, List, [], ◌∷◌, ◌++◌, map, take, drop, length, Some, refl, sym, ap, ◌∙◌, append_assoc, take-append-drop}
use Rattle.std.specs.Prelude.{slice_get}
use Rattle.std.proofs.lemmas.List.{map-append, take_more}
use Rattle.class_link.specs.declared.instruction.Instruction.{Instruction}
use Rattle.class_link.specs.declared.instruction.Instruction.TheVariants.{LongConstant, Nop}
use Rattle.class_link.specs.View as view
use Rattle.jvm_state.specs.declared.op.Op.{Op}
use Rattle.jvm_state.specs.Ops.{instruction_of}
use Rattle.jvm_code.specs.Decoded.{named_by, IsListed, IsDecoded, AreDecoded}

still_at : (xs ys : List ℤ) (n : ℕ) (z : ℤ) → slice_get xs n ≡ Some z → slice_get (xs ++ ys) n ≡ Some z
still_at [] ys n z e = absurd cc
still_at (x ∷ xs) ys zero z e = e
still_at (x ∷ xs) ys (suc n) z e = still_at xs ys n z e

still_listed : (xs ys : List ℤ) (n : ℕ) (i : Instruction) → IsListed xs n i → IsListed (xs ++ ys) n i
still_listed xs ys n (LongConstant z) h = still_at xs ys n z h
still_listed xs ys n other h = tt

pub listed_last : (xs : List ℤ) (z : ℤ) → slice_get (xs ++ z ∷ []) (length xs) ≡ Some z
listed_last [] z = refl
listed_last (x ∷ xs) z = listed_last xs z

pub decoded_more : (is : List Instruction) (i : Instruction) (ops : List Op) (op : Op) (longs new : List ℤ) → AreDecoded is ops longs → take (length longs) new ≡ longs → IsListed new (length longs) i → IsDecoded (length longs) i op → AreDecoded (is ++ i ∷ []) (ops ++ op ∷ []) new
decoded_more is i ops op longs new before kept listed one = λ es ss more.
    let f = instruction_of (new ++ more) (named_by es ss) in
    let g = view.instruction_of es ss in
    let rest = drop (length longs) new in
    let whole : new ++ more ≡ longs ++ (rest ++ more) = ap (λ t. t ++ more) (sym (take-append-drop (length longs) new)) ∙ ap (λ t. (t ++ rest) ++ more) kept ∙ append_assoc longs rest more in
    let a : map f ops ≡ map g is = ap (λ t. map (instruction_of t (named_by es ss)) ops) whole ∙ before es ss (rest ++ more) in
    let b : f op ≡ g i = one es ss (new ++ more) (still_listed new more (length longs) i listed) in
    map-append f ops (op ∷ []) ∙ (λ k. a k ++ b k ∷ []) ∙ sym (map-append g is (i ∷ []))

pub decoded_next : (xs : List Instruction) (k : ℕ) (ops : List Op) (op : Op) (longs new : List ℤ) (n : ℕ) → k < length xs → n ≡ length longs → AreDecoded (take k xs) ops longs → take (length longs) new ≡ longs → IsListed new (length longs) (get_or xs k Nop) → IsDecoded n (get_or xs k Nop) op → AreDecoded (take (k + 1) xs) (ops ++ op ∷ []) new
decoded_next xs k ops op longs new n lt e before kept listed one =
    subst (λ t. AreDecoded t (ops ++ op ∷ []) new) (sym (take_more xs k Nop lt))
    (decoded_more (take k xs) (get_or xs k Nop) ops op longs new before kept listed (subst (λ m. IsDecoded m (get_or xs k Nop) op) e one))
