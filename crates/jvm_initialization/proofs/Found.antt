-- The initializer of a class, found among its methods.
use Rattle.std.proofs.Common.{◌≡◌, ◌∙◌, sym, ap, ℕ, zero, suc, List, [], ◌∷◌, map, drop, Some, slice_get}
use Rattle.std.specs.Prelude.{if◌then◌else◌}
use Rattle.std.specs.Option.{option_map}
use Rattle.std.proofs.lemmas.Option.{slice_get-map}
use Rattle.program_rules.specs.Linked.{code_of}
use Rattle.program_rules.specs.Outlines.{head_of}
use Rattle.machine_rules.specs.Calls.{room_in}
use Rattle.machine_rules.specs.Initialisation as rules
use Rattle.class_link.specs.declared.linked.Entry.{Entry}
use Rattle.class_link.specs.declared.linked.LinkedMethod as linked
use Rattle.class_link.specs.View.{method_of}
use Rattle.jvm_initialization.specs.declared.initializer.Code.{Code}
use Rattle.jvm_initialization.specs.declared.initializer.Initializer.{Initializer}
use Rattle.jvm_initialization.specs.Begins.{initializer_of, IsInitializer, IsFirst}

pub dropped : {A : Type 0} (xs : List A) (k : ℕ) (x : A) → slice_get xs k ≡ Some x → drop k xs ≡ x ∷ drop (suc k) xs
dropped [] zero x e = absurd cc
dropped [] (suc k) x e = absurd cc
dropped (y ∷ ys) zero x e = let s : y ≡ x = cc in ap (λ z. z ∷ ys) s
dropped (y ∷ ys) (suc k) x e = dropped ys k x e

pub found : (es : List Entry) (ms : List linked.LinkedMethod) (k : ℕ) (m : linked.LinkedMethod) (c : Code) (i : Initializer) → rules.initializer_from 0 (map head_of (map (method_of es) ms)) ≡ rules.initializer_from k (map head_of (map (method_of es) (drop k ms))) → slice_get ms k ≡ Some m → IsInitializer (method_of es m) c → i ≡ record { place = k; max_locals = c.max_locals; max_stack = c.max_stack } → IsFirst (map head_of (map (method_of es) ms)) (slice_get (map (method_of es) ms) i.place) i
found es ms k m c i so-far there is same = record {
  first = so-far
      ∙ ap (λ xs. rules.initializer_from k (map head_of (map (method_of es) xs))) (dropped ms k m there)
      ∙ ap (λ b. if b then Some (record { place = k; max_locals = rules.locals_in (head_of (method_of es m)).callable })
      else rules.initializer_from (suc k) (map head_of (map (method_of es) (drop (suc k) ms)))) is.right
      ∙ ap (λ n. Some (record { place = k; max_locals = n })) is.locals
      ∙ ap (λ (j : Initializer). Some (initializer_of j)) (sym same);
  room = ap (λ (j : Initializer). room_in (code_of (slice_get (map (method_of es) ms) j.place))) same
      ∙ ap (λ o. room_in (code_of o)) (slice_get-map (method_of es) ms k ∙ ap (option_map (method_of es)) there)
      ∙ is.room ∙ ap (λ (j : Initializer). Some j.max_stack) (sym same);
}
