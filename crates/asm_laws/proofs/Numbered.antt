-- What numbering gives, one value after the other.
use Rattle.std.proofs.Common.{◌∷◌, List, []}
use Rattle.std.specs.Prelude.{All}
use Rattle.std.specs.List.{AllByRecursion}
use Rattle.std.proofs.lemmas.List.Elements.{All-head, All-tail}
use Rattle.class_asm.specs.File.{each}

-- Where numbering leads to the end, it came from what leads there, and there its value is a P.
pub record IsNumbered {S A : Type 0} (Leads Forms : S → Type 0) (P : A → Type 0) (state : S) (x : A × S) : Type 0 where
  pub back : Leads x.1 → Leads state
  pub right : Leads x.1 → Forms state → P x.0 × Forms x.1

module _ {S : Type 0} (Leads Forms : S → Type 0) where
  -- a value that needs no number
  pub stays : {A : Type 0} → (P : A → Type 0) (state : S) (a : A) → P a → IsNumbered Leads Forms P state (a, state)
  stays P state a p = record { back = λ e. e; right = λ e f. (p, f) }

  -- what is made of a value
  pub made : {A B : Type 0} → (P : A → Type 0) (Q : B → Type 0) (state : S) (x : A × S) (b : B) → IsNumbered Leads Forms P state x → (P x.0 → Q b) → IsNumbered Leads Forms Q state (b, x.1)
  made P Q state x b n f = record { back = n.back; right = λ e g. let r = n.right e g in (f r.0, r.1) }

  -- what is made of two values
  pub joined : {A B C : Type 0} → (P : A → Type 0) (Q : B → Type 0) (R : C → Type 0) (state : S) (x : A × S) (y : B × S) (c : C)
      → IsNumbered Leads Forms P state x → IsNumbered Leads Forms Q x.1 y → (P x.0 → Q y.0 → R c) → IsNumbered Leads Forms R state (c, y.1)
  joined P Q R state x y c n m f = record {
    back = λ e. n.back (m.back e);
    right = λ e g. let first = n.right (m.back e) g in let second = m.right e first.1 in (f first.0 second.0, second.1);
  }

  pub each_numbered : {A B : Type 0} → (number : A → S → B × S) (P : A → Type 0) (Q : B → Type 0) → ((a : A) (s : S) → P a → IsNumbered Leads Forms Q s (number a s)) → (xs : List A) (s : S) → All P xs
      → IsNumbered Leads Forms (AllByRecursion Q) s (each number xs s)
  each_numbered number P Q step [] s all = stays (AllByRecursion Q) s [] tt
  each_numbered number P Q step (x ∷ xs) s all =
      let first = number x s in
      let others = each number xs first.1 in
      joined Q (AllByRecursion Q) (AllByRecursion Q) s first others (first.0 ∷ others.0) (step x s (All-head P x xs all)) (each_numbered number P Q step xs first.1 (All-tail P x xs all)) (λ p q. (p, q))
