-- What holds of the value of an option that was put together.
use Rattle.std.proofs.Common.{◌≡◌, ℕ, Bool, true, false, cond, List, [], ◌∷◌, Option, Some, None, refl, subst}
use Rattle.std.specs.Prelude.{IfSome, option_and_then}
use Rattle.std.specs.Option.{option_map}
use Rattle.asm_words.specs.Operands.{only, both}

pub of_map : {A B : Type 0} → (f : A → B) (o : Option A) (P : B → Type 0) → IfSome o (λ x. P (f x)) → IfSome (option_map f o) P
of_map f None P h = h
of_map f (Some x) P h = h

pub of_then : {A B : Type 0} → (f : A → Option B) (o : Option A) (P : B → Type 0) → IfSome o (λ x. IfSome (f x) P) → IfSome (option_and_then f o) P
of_then f None P h = h
of_then f (Some x) P h = h

pub of_if : {A : Type 0} → (b : Bool) (o : Option A) (P : A → Type 0) → (b ≡ true → IfSome o P) → IfSome (cond b o None) P
of_if true o P h = h refl
of_if false o P h = tt

pub of_unless : {A : Type 0} → (b : Bool) (o : Option A) (P : A → Type 0) → (b ≡ false → IfSome o P) → IfSome (cond b None o) P
of_unless true o P h = tt
of_unless false o P h = h refl

pub of_else : {A : Type 0} → (b : Bool) (o p : Option A) (P : A → Type 0) → IfSome o P → IfSome p P → IfSome (cond b o p) P
of_else true o p P h k = h
of_else false o p P h k = k

pub of_only : {A : Type 0} → (read : List ℕ → Option A) (words : List (List ℕ)) (P : A → Type 0) → ((word : List ℕ) → IfSome (read word) P) → IfSome (only read words) P
of_only read [] P h = tt
of_only read (word ∷ []) P h = h word
of_only read (word ∷ other ∷ words) P h = tt

pub of_both : {A : Type 0} → (read : List ℕ → List ℕ → Option A) (words : List (List ℕ)) (P : A → Type 0) → ((word other : List ℕ) → IfSome (read word other) P) → IfSome (both read words) P
of_both read [] P h = tt
of_both read (word ∷ []) P h = tt
of_both read (word ∷ other ∷ []) P h = h word other
of_both read (word ∷ other ∷ another ∷ words) P h = tt

-- a weaker fact
pub weaker : {A : Type 0} → (o : Option A) (P Q : A → Type 0) → ((x : A) → P x → Q x) → IfSome o P → IfSome o Q
weaker None P Q f h = tt
weaker (Some x) P Q f h = f x h

-- a fact of all values
pub always : {A : Type 0} → (o : Option A) (P : A → Type 0) → ((x : A) → P x) → IfSome o P
always None P f = tt
always (Some x) P f = f x

none_is : {A : Type 0} → (x : A) → None ≡ Some x → ⊥
none_is x e = cc

some_is : {A : Type 0} → (y x : A) → Some y ≡ Some x → y ≡ x
some_is y x e = cc

-- the fact at a value
pub at_value : {A : Type 0} → (o : Option A) (P : A → Type 0) (x : A) → o ≡ Some x → IfSome o P → P x
at_value None P x e h = absurd (none_is x e)
at_value (Some y) P x e h = subst P (some_is y x e) h
