-- What stands at a place of a stack, for the rows that take it off.
use Rattle.std.proofs.Common.{◌≡◌, ◌∙◌, sym, ap, refl, subst, ℕ, ℤ, zero, suc, ◌+◌, ◌<◌, List, [], ◌∷◌, length, drop, None, Some, arith}
use Rattle.std.specs.Prelude.{slice_get, true, false, if◌then◌else◌}
use Rattle.std.proofs.lemmas.Option.{slice_get_within}
use Rattle.program_rules.specs.declared.value.Value.{Value}
use Rattle.program_rules.specs.declared.value.Value.TheVariants.{Int, Long, Ref, Null}
use Rattle.program_rules.specs.Kinds.{Kind, is_of_kind}
use Rattle.machine_rules.specs.Effects.{NoRow, on_kind}
use Rattle.jvm_state.specs.Tops.{TakesInt, NoInt, TakesReference, NoReference}
use Rattle.jvm_rows.specs.Rows.{TakesKind, NoKind}

drop_next : (stack : List Value) (n : ℕ) (v : Value) → Some v ≡ slice_get stack n → drop n stack ≡ v ∷ drop (suc n) stack
drop_next [] zero v e = absurd cc
drop_next (x ∷ stack) zero v e = let same : v ≡ x = cc in ap (λ y. y ∷ stack) (sym same)
drop_next [] (suc n) v e = absurd cc
drop_next (x ∷ stack) (suc n) v e = drop_next stack n v e

one_more : (n : ℕ) → suc n ≡ n + 1
one_more n = omega arith

pub drop_at : (stack : List Value) (n : ℕ) (v : Value) → Some v ≡ slice_get stack n → drop n stack ≡ v ∷ drop (n + 1) stack
drop_at stack n v e = drop_next stack n v e ∙ ap (λ k. v ∷ drop k stack) (one_more n)

pub drop_past : (stack : List Value) (n : ℕ) → None ≡ slice_get stack n → drop n stack ≡ []
drop_past [] zero e = refl
drop_past (x ∷ stack) zero e = absurd cc
drop_past [] (suc n) e = refl
drop_past (x ∷ stack) (suc n) e = drop_past stack n e

pub there_at : (stack : List Value) (n : ℕ) (v : Value) → Some v ≡ slice_get stack n → n < length stack
there_at stack n v e = slice_get_within stack n v (sym e)

pub takes_int : (stack : List Value) (n : ℕ) (z : ℤ) → Some (Int z) ≡ slice_get stack n → TakesInt (drop n stack) z (drop (n + 1) stack)
takes_int stack n z e = let P : List Value → Type 0 = λ t. TakesInt t z (drop (n + 1) stack) in subst P (sym (drop_at stack n (Int z) e)) (λ go. refl)

int_nowhere : (t rest : List Value) (v : Value) → t ≡ v ∷ rest → NoInt (v ∷ rest) → NoInt t
int_nowhere t rest v e h = subst NoInt (sym e) h

pub no_int_long : (stack : List Value) (n : ℕ) (z : ℤ) → Some (Long z) ≡ slice_get stack n → NoInt (drop n stack)
no_int_long stack n z e = int_nowhere (drop n stack) (drop (n + 1) stack) (Long z) (drop_at stack n (Long z) e) (λ go. refl)

pub no_int_ref : (stack : List Value) (n x : ℕ) → Some (Ref x) ≡ slice_get stack n → NoInt (drop n stack)
no_int_ref stack n x e = int_nowhere (drop n stack) (drop (n + 1) stack) (Ref x) (drop_at stack n (Ref x) e) (λ go. refl)

pub no_int_null : (stack : List Value) (n : ℕ) → Some Null ≡ slice_get stack n → NoInt (drop n stack)
no_int_null stack n e = int_nowhere (drop n stack) (drop (n + 1) stack) Null (drop_at stack n Null e) (λ go. refl)

pub no_int_none : (stack : List Value) (n : ℕ) → None ≡ slice_get stack n → NoInt (drop n stack)
no_int_none stack n e = subst NoInt (sym (drop_past stack n e)) (λ go. refl)

pub takes_ref : (stack : List Value) (n x : ℕ) → Some (Ref x) ≡ slice_get stack n → TakesReference (drop n stack) (Some x) (drop (n + 1) stack)
takes_ref stack n x e = let P : List Value → Type 0 = λ t. TakesReference t (Some x) (drop (n + 1) stack) in subst P (sym (drop_at stack n (Ref x) e)) (λ go. refl)

pub takes_null : (stack : List Value) (n : ℕ) → Some Null ≡ slice_get stack n → TakesReference (drop n stack) None (drop (n + 1) stack)
takes_null stack n e = let P : List Value → Type 0 = λ t. TakesReference t None (drop (n + 1) stack) in subst P (sym (drop_at stack n Null e)) (λ go. refl)

reference_nowhere : (t rest : List Value) (v : Value) → t ≡ v ∷ rest → NoReference (v ∷ rest) → NoReference t
reference_nowhere t rest v e h = subst NoReference (sym e) h

pub no_ref_int : (stack : List Value) (n : ℕ) (z : ℤ) → Some (Int z) ≡ slice_get stack n → NoReference (drop n stack)
no_ref_int stack n z e = reference_nowhere (drop n stack) (drop (n + 1) stack) (Int z) (drop_at stack n (Int z) e) (λ go. refl)

pub no_ref_long : (stack : List Value) (n : ℕ) (z : ℤ) → Some (Long z) ≡ slice_get stack n → NoReference (drop n stack)
no_ref_long stack n z e = reference_nowhere (drop n stack) (drop (n + 1) stack) (Long z) (drop_at stack n (Long z) e) (λ go. refl)

pub no_ref_none : (stack : List Value) (n : ℕ) → None ≡ slice_get stack n → NoReference (drop n stack)
no_ref_none stack n e = subst NoReference (sym (drop_past stack n e)) (λ go. refl)

-- ---- a value of a kind

pub takes_kind : (k : Kind) (stack : List Value) (n : ℕ) (v : Value) → Some v ≡ slice_get stack n → true ≡ is_of_kind k v → TakesKind k (drop n stack) v (drop (n + 1) stack)
takes_kind k stack n v e is = λ go.
    ap (λ t. on_kind k t go) (drop_at stack n v e)
    ∙ ap (λ b. if b then go v (drop (n + 1) stack) else NoRow) (sym is)

pub no_kind : (k : Kind) (stack : List Value) (n : ℕ) (v : Value) → Some v ≡ slice_get stack n → false ≡ is_of_kind k v → NoKind k (drop n stack)
no_kind k stack n v e is = λ go.
    ap (λ t. on_kind k t go) (drop_at stack n v e)
    ∙ ap (λ b. if b then go v (drop (n + 1) stack) else NoRow) (sym is)

pub no_kind_none : (k : Kind) (stack : List Value) (n : ℕ) → None ≡ slice_get stack n → NoKind k (drop n stack)
no_kind_none k stack n e = λ go. ap (λ t. on_kind k t go) (drop_past stack n e)
