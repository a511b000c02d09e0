-- Assignability by dimensions and bases.
use Rattle.std.proofs.Common.{◌≡◌, ◌<◌, ℕ, zero, suc, ◌||◌, Bool, true, false, List, [], ◌∷◌, refl, sym, ap, ◌∙◌, subst, arith, is_none}
use Rattle.std.specs.Prelude.{nat_eq}
use Rattle.std.specs.List.{list_any}
use Rattle.std.proofs.lemmas.Bool.{and_parts, or_left, eqb-true}
use Rattle.std.proofs.lemmas.Cmp.{nat_list_eq_equiv}
use Rattle.program_rules.specs.Names.{Name, same, object_name}
use Rattle.program_rules.specs.Programs.{Look, supers_within, supers}
use Rattle.type_rules.specs.References.{Base, ClassBase, LetterBase, Classes, classes_of, is_subtype, dimensions, base_of}
use Rattle.type_rules.specs.Assignability.{takes_arrays, class_assignable, base_assignable, name_assignable}
use Rattle.vframes.specs.Named.{is_absent_base, is_array_base}

-- fewer dimensions
pub fewer : (p : Classes) (m n : ℕ) (s t : Base) → m < n → base_assignable p m n s t ≡ is_absent_base p s
fewer p m zero s t l = absurd (omega (arith, l))
fewer p zero (suc n) (ClassBase c) t l = refl
fewer p zero (suc n) (LetterBase u) t l = refl
fewer p (suc m) (suc n) s t l = fewer p m n s t (omega (arith, l))

-- more dimensions
pub more : (p : Classes) (m n : ℕ) (s t : Base) → n < m → base_assignable p m n s t ≡ is_array_base t
more p zero n s t l = absurd (omega (arith, l))
more p (suc m) zero s (ClassBase c) l = refl
more p (suc m) zero s (LetterBase u) l = refl
more p (suc m) (suc n) s t l = more p m n s t (omega (arith, l))

-- as many
pub as_many : (p : Classes) (m n : ℕ) (s t : Base) → m ≡ n → base_assignable p m n s t ≡ base_assignable p 0 0 s t
as_many p zero zero s t e = refl
as_many p zero (suc n) s t e = absurd (omega (arith, e))
as_many p (suc m) zero s t e = absurd (omega (arith, e))
as_many p (suc m) (suc n) s t e = as_many p m n s t (omega (arith, e))

-- ---- each name is assignable to itself

same_is : (a b : Name) → same a b ≡ true → a ≡ b
same_is [] [] e = refl
same_is [] (y ∷ b) e = cc
same_is (x ∷ a) [] e = cc
same_is (x ∷ a) (y ∷ b) e =
    let h = and_parts (nat_eq x y) (same a b) e in
    ap (λ u. u ∷ a) (eqb-true x y h.0) ∙ ap (λ l. y ∷ l) (same_is a b h.1)

walk_itself : (k : ℕ) (p : Look) (a : Name) → list_any (λ n. same n a) (supers_within k p a) ≡ true
walk_itself zero p a = or_left (same a a) false (nat_list_eq_equiv.refl a)
walk_itself (suc k) p a = or_left (same a a) _ (nat_list_eq_equiv.refl a)

pub itself : (p : Look) (a : Name) → is_subtype p a a ≡ true
unfolding supers
itself p a = walk_itself 4294967296 p a

or_last : (a b c d : Bool) → d ≡ true → (a || b || c || d) ≡ true
or_last true b c d e = refl
or_last false true c d e = refl
or_last false false true d e = refl
or_last false false false d e = e

base_itself : (p : Look) (b : Base) → base_assignable (classes_of p) 0 0 b b ≡ true
base_itself p (ClassBase c) = or_last (same c object_name) (is_none (p c)) ((classes_of p).interface c) (is_subtype p c c) (itself p c)
base_itself p (LetterBase u) = grind arith

or_when : (a b : Bool) → (a ≡ true → b ≡ true) → (a || b) ≡ b
or_when true b h = sym (h refl)
or_when false b h = refl

pub by_bases : (p : Look) (s t : Name) → name_assignable (classes_of p) s t ≡ base_assignable (classes_of p) (dimensions s) (dimensions t) (base_of s) (base_of t)
by_bases p s t =
    or_when (same s t) (base_assignable (classes_of p) (dimensions s) (dimensions t) (base_of s) (base_of t))
    (λ e. subst (λ n. base_assignable (classes_of p) (dimensions s) (dimensions n) (base_of s) (base_of n) ≡ true) (same_is s t e)
    (as_many (classes_of p) (dimensions s) (dimensions s) (base_of s) (base_of s) refl ∙ base_itself p (base_of s)))
