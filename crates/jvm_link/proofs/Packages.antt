-- The package of a class ends at the last `/` of its name.
use Rattle.std.proofs.Common.{◌≡◌, ◌∙◌, sym, refl, ap, subst, ℕ, zero, suc, ◌+◌, ◌-◌, ◌<◌, ◌≤◌, nat_eq, Bool, true, false, List, [], ◌∷◌, length, take, drop, Option, None, Some, slice_get, get_or, arith}
use Rattle.std.specs.Prelude.{◌||◌, if◌then◌else◌}
use Rattle.std.proofs.lemmas.Option.{slice_get-get_or}
use Rattle.program_rules.specs.Names.{Name, has_slash, package_of}

slash_at : (ns : Name) (k : ℕ) → slice_get ns k ≡ Some 47 → has_slash ns ≡ true
slash_at [] k e = absurd cc
slash_at (n ∷ ns) zero e = let s : n ≡ 47 = cc in ap (λ x. nat_eq 47 x || has_slash ns) s
slash_at (n ∷ ns) (suc k) e = by_test (nat_eq 47 n) (slash_at ns k e)
  where
    by_test : (b : Bool) → has_slash ns ≡ true → (b || has_slash ns) ≡ true
    by_test true h = refl
    by_test false h = h

pub package_at : (ns : Name) (k : ℕ) → slice_get ns k ≡ Some 47 → has_slash (drop (suc k) ns) ≡ false → take k ns ≡ package_of ns
package_at [] k e h = absurd cc
package_at (n ∷ ns) zero e h = sym (ap (λ b. if b then n ∷ package_of ns else []) h)
package_at (n ∷ ns) (suc k) e h = ap (λ l. n ∷ l) (package_at ns k e h) ∙ sym (ap (λ b. if b then n ∷ package_of ns else []) (slash_at ns k e))

rest_plain : (b : Bool) (ns : Name) → (b || has_slash ns) ≡ false → has_slash ns ≡ false
rest_plain true ns e = absurd cc
rest_plain false ns e = e

pub package_none : (ns : Name) → has_slash (drop 0 ns) ≡ false → [] ≡ package_of ns
package_none [] e = refl
package_none (n ∷ ns) e = sym (ap (λ b. if b then n ∷ package_of ns else []) (rest_plain (nat_eq 47 n) ns e))

pub none_behind : (ns : Name) → has_slash (drop (length ns) ns) ≡ false
none_behind [] = refl
none_behind (n ∷ ns) = none_behind ns

pub one_passed : (ns : Name) (k x : ℕ) → slice_get ns k ≡ Some x → nat_eq 47 x ≡ false → has_slash (drop (suc k) ns) ≡ false → has_slash (drop k ns) ≡ false
one_passed [] k x e f h = absurd cc
one_passed (n ∷ ns) zero x e f h = let s : n ≡ x = cc in ap (λ b. b || has_slash ns) (ap (nat_eq 47) s ∙ f) ∙ h
one_passed (n ∷ ns) (suc k) x e f h = one_passed ns k x e f h

pub ends_here : (ns : Name) (e : ℕ) → 0 < e → e ≤ length ns → has_slash (drop e ns) ≡ false → get_or ns (e - 1) 0 ≡ 47 → take (e - 1) ns ≡ package_of ns
ends_here ns zero lt le plain is = absurd (omega (arith, lt))
ends_here ns (suc k) lt le plain is =
    let q : suc k - 1 ≡ k = omega arith in
    subst (λ j. take j ns ≡ package_of ns) (sym q)
    (package_at ns k (slice_get-get_or ns k 0 (omega (arith, le)) ∙ ap Some (subst (λ j. get_or ns j 0 ≡ 47) q is)) plain)

pub none_left : (ns : Name) (e : ℕ) → e ≡ 0 → has_slash (drop e ns) ≡ false → [] ≡ package_of ns
none_left ns e z h = package_none ns (subst (λ k. has_slash (drop k ns) ≡ false) z h)
