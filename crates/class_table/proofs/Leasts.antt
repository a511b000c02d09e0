-- The least name of the classes that are marked.
use Rattle.std.proofs.Common.{◌≡◌, ◌⊎◌, inl, inr, ◌∙◌, sym, refl, ap, subst, ℕ, ◌+◌, ◌<◌, Bool, true, false, List, map, Option, None, Some, slice_get, arith}
use Rattle.std.specs.Prelude.{nat_lt, if◌then◌else◌}
use Rattle.std.specs.Ordering.{nat_cmp, is_lt}
use Rattle.std.specs.Cmp.Lexicographic.{slice_cmp}
use Rattle.std.proofs.lemmas.Option.{slice_get-map}
use Rattle.std.specs.Option.{option_map}
use Rattle.class_model.specs.Text.{text}
use Rattle.program_rules.specs.Names.{Name}
use Rattle.class_link.specs.Info.{Info}
use Rattle.class_table.specs.declared.least.Least.{Least}
use Rattle.class_table.specs.Table.{names, name_or_none}
use Rattle.class_table.specs.Numbers.{name_of}
use Rattle.class_table.specs.Least.{IsMarked, IsBelow, IsLeastOf, IsLeastSoFar, lesser_at, considered}
use Rattle.class_table.proofs.Duplicates.{le_self, not_before, before_all}

last_or_before : (k i : ℕ) → k < i + 1 → (k < i) ⊎ (k ≡ i)
last_or_before k i lt = by_test (nat_lt k i) refl
  where
    by_test : (b : Bool) → nat_lt k i ≡ b → (k < i) ⊎ (k ≡ i)
    by_test true e = inl (let less : k < i = grind arith in less)
    by_test false e = inr (let same : k ≡ i = grind (arith, lt) in same)

module _ (ns : List Name) (marks : List Bool) (i : ℕ) (n : Name) (there : slice_get ns i ≡ Some n) where
  named : name_of ns i ≡ n
  named = ap name_or_none there

  bytes_named : text n ≡ text (name_of ns i)
  bytes_named = ap text (sym named)

  below_here : (bytes : List ℕ) (k : ℕ) → k ≡ i → IsBelow bytes n → IsBelow bytes (name_of ns k)
  below_here bytes k e h = subst (λ j. IsBelow bytes (name_of ns j)) (sym e) (subst (IsBelow bytes) (sym named) h)

  not_marked : (least : Option Least) → (IsMarked marks i → ⊥) → IsLeastSoFar ns marks i least → IsLeastSoFar ns marks (i + 1) least
  not_marked None no_mark h = λ k lt m. elim (last_or_before k i lt) [ inl w ↦ h k w m | inr e ↦ no_mark (subst (IsMarked marks) e m) ]
  not_marked (Some l) no_mark h = record {
    marked = h.marked;
    within = let w = h.within in omega (arith, w);
    bytes = h.bytes;
    least = λ k lt m. elim (last_or_before k i lt) [ inl w ↦ h.least k w m | inr e ↦ absurd (no_mark (subst (IsMarked marks) e m)) ];
  }

  marked_lesser : (l : Least) (b : Bool) → is_lt (slice_cmp nat_cmp (text n) l.bytes) ≡ b → IsMarked marks i → IsLeastOf ns marks i l → IsLeastOf ns marks (i + 1) (let new : Least = record { at = i; bytes = text n } in if b then new else l)
  marked_lesser l true lt mark h = record {
    marked = mark;
    within = omega arith;
    bytes = bytes_named;
    least = λ k less m. elim (last_or_before k i less) [ inl w ↦ before_all (text n) l.bytes (text (name_of ns k)) lt (h.least k w m) | inr e ↦ below_here (text n) k e (le_self (text n)) ];
  }
  marked_lesser l false lt mark h = record {
    marked = h.marked;
    within = let w = h.within in omega (arith, w);
    bytes = h.bytes;
    least = λ k less m. elim (last_or_before k i less) [ inl w ↦ h.least k w m | inr e ↦ below_here l.bytes k e (not_before l.bytes (text n) lt) ];
  }

  marked_next : (least : Option Least) → IsMarked marks i → IsLeastSoFar ns marks i least → IsLeastSoFar ns marks (i + 1) (Some (lesser_at least i n))
  marked_next None mark h = record {
    marked = mark;
    within = omega arith;
    bytes = bytes_named;
    least = λ k less m. elim (last_or_before k i less) [ inl w ↦ absurd (h k w m) | inr e ↦ below_here (text n) k e (le_self (text n)) ];
  }
  marked_next (Some l) mark h = marked_lesser l (is_lt (slice_cmp nat_cmp (text n) l.bytes)) refl mark h

  pub least_next : (least : Option Least) (b : Bool) → slice_get marks i ≡ Some b → IsLeastSoFar ns marks i least → IsLeastSoFar ns marks (i + 1) (considered b least i n)
  least_next least false e h = not_marked least (λ m. let q : Some false ≡ Some true = sym e ∙ m in absurd cc) h
  least_next least true e h = marked_next least e h

module _ {A : Type 0} (f : A → Info) where
  pub name_here : (xs : List A) (i : ℕ) (x : A) → slice_get xs i ≡ Some x → slice_get (names (map f xs)) i ≡ Some (f x).name
  name_here xs i x h = slice_get-map (λ j. j.name) (map f xs) i ∙ ap (option_map (λ j. j.name)) (slice_get-map f xs i ∙ ap (option_map f) h)
