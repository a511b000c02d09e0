-- Names above a class, where some name has no class.
use Rattle.std.proofs.Common.{◌≡◌, ◌∙◌, inl, inr, sym, refl, ap, subst, ℕ, zero, suc, ◌≤◌, Bool, true, false, List, [], ◌∷◌, length, Some, None, arith}
use Rattle.std.specs.Prelude.{◌||◌, is_none}
use Rattle.std.specs.List.{list_any}
use Rattle.std.specs.Cmp.Lexicographic.{same_text}
use Rattle.std.proofs.lemmas.List.{length-map}
use Rattle.std.proofs.lemmas.Option.{slice_get_past}
use Rattle.program_rules.specs.Names.{Name, same, is_listed}
use Rattle.program_rules.specs.Linked.{Linked, parents_of}
use Rattle.program_rules.specs.Outlines.{outline_of, is_present}
use Rattle.program_rules.specs.Programs.{Look, concat_over, supers_within, supers}
use Rattle.class_link.specs.Info.{Info}
use Rattle.class_order.specs.Supers.{IsBelow, next, further, is_super_missing, lacks_superclass}
use Rattle.class_order.proofs.Within.{or_either, or_first, or_second, walked_within}
use Rattle.class_table.specs.Table.{IsProgram, look, name_at, name_or_none, names}
use Rattle.jvm_unwind.specs.Searches.{AreAbove}

not_true : (b : Bool) → (b ≡ true → ⊥) → b ≡ false
not_true true h = absurd (h refl)
not_true false h = refl

or_nothing : (b : Bool) → (b || false) ≡ b
or_nothing true = refl
or_nothing false = refl

-- ---- a name without a class

walk_alone : (k : ℕ) (p : Look) (n : Name) → p n ≡ None → supers_within k p n ≡ n ∷ []
walk_alone zero p n e = refl
walk_alone (suc k) p n e = ap (λ c. n ∷ concat_over (supers_within k p) (parents_of c)) e

alone : (p : Look) (n : Name) → p n ≡ None → supers p n ≡ n ∷ []
unfolding supers
alone p n e = walk_alone 4294967296 p n e

pub alone_listed : (p : Look) (n m : Name) → p n ≡ None → same n m ≡ is_listed m (supers p n)
alone_listed p n m e = sym (ap (is_listed m) (alone p n e) ∙ or_nothing (same n m))

-- No class that is there is above it.
pub alone_above : (p : List Info) (n : Name) → look p n ≡ None → AreAbove p None (supers (look p) n)
alone_above p n e m there =
    sym (alone_listed (look p) n m e)
    ∙ not_true (same n m) (λ h.
    let gone : look p m ≡ None = subst (λ x. look p x ≡ None) (same_text n m (sym h)) e in
    let bad : true ≡ false = sym there ∙ ap (λ c. is_present (outline_of c)) gone in cc)

-- ---- above a class

or_none : (a b : Bool) → (a || b) ≡ false → b ≡ false
or_none true b e = absurd cc
or_none false b e = e

any_absent : (p : Look) (m : Name) (ns : List Name) → is_listed m ns ≡ true → p m ≡ None → list_any (λ k. is_none (p k)) ns ≡ true
any_absent p m [] h e = absurd cc
any_absent p m (n ∷ ns) h e = elim (or_either (same n m) (is_listed m ns) h) [
  | inl s ↦ or_first (is_none (p n)) (list_any (λ k. is_none (p k)) ns) (ap is_none (subst (λ x. p x ≡ None) (sym (same_text n m (sym s))) e))
  | inr k ↦ or_second (is_none (p n)) (list_any (λ k. is_none (p k)) ns) (any_absent p m ns k e)
]

-- A super is a class of the program.
super_there : (p : Look) (n m : Name) → is_super_missing p n ≡ false → is_listed m (parents_of (p n)) ≡ true → p m ≡ None → ⊥
super_there p n m h listed e =
    let some : list_any (λ k. is_none (p k)) (parents_of (p n)) ≡ false = or_none (lacks_superclass n (p n)) (list_any (λ k. is_none (p k)) (parents_of (p n))) h in
    let bad : true ≡ false = sym (any_absent p m (parents_of (p n)) listed e) ∙ some in cc

below_there : (p : Look) (n m : Name) → ((k : Name) → is_super_missing p k ≡ false) → IsBelow p n m → p m ≡ None → ⊥
below_there p n m h (next x y listed) e = super_there p n m (h n) listed e
below_there p n m h (further x k z listed below) e = below_there p k m h below e

-- So a name without a class isn't among those above a class.
pub absent_listed : (p : List Info) (a n : Name) (c : Linked) → IsProgram p → look p a ≡ Some c → look p n ≡ None → false ≡ is_listed n (supers (look p) a)
absent_listed p a n c is there gone =
    sym (not_true (is_listed n (supers (look p) a)) (λ h. elim (walked_within (look p) a n h) [
      | inl s ↦ (let bad : Some c ≡ None = sym there ∙ subst (λ x. look p x ≡ None) (sym s) gone in cc)
      | inr below ↦ below_there (look p) a n is.present below gone
    ]))

-- ---- numbers past the last class

pub past_name : (p : List Info) (id : ℕ) → length p ≤ id → [] ≡ name_at p id
past_name p id le = sym (ap name_or_none (slice_get_past (names p) id (omega (arith, le, length-map p (λ (i : Info). i.name)))))
