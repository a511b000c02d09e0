-- A class file and those of its superclasses stand above the first, and what they declare is
-- listed.
use Rattle.std.proofs.Common.{◌≡◌, ◌∙◌, inl, inr, refl, sym, ap, subst, ℕ, zero, suc, Bool, true, false, List, [], ◌∷◌, ◌++◌, Option, Some, None}
use Rattle.std.specs.Prelude.{◌-◌, ◌==◌, if◌then◌else◌, option_and_then, slice_get}
use Rattle.std.specs.List.{AllByRecursion}
use Rattle.std.proofs.lemmas.Bool.{or_left}
use Rattle.std.proofs.lemmas.Cmp.{nat_list_eq_equiv}
use Rattle.class_model.specs.Pool.{text_of, class_in}
use Rattle.class_model.specs.declared.class.Class.{Class}
use Rattle.class_model.specs.declared.constant.Const.{Const}
use Rattle.program_rules.specs.Names.{Name, same, is_listed}
use Rattle.program_rules.specs.Linked.{parents_with, parents_of}
use Rattle.program_rules.specs.Programs.{Look}
use Rattle.class_link.specs.Info.{own_name}
use Rattle.class_link.specs.Linking.{link}
use Rattle.class_link.specs.Symbols.{name_or_empty}
use Rattle.class_order.specs.Supers.{IsBelow, next, further}
use Rattle.class_order.specs.Ranks.{HasRanks}
use Rattle.class_order.proofs.Within.{IsWithin, within_walked}
use Rattle.test_discovery.specs.declared.listed.Listed.{Listed}
use Rattle.test_discovery.specs.Listed.{Files, superclass_of, file_above, rising_from, rising, declares_any, listed_as, is_listed as is_listed_method, listed_at, listed_in, listed_above, listed_of}
use Rattle.suite_laws.specs.Found.{AreFilesOf}
use Rattle.suite_laws.proofs.ScriptLists.{all_each, all_flat}
use Rattle.suite_laws.proofs.Usable.{IsDeclared}

-- ---- the superclass

parent_case : (pool : List Const) (b : Bool) (e : Option Const) (s : Name) → option_and_then (text_of pool) (option_and_then class_in (if b then None else e)) ≡ Some s
    → (if b then None else Some (name_or_empty (option_and_then (text_of pool) (option_and_then class_in (if b then None else e))))) ≡ Some s
parent_case pool true e s h = absurd cc
parent_case pool false e s h = ap (λ o. Some (name_or_empty o)) h

parent_is : (c : Class) (s : Name) → superclass_of c ≡ Some s → (link c).parent ≡ Some s
unfolding link
parent_is c s h = parent_case c.pool (c.parent == 0) (slice_get c.pool (c.parent - 1)) s h

parent_listed : (p : Look) (c : Class) (s : Name) → p (own_name c) ≡ Some (link c) → superclass_of c ≡ Some s → is_listed s (parents_of (p (own_name c))) ≡ true
parent_listed p c s meant h =
    ap (λ o. is_listed s (parents_of o)) meant
    ∙ ap (λ o. is_listed s (parents_with o (link c).interfaces)) (parent_is c s h)
    ∙ or_left (same s s) (is_listed s (link c).interfaces) (nat_list_eq_equiv.refl s)

-- ---- above a class

below_then : (p : Look) (a b c : Name) → IsBelow p a b → is_listed c (parents_of (p b)) ≡ true → IsBelow p a c
below_then p a b c (next x y l) h = further x y c l (next y c h)
below_then p a b c (further x y z l rest) h = further x y c l (below_then p y z c rest h)

within_then : (p : Look) (a b c : Name) → IsWithin p a b → is_listed c (parents_of (p b)) ≡ true → IsWithin p a c
within_then p a b c w h = elim w [
  | inl e ↦ inr (next a c (subst (λ z. is_listed c (parents_of (p z)) ≡ true) (sym e) h))
  | inr l ↦ inr (below_then p a b c l h)
]

-- The file of a class that is another one, or that this one is below.
pub record IsAbove (p : Look) (root : Name) (c : Class) : Type 0 where
  pub meant : p (own_name c) ≡ Some (link c)
  pub within : IsWithin p root (own_name c)

-- The first of these class files, and those above it.
abbrev pub AreRising : Look → List Class → Type 0
AreRising p [] = Unit {0}
AreRising p (c ∷ cs) = AllByRecursion (IsAbove p (own_name c)) (c ∷ cs)

module _ (p : Look) (files : Files) (ok : AreFilesOf p files) where
  meant_by : (n : Name) (c : Class) → files n ≡ Some c → p (own_name c) ≡ Some (link c)
  meant_by n c e = subst (λ z. p z ≡ Some (link c)) (sym (ok.named n c e)) (ok.meant n c e)

  module _ (root : Name) where
    file_above_is : (c d : Class) (o : Option Name) → IsAbove p root c → superclass_of c ≡ o → option_and_then files o ≡ Some d → IsAbove p root d
    file_above_is c d None h e f = absurd cc
    file_above_is c d (Some s) h e f = record {
      meant = meant_by s d f;
      within = within_then p root (own_name c) (own_name d) h.within (subst (λ z. is_listed z (parents_of (p (own_name c))) ≡ true) (sym (ok.named s d f)) (parent_listed p c s h.meant e));
    }

    all_above : (k : ℕ) (o : Option Class) → ((c : Class) → o ≡ Some c → IsAbove p root c) → AllByRecursion (IsAbove p root) (rising_from k files o)
    all_above k None h = tt
    all_above zero (Some c) h = tt
    all_above (suc k) (Some c) h = (h c refl, all_above k (file_above files c) (λ d e. file_above_is c d (superclass_of c) (h c refl) refl e))

  rising_from_is : (k : ℕ) (n : Name) (o : Option Class) → files n ≡ o → AreRising p (rising_from k files o)
  rising_from_is k n None e = tt
  rising_from_is zero n (Some c) e = tt
  rising_from_is (suc k) n (Some c) e =
      let here : IsAbove p (own_name c) c = record { meant = meant_by n c e; within = inl refl } in
      (here, all_above (own_name c) k (file_above files c) (λ d f. file_above_is (own_name c) c d (superclass_of c) here refl f))

  pub rising_is : (most : ℕ) (n : Name) → AreRising p (rising most files n)
  rising_is most n = rising_from_is most n (files n) refl

-- ---- what is listed

module _ (p : Look) (ranks : HasRanks p) (root : Name) where
  one_listed : (b : Bool) (l : Listed) → IsDeclared p root l → AllByRecursion (IsDeclared p root) (if b then l ∷ [] else [])
  one_listed true l d = (d, tt)
  one_listed false l d = tt

  in_one : (hidden : Name × Name → Bool) (c : Class) → IsAbove p root c → AllByRecursion (IsDeclared p root) (listed_in hidden c)
  in_one hidden c h =
      all_flat (listed_at hidden c) (IsDeclared p root) c.methods
      (all_each (λ m. AllByRecursion (IsDeclared p root) (listed_at hidden c m)) c.methods
      (λ k m there. one_listed (is_listed_method hidden c m) (listed_as c m) (record {
        class = c;
        place = k;
        member = m;
        there = there;
        is = refl;
        meant = h.meant;
        below = within_walked p ranks root (own_name c) h.within;
      })))

  in_all : (lower cs : List Class) → AllByRecursion (IsAbove p root) cs → AllByRecursion (AllByRecursion (IsDeclared p root)) (listed_above lower cs)
  in_all lower [] h = tt
  in_all lower (c ∷ cs) h = (in_one (declares_any lower) c h.0, in_all (lower ++ c ∷ []) cs h.1)

  pub listed_declared : (cs : List Class) → AllByRecursion (IsAbove p root) cs → AllByRecursion (AllByRecursion (IsDeclared p root)) (listed_of cs)
  unfolding listed_of
  listed_declared cs h = in_all [] cs h
