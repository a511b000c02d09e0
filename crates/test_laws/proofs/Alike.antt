-- Classes that tests see alike have the same tests.
use Rattle.std.proofs.Common.{◌≡◌, ◌∙◌, ℕ, zero, suc, Bool, List, [], ◌∷◌, ◌++◌, map, Option, Some, None, refl, sym, ap, subst}
use Rattle.std.specs.Prelude.{◌&&◌, ◌||◌, not, if◌then◌else◌, option_and_then}
use Rattle.std.specs.List.{list_any, flat_map}
use Rattle.class_model.specs.declared.class.Class.{Class}
use Rattle.class_model.specs.declared.class.Member.{Member}
use Rattle.class_model.specs.declared.constant.Const.{Const}
use Rattle.program_rules.specs.Names.{Name}
use Rattle.class_link.specs.Info.{own_name}
use Rattle.class_table.specs.declared.scripted.Test.{Test}
use Rattle.test_discovery.specs.declared.listed.Listed.{Listed}
use Rattle.test_discovery.specs.declared.marks.Marks.{Marks}
use Rattle.test_discovery.specs.Annotations.{marks_of, is_marked}
use Rattle.test_discovery.specs.Listed.{Files, superclass_of, file_above, rising_from, head_of, same_head, declares, declares_any, listed_with, listed_at, listed_in, listed_above, listed_of, downwards}
use Rattle.test_discovery.specs.Rules.{may_test, is_test_class}
use Rattle.test_discovery.specs.Scripts.{fixture_of, tests_listed, tests_in, tests_of}
use Rattle.test_laws.proofs.Lists.{flat_mapped, any_mapped}

-- What tests see of a method: its name and descriptor, its flags, and what its annotations make of
-- it.
pub record Outline : Type 0 where
  pub head : Name × Name
  pub flags : ℕ
  pub marks : Marks

abbrev pub outline : List Const → Member → Outline
outline pool m = record { head = head_of pool m; flags = m.flags; marks = marks_of pool m.attrs }

abbrev pub outline_by : Name × Name → ℕ → Marks → Outline
outline_by head flags marks = record { head = head; flags = flags; marks = marks }

abbrev pub outlines : Class → List Outline
outlines c = map (outline c.pool) c.methods

-- Tests see the same of both classes.
pub record IsAlike (c' c : Class) : Type 0 where
  pub name : own_name c' ≡ own_name c
  pub parent : superclass_of c' ≡ superclass_of c
  pub may : may_test c' ≡ may_test c
  pub methods : outlines c' ≡ outlines c

abbrev pub AreAlike : List Class → List Class → Type 0
AreAlike [] [] = Unit {0}
AreAlike [] (c ∷ cs) = ⊥
AreAlike (c' ∷ cs') [] = ⊥
AreAlike (c' ∷ cs') (c ∷ cs) = IsAlike c' c × AreAlike cs' cs

abbrev pub IsOptionAlike : Option Class → Option Class → Type 0
IsOptionAlike None None = Unit {0}
IsOptionAlike None (Some c) = ⊥
IsOptionAlike (Some c') None = ⊥
IsOptionAlike (Some c') (Some c) = IsAlike c' c

pub itself : (c : Class) → IsAlike c c
itself c = record { name = refl; parent = refl; may = refl; methods = refl }

pub option_itself : (o : Option Class) → IsOptionAlike o o
option_itself None = tt
option_itself (Some c) = itself c

-- ---- by outlines

abbrev listed_by : (Name × Name → Bool) → Name → Outline → List Listed
listed_by is_hidden class o = if is_marked o.marks && not (is_hidden o.head) then listed_with class o.head o.flags o.marks ∷ [] else []

listed_outlines : (is_hidden : Name × Name → Bool) (c : Class) → listed_in is_hidden c ≡ flat_map (listed_by is_hidden (own_name c)) (outlines c)
listed_outlines is_hidden c = flat_mapped (listed_at is_hidden c) (listed_by is_hidden (own_name c)) (outline c.pool) (λ m. refl) c.methods

declared_outlines : (head : Name × Name) (c : Class) → declares head c ≡ list_any (λ o. same_head o.head head) (outlines c)
declared_outlines head c = any_mapped (λ m. same_head (head_of c.pool m) head) (λ o. same_head o.head head) (outline c.pool) (λ m. refl) c.methods

-- ---- what is listed

listed_same : (is_hidden' is_hidden : Name × Name → Bool) → is_hidden' ≡ is_hidden → (c' c : Class) → IsAlike c' c → listed_in is_hidden' c' ≡ listed_in is_hidden c
listed_same is_hidden' is_hidden e c' c a =
    listed_outlines is_hidden' c'
    ∙ (λ i. flat_map (listed_by (e i) (a.name i)) (a.methods i))
    ∙ sym (listed_outlines is_hidden c)

declares_same : (head : Name × Name) (c' c : Class) → IsAlike c' c → declares head c' ≡ declares head c
declares_same head c' c a =
    declared_outlines head c' ∙ ap (list_any (λ (o : Outline). same_head o.head head)) a.methods ∙ sym (declared_outlines head c)

any_declares : (head : Name × Name) (cs' cs : List Class) → AreAlike cs' cs → declares_any cs' head ≡ declares_any cs head
any_declares head [] [] a = refl
any_declares head [] (c ∷ cs) a = absurd a
any_declares head (c' ∷ cs') [] a = absurd a
any_declares head (c' ∷ cs') (c ∷ cs) a = λ i. declares_same head c' c a.0 i || any_declares head cs' cs a.1 i

all_declares : (cs' cs : List Class) → AreAlike cs' cs → declares_any cs' ≡ declares_any cs
all_declares cs' cs a = λ i head. any_declares head cs' cs a i

one_more : (cs' cs : List Class) (c' c : Class) → AreAlike cs' cs → IsAlike c' c → AreAlike (cs' ++ c' ∷ []) (cs ++ c ∷ [])
one_more [] [] c' c a b = (b, tt)
one_more [] (k ∷ ks) c' c a b = absurd a
one_more (k' ∷ ks') [] c' c a b = absurd a
one_more (k' ∷ ks') (k ∷ ks) c' c a b = (a.0, one_more ks' ks c' c a.1 b)

above_same : (lower' lower cs' cs : List Class) → AreAlike lower' lower → AreAlike cs' cs → listed_above lower' cs' ≡ listed_above lower cs
above_same lower' lower [] [] l a = refl
above_same lower' lower [] (c ∷ cs) l a = absurd a
above_same lower' lower (c' ∷ cs') [] l a = absurd a
above_same lower' lower (c' ∷ cs') (c ∷ cs) l a = λ i.
    listed_same (declares_any lower') (declares_any lower) (all_declares lower' lower l) c' c a.0 i
    ∷ above_same (lower' ++ c' ∷ []) (lower ++ c ∷ []) cs' cs (one_more lower' lower c' c l a.0) a.1 i

-- ---- tests

abbrev tests_by : Name → Bool → List (List Listed) → List Test
tests_by class may ls = if may && list_any (λ l. l.marks.test) (downwards ls) then tests_listed class (fixture_of ls) (downwards ls) else []

tests_are : (c : Class) (ls : List (List Listed)) → tests_in c ls ≡ tests_by (own_name c) (may_test c) ls
unfolding is_test_class
tests_are c ls = refl

pub tests_same : (cs' cs : List Class) → AreAlike cs' cs → tests_of cs' ≡ tests_of cs
unfolding listed_of
tests_same [] [] a = refl
tests_same [] (c ∷ cs) a = absurd a
tests_same (c' ∷ cs') [] a = absurd a
tests_same (c' ∷ cs') (c ∷ cs) a =
    tests_are c' (listed_of (c' ∷ cs'))
    ∙ (λ i. tests_by (a.0.name i) (a.0.may i) (above_same [] [] (c' ∷ cs') (c ∷ cs) tt a i))
    ∙ sym (tests_are c (listed_of (c ∷ cs)))

-- ---- the classes above

module _ (files' files : Files) (each : (n : Name) → IsOptionAlike (files' n) (files n)) where
  found_above : (s' s : Option Name) → s' ≡ s → IsOptionAlike (option_and_then files' s') (option_and_then files s)
  found_above s' s e = subst (λ (z : Option Name). IsOptionAlike (option_and_then files' z) (option_and_then files s)) (sym e) (found s)
    where
      found : (s : Option Name) → IsOptionAlike (option_and_then files' s) (option_and_then files s)
      found None = tt
      found (Some n) = each n

  pub rising_alike : (k : ℕ) (o' o : Option Class) → IsOptionAlike o' o → AreAlike (rising_from k files' o') (rising_from k files o)
  rising_alike zero None None a = tt
  rising_alike zero None (Some c) a = absurd a
  rising_alike zero (Some c') None a = absurd a
  rising_alike zero (Some c') (Some c) a = tt
  rising_alike (suc k) None None a = tt
  rising_alike (suc k) None (Some c) a = absurd a
  rising_alike (suc k) (Some c') None a = absurd a
  rising_alike (suc k) (Some c') (Some c) a = (a, rising_alike k (file_above files' c') (file_above files c) (found_above (superclass_of c') (superclass_of c) a.parent))
