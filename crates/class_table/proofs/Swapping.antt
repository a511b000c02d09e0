-- What is so of a program stays so where one class takes the place of another one of its name,
-- superclass and interfaces.
use Rattle.std.proofs.Common.{◌≡◌, ◌∙◌, sym, refl, ap, subst, ℕ, zero, suc, Bool, true, false, List, [], ◌∷◌, length-set, Option, None, Some, slice_get, slice_set, arith, IsSomeAnd}
use Rattle.std.specs.Prelude.{◌||◌, ◌&&◌, not, is_none, option_and_then}
use Rattle.std.specs.List.{list_any, flat_map}
use Rattle.std.specs.Option.{option_map, option_to_list}
use Rattle.std.proofs.lemmas.List.Elements.{All-set}
use Rattle.program_rules.specs.Names.{Name, same, object_name, is_listed}
use Rattle.program_rules.specs.Linked.{Linked, parents_of, parents_with}
use Rattle.program_rules.specs.Programs.{Look}
use Rattle.class_link.specs.Info.{Info, IsInfo, class_of}
use Rattle.class_order.specs.declared.links.Links.{Links}
use Rattle.class_order.specs.Supers.{is_super_missing, lacks_superclass}
use Rattle.class_order.specs.Ranks.{HasRanks}
use Rattle.class_table.specs.declared.supers.Supers.{Supers}
use Rattle.class_table.specs.Table.{number_of, place_in, class_at, look, AreDistinct, IsProgram, IsAlike, CanSwap}
use Rattle.class_table.specs.Supers.{IsLinked, AreLinks, AreSupers}
use Rattle.class_table.proofs.Places.{swap_names}

-- ---- what a class says of its supers

abbrev Said : Type 0
Said = Option (Option Name × List Name)

abbrev said : Option Linked → Said
said None = None
said (Some c) = Some (c.parent, c.interfaces)

abbrev said_parent : Said → Option Name
said_parent None = None
said_parent (Some s) = s.0

abbrev said_interfaces : Said → List Name
said_interfaces None = []
said_interfaces (Some s) = s.1

lacks_by : Name → Said → Bool
lacks_by n None = false
lacks_by n (Some s) = is_none s.0 && not (same n object_name)

parents_by : Said → List Name
parents_by None = []
parents_by (Some s) = parents_with s.0 s.1

absent_by : Said → Bool
absent_by o = is_none o

lacks_is : (n : Name) (o : Option Linked) → lacks_superclass n o ≡ lacks_by n (said o)
unfolding lacks_by
lacks_is n None = refl
lacks_is n (Some c) = refl

parents_is : (o : Option Linked) → parents_of o ≡ parents_by (said o)
unfolding parents_by
parents_is None = refl
parents_is (Some c) = refl

absent_is : (o : Option Linked) → is_none o ≡ absent_by (said o)
unfolding absent_by
absent_is None = refl
absent_is (Some c) = refl

module _ (p q : Look) (alike : (n : Name) → said (q n) ≡ said (p n)) where
  same_parents : (n : Name) → parents_of (q n) ≡ parents_of (p n)
  same_parents n = parents_is (q n) ∙ ap parents_by (alike n) ∙ sym (parents_is (p n))

  same_absent : (n : Name) → is_none (q n) ≡ is_none (p n)
  same_absent n = absent_is (q n) ∙ ap absent_by (alike n) ∙ sym (absent_is (p n))

  same_lacks : (n : Name) → lacks_superclass n (q n) ≡ lacks_superclass n (p n)
  same_lacks n = lacks_is n (q n) ∙ ap (lacks_by n) (alike n) ∙ sym (lacks_is n (p n))

  any_same : (f g : Name → Bool) → ((n : Name) → f n ≡ g n) → (ns : List Name) → list_any f ns ≡ list_any g ns
  any_same f g h [] = refl
  any_same f g h (n ∷ ns) = ap (λ b. b || list_any f ns) (h n) ∙ ap (λ b. g n || b) (any_same f g h ns)

  same_missing : (n : Name) → is_super_missing q n ≡ is_super_missing p n
  same_missing n =
      ap (λ b. b || list_any (λ m. is_none (q m)) (parents_of (q n))) (same_lacks n)
      ∙ ap (λ ns. lacks_superclass n (p n) || list_any (λ m. is_none (q m)) ns) (same_parents n)
      ∙ ap (λ b. lacks_superclass n (p n) || b) (any_same (λ m. is_none (q m)) (λ m. is_none (p m)) same_absent (parents_of (p n)))

  same_ranks : HasRanks p → HasRanks q
  same_ranks h = record { rank = h.rank; few = h.few; lower = λ n m l. h.lower n m (subst (λ ns. is_listed m ns ≡ true) (same_parents n) l) }

-- ---- one class in the place of another

abbrev with_said : Option Name → List Name → Said
with_said o is = Some (o, is)

module _ (new : Info) where
  alike_said : (old : Info) → IsAlike old new → said (Some (class_of new)) ≡ said (Some (class_of old))
  alike_said old e = ap (λ o. with_said o (class_of new).interfaces) e.parent ∙ ap (with_said (class_of old).parent) e.interfaces

  alike_at : (p : List Info) (i : ℕ) (old : Info) → slice_get p i ≡ Some old → IsAlike old new → (k : ℕ) → said (class_at (slice_set p i new) k) ≡ said (class_at p k)
  alike_at [] i old h e k = refl
  alike_at (x ∷ p) zero old h e zero = let one : x ≡ old = cc in alike_said old e ∙ ap (λ (y : Info). said (Some (class_of y))) (sym one)
  alike_at (x ∷ p) zero old h e (suc k) = refl
  alike_at (x ∷ p) (suc i) old h e zero = refl
  alike_at (x ∷ p) (suc i) old h e (suc k) = alike_at p i old h e k

module _ (p : List Info) (i : ℕ) (new : Info) (can : CanSwap p i new) where
  abbrev changed : List Info
  changed = slice_set p i new

  alike_each : (k : ℕ) → said (class_at changed k) ≡ said (class_at p k)
  alike_each k = by_class (slice_get p i) refl can
    where
      by_class : (o : Option Info) → slice_get p i ≡ o → IsSomeAnd o (λ old. IsAlike old new) → said (class_at changed k) ≡ said (class_at p k)
      by_class None e h = absurd h
      by_class (Some old) e h = alike_at new p i old e h k

  alike_looks : (n : Name) → said (look changed n) ≡ said (look p n)
  alike_looks n = ap (λ ns. said (option_and_then (class_at changed) (place_in ns n))) (swap_names p i new can) ∙ by_number (number_of p n)
    where
      by_number : (o : Option ℕ) → said (option_and_then (class_at changed) o) ≡ said (option_and_then (class_at p) o)
      by_number None = refl
      by_number (Some k) = alike_each k

  pub swap_program : IsProgram p → IsInfo new → IsProgram changed
  swap_program ok meant = record {
    few = (let lt = ok.few in let e = length-set p i new in omega (arith, lt, e));
    distinct = subst AreDistinct (sym (swap_names p i new can)) ok.distinct;
    meant = All-set IsInfo p i new meant ok.meant;
    present = λ n. same_missing (look p) (look changed) alike_looks n ∙ ok.present n;
    ranks = same_ranks (look p) (look changed) alike_looks ok.ranks;
  }

  linked_same : (x y : Info) (l : Links) → said (Some (class_of x)) ≡ said (Some (class_of y)) → IsLinked p y l → IsLinked changed x l
  linked_same x y l e h = record {
    parent = h.parent ∙ ap (option_and_then (number_of p)) (sym parent) ∙ ap (λ ns. option_and_then (place_in ns) (class_of x).parent) (sym (swap_names p i new can));
    interfaces = h.interfaces ∙ ap (λ is. flat_map (λ n. option_to_list (number_of p n)) is) (sym interfaces) ∙ ap (λ ns. flat_map (λ n. option_to_list (place_in ns n)) (class_of x).interfaces) (sym (swap_names p i new can));
  }
    where
      parent : (class_of x).parent ≡ (class_of y).parent
      parent = ap said_parent e

      interfaces : (class_of x).interfaces ≡ (class_of y).interfaces
      interfaces = ap said_interfaces e

  swap_links : (g : List Links) → AreLinks p g → AreLinks changed g
  swap_links g h = record {
    each = h.each ∙ sym (length-set p i new);
    fit = λ a x l there e. by_class a x l there e (slice_get p a) refl;
  }
    where
      by_class : (a : ℕ) (x : Info) (l : Links) → slice_get changed a ≡ Some x → slice_get g a ≡ Some l → (o : Option Info) → slice_get p a ≡ o → IsLinked changed x l
      by_class a x l there e None q =
          let f : said (Some (class_of x)) ≡ said None = ap (λ o. said (option_map class_of o)) (sym there) ∙ alike_each a ∙ ap (λ o. said (option_map class_of o)) q in
          absurd cc
      by_class a x l there e (Some y) q =
          let f : said (Some (class_of x)) ≡ said (Some (class_of y)) = ap (λ o. said (option_map class_of o)) (sym there) ∙ alike_each a ∙ ap (λ o. said (option_map class_of o)) q in
          linked_same x y l f (h.fit a y l q e)

  pub swap_supers : (s : Supers) → AreSupers p s → AreSupers changed s
  swap_supers s h = record { links = swap_links s.links.items h.links; rows = h.rows }
