-- Where each class has the same supers and flags in both programs, both are ordered.
use Rattle.std.proofs.Common.{◌≡◌, ◌∙◌, ℕ, Bool, true, false, List, [], Option, Some, None, refl, sym, ap, subst}
use Rattle.std.specs.Prelude.{◌&&◌, ◌||◌, not, is_none}
use Rattle.std.specs.List.{list_any}
use Rattle.program_rules.specs.Names.{Name, same, object_name, is_listed}
use Rattle.program_rules.specs.Linked.{Linked, parents_with, parents_of, is_interface}
use Rattle.program_rules.specs.Programs.{Look, option_list}
use Rattle.type_laws.specs.Alike.{head_of, HeadsAlike}
use Rattle.class_order.specs.Supers.{lacks_superclass, is_super_missing, is_final, is_no_superclass, is_no_interface, names_wrong_kind, is_super_of_wrong_kind}
use Rattle.class_order.specs.Ranks.{IsOrdered}

abbrev Head : Type 0
Head = ℕ × Option Name × List Name

abbrev Heads : Type 0
Heads = Name → Option Head

-- ---- by heads

abbrev parents_in : Option Head → List Name
parents_in None = []
parents_in (Some h) = parents_with h.1 h.2

parents_are : (o : Option Linked) → parents_of o ≡ parents_in (head_of o)
parents_are None = refl
parents_are (Some c) = refl

none_is : (o : Option Linked) → is_none o ≡ is_none (head_of o)
none_is None = refl
none_is (Some c) = refl

abbrev lacks_in : Name → Option Head → Bool
lacks_in n None = false
lacks_in n (Some h) = is_none h.1 && not (same n object_name)

lacks_is : (n : Name) (o : Option Linked) → lacks_superclass n o ≡ lacks_in n (head_of o)
lacks_is n None = refl
lacks_is n (Some c) = refl

abbrev no_superclass_in : Option Head → Bool
no_superclass_in None = false
no_superclass_in (Some h) = is_final h.0 || is_interface h.0

no_superclass_is : (o : Option Linked) → is_no_superclass o ≡ no_superclass_in (head_of o)
no_superclass_is None = refl
no_superclass_is (Some c) = refl

abbrev no_interface_in : Option Head → Bool
no_interface_in None = false
no_interface_in (Some h) = not (is_interface h.0)

no_interface_is : (o : Option Linked) → is_no_interface o ≡ no_interface_in (head_of o)
no_interface_is None = refl
no_interface_is (Some c) = refl

abbrev missing_in : Heads → Name → Bool
missing_in q n = lacks_in n (q n) || list_any (λ m. is_none (q m)) (parents_in (q n))

abbrev wrong_in : Heads → Option Head → Bool
wrong_in q None = false
wrong_in q (Some h) =
    list_any (λ m. no_superclass_in (q m) || (is_interface h.0 && not (same m object_name))) (option_list h.1)
    || list_any (λ m. no_interface_in (q m)) h.2

abbrev heads : Look → Heads
heads p n = head_of (p n)

missing_is : (p : Look) (n : Name) → is_super_missing p n ≡ missing_in (heads p) n
missing_is p n = λ i. lacks_is n (p n) i || list_any (λ m. none_is (p m) i) (parents_are (p n) i)

wrong_case : (p : Look) (o : Option Linked) → names_wrong_kind p o ≡ wrong_in (heads p) (head_of o)
wrong_case p None = refl
wrong_case p (Some c) = λ i.
    list_any (λ m. no_superclass_is (p m) i || (is_interface c.flags && not (same m object_name))) (option_list c.parent)
    || list_any (λ m. no_interface_is (p m) i) c.interfaces

module _ (p p' : Look) (alike : HeadsAlike p p') where
  heads_same : heads p' ≡ heads p
  heads_same = λ i n. alike n i

  parents_same : (n : Name) → parents_of (p' n) ≡ parents_of (p n)
  parents_same n = parents_are (p' n) ∙ ap parents_in (alike n) ∙ sym (parents_are (p n))

  missing_same : (n : Name) → is_super_missing p' n ≡ is_super_missing p n
  missing_same n = missing_is p' n ∙ ap (λ (q : Heads). missing_in q n) heads_same ∙ sym (missing_is p n)

  wrong_same : (n : Name) → is_super_of_wrong_kind p' n ≡ is_super_of_wrong_kind p n
  wrong_same n = wrong_case p' (p' n) ∙ (λ i. wrong_in (heads_same i) (alike n i)) ∙ sym (wrong_case p (p n))

  pub ordered_same : IsOrdered p → IsOrdered p'
  ordered_same ok =
      let ranks = ok.ranks in
      record {
        present = λ n. missing_same n ∙ ok.present n;
        kinds = λ n. wrong_same n ∙ ok.kinds n;
        ranks = record {
          rank = ranks.rank;
          few = ranks.few;
          lower = λ n m l. ranks.lower n m (subst (λ (ns : List Name). is_listed m ns ≡ true) (parents_same n) l);
        };
      }
