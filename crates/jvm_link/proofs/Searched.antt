-- The classes that are searched for a method, and what they give to choose from.
use Rattle.std.proofs.Common.{◌≡◌, ◌∙◌, sym, refl, ap, subst, ℕ, zero, suc, ◌<◌, Bool, true, false, not, cond, List, [], ◌∷◌, ◌++◌, map, length, Option, None, Some, slice_get}
use Rattle.std.proofs.lemmas.Simd.{map-map}
use Rattle.std.specs.Prelude.{◌||◌, if◌then◌else◌, ⊤}
use Rattle.std.specs.List.{filter}
use Rattle.program_rules.specs.Names.{Name, same, is_listed}
use Rattle.program_rules.specs.Outlines.{Head, head_in, is_interface_class}
use Rattle.program_rules.specs.Programs.{Look, Node, Rising, Searching, nodes, family, top_of, concat_over, superclass_in}
use Rattle.program_rules.specs.Resolution.{MethodAt, method_at, with_node, is_candidate, candidate_with, candidates}
use Rattle.class_order.proofs.Within.{same_itself}
use Rattle.class_link.specs.Info.{Info}
use Rattle.class_table.specs.Table.{look, name_at, IsProgram}
use Rattle.class_family.specs.Once.{each_once}
use Rattle.class_family.specs.Families.{names_in, node_of, rising_at, AreClassesOf, GoesOn}
use Rattle.class_family.proofs.Levels.{AreNodes, nodes_are, rising_step}
use Rattle.class_family.proofs.Onces.{others}
use Rattle.class_family.proofs.Above.{others_listed}
use Rattle.class_family.proofs.Searches.{apart, chosen, chosen_once, filter_both}
use Rattle.jvm_link.specs.Sites.{outline_at, node_at, nodes_at}
use Rattle.jvm_link.specs.Candidates.{family_at, AreSearched, own_candidate, candidates_of}

-- ---- the highest class

pub top_next : (p : List Info) (a up : ℕ) → IsProgram p → GoesOn p a up → top_of (rising_at p a) ≡ top_of (rising_at p up)
top_next p a up ok goes =
    let above = concat_over (nodes Rising (look p)) (superclass_in (outline_at p up)) in
    let step : rising_at p up ≡ node_at p up ∷ above = rising_step (look p) ok.ranks (name_at p up) in
    ap top_of goes ∙ ap (λ l. top_of (node_at p a ∷ l)) step ∙ sym (ap top_of step)

-- ---- the classes that are searched

pub array_searched : (p : List Info) (a t : ℕ) → t < length p → top_of (rising_at p a) ≡ node_at p t ∷ [] → AreSearched p a true (t ∷ [])
unfolding family
array_searched p a t lt top = record {
  within = λ k b e. one_within k b e;
  named = sym (ap (λ (ns : List Node). each_once (names_in ns)) top);
}
  where
    one_within : (k b : ℕ) → slice_get (t ∷ []) k ≡ Some b → b < length p
    one_within zero b e = let s : t ≡ b = cc in subst (λ x. x < length p) s lt
    one_within (suc k) b e = absurd cc

pub class_searched : (p : List Info) (a : ℕ) (ids : List ℕ) → AreClassesOf Searching p a ids → AreSearched p a false ids
unfolding family
class_searched p a ids classes = record { within = classes.within; named = classes.named }

pub searched_by : (p : List Info) (a : ℕ) (array x : Bool) (ids : List ℕ) → array ≡ x → AreSearched p a x ids → AreSearched p a array ids
searched_by p a array x ids e h = subst (λ b. AreSearched p a b ids) (sym e) h

pub top_nodes : (p : Look) (ns : List Node) → AreNodes p ns → AreNodes p (top_of ns)
top_nodes p [] h = refl
top_nodes p (n ∷ []) h = h
top_nodes p (n ∷ m ∷ ns) h = top_nodes p (m ∷ ns) (let t : m ∷ ns ≡ map (node_of p) (names_in (m ∷ ns)) = cc in t)

pub family_nodes : (p : List Info) (a : ℕ) (array : Bool) → IsProgram p → AreNodes (look p) (family_at p a array).searching
unfolding family
family_nodes p a true ok = top_nodes (look p) (nodes Rising (look p) (name_at p a)) (nodes_are (look p) ok.ranks Rising (name_at p a))
family_nodes p a false ok = nodes_are (look p) ok.ranks Searching (name_at p a)

-- ---- names that stand once

abbrev pub Apart : List Name → Type 0
Apart [] = ⊤
Apart (n ∷ ns) = (is_listed n ns ≡ false) × Apart ns

kept_out : (n x : Name) (ns : List Name) → is_listed x ns ≡ false → is_listed x (others n ns) ≡ false
kept_out n x ns h = others_listed n x ns ∙ ap (λ b. cond (same n x) false b) h ∙ by_test (same n x)
  where
    by_test : (b : Bool) → cond b false false ≡ false
    by_test true = refl
    by_test false = refl

others_apart : (n : Name) (ns : List Name) → Apart ns → Apart (others n ns)
others_apart n [] h = tt
others_apart n (x ∷ ns) h = by_test (same n x) (others_apart n ns h.1)
  where
    by_test : (b : Bool) → Apart (others n ns) → Apart (cond (not b) (x ∷ others n ns) (others n ns))
    by_test true rest = rest
    by_test false rest = (kept_out n x ns h.0, rest)

pub once_apart : (ns : List Name) → Apart (each_once ns)
once_apart [] = tt
once_apart (n ∷ ns) =
    (others_listed n n (each_once ns) ∙ ap (λ b. cond b false (is_listed n (each_once ns))) (same_itself n), others_apart n (each_once ns) (once_apart ns))

-- ---- candidates of classes that stand once

module _ (p : List Info) (name desc : Name) where
  own_kept : (n : Name) (a : ℕ) → same (name_at p a) n ≡ false → filter (apart n) (own_candidate p name desc a) ≡ own_candidate p name desc a
  own_kept n a other = by_kind (is_interface_class (outline_at p a)) (head_in name desc (outline_at p a))
    where
      with_test : (m : MethodAt) (b : Bool) → m.class ≡ name_at p a → filter (apart n) (if b then record { method = m; supers = (node_at p a).supers } ∷ [] else []) ≡ (if b then record { method = m; supers = (node_at p a).supers } ∷ [] else [])
      with_test m false e = refl
      with_test m true e = ap (λ b. cond (if b then false else true) (record { method = m; supers = (node_at p a).supers } ∷ []) []) (ap (λ x. same x n) e ∙ other)

      by_kind : (b : Bool) (o : Option (ℕ × Head)) → filter (apart n) (if b then candidate_with (node_at p a) (with_node (node_at p a) o) else []) ≡ (if b then candidate_with (node_at p a) (with_node (node_at p a) o) else [])
      by_kind false o = refl
      by_kind true None = refl
      by_kind true (Some h) = with_test (method_at (node_at p a) h) (is_candidate (method_at (node_at p a) h)) refl

  all_kept : (n : Name) (ids : List ℕ) → is_listed n (map (name_at p) ids) ≡ false → filter (apart n) (candidates_of p name desc ids) ≡ candidates_of p name desc ids
  all_kept n [] h = refl
  all_kept n (a ∷ ids) h = by_test (same (name_at p a) n) refl (λ k. all_kept n ids k) h
    where
      by_test : (b : Bool) → same (name_at p a) n ≡ b → (is_listed n (map (name_at p) ids) ≡ false → filter (apart n) (candidates_of p name desc ids) ≡ candidates_of p name desc ids) → (b || is_listed n (map (name_at p) ids)) ≡ false → filter (apart n) (own_candidate p name desc a ++ candidates_of p name desc ids) ≡ own_candidate p name desc a ++ candidates_of p name desc ids
      by_test true e rest f = absurd cc
      by_test false e rest f =
          filter_both (apart n) (own_candidate p name desc a) (candidates_of p name desc ids)
          ∙ ap (λ l. l ++ filter (apart n) (candidates_of p name desc ids)) (own_kept n a e)
          ∙ ap (λ l. own_candidate p name desc a ++ l) (rest f)

  flat : (ids : List ℕ) → Apart (map (name_at p) ids) → candidates name desc (nodes_at p ids) ≡ candidates_of p name desc ids
  flat [] h = refl
  flat (a ∷ ids) h =
      ap (λ l. own_candidate p name desc a ++ filter (apart (name_at p a)) l) (flat ids h.1)
      ∙ ap (λ l. own_candidate p name desc a ++ l) (all_kept (name_at p a) ids h.0)

  pub candidates_searched : (a : ℕ) (array : Bool) (ids : List ℕ) → IsProgram p → AreSearched p a array ids → candidates name desc (family_at p a array).searching ≡ candidates_of p name desc ids
  candidates_searched a array ids ok h =
      let ns = names_in (family_at p a array).searching in
      ap (candidates name desc) (family_nodes p a array ok)
      ∙ sym (chosen_once (look p) name desc ns)
      ∙ ap (chosen (look p) name desc) (sym h.named)
      ∙ ap (candidates name desc) (map-map (node_of (look p)) (name_at p) ids)
      ∙ flat ids (subst Apart (sym h.named) (once_apart ns))
