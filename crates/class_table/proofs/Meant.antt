-- All classes of a program have the name and the meaning of their bodies.
use Rattle.std.proofs.Common.{◌≡◌, ◌∙◌, sym, refl, ap, subst, ℕ, suc, List, [], ◌∷◌, ◌++◌, map, Option, None, Some, slice_get, All}
use Rattle.std.specs.Prelude.{option_and_then}
use Rattle.std.specs.Option.{option_map}
use Rattle.std.specs.Arc.{arc_value}
use Rattle.std.specs.declared.sync.Arc.{Arc}
use Rattle.std.proofs.lemmas.Option.{slice_get-map, slice_get_within, get_or_from_slice_get}
use Rattle.std.proofs.lemmas.List.Elements.{All-append, All-from_recursion, All-get_or}
use Rattle.program_rules.specs.Names.{Name}
use Rattle.program_rules.specs.Programs.{Look}
use Rattle.class_link.specs.declared.loaded.ClassBody.{ClassBody}
use Rattle.class_link.specs.Info.{Info, IsInfo, body_name, link_body, class_of}
use Rattle.class_table.specs.Table.{bodies, names, class_at, look, place_in}
use Rattle.class_table.specs.Faults.{look_of}

module _ {Z : Type 0} where
  map_more : (xs : List (Arc Info Z)) (x : Arc Info Z) → map (λ c. arc_value c) (xs ++ x ∷ []) ≡ map (λ c. arc_value c) xs ++ arc_value x ∷ []
  map_more [] x = refl
  map_more (y ∷ xs) x = ap (λ l. arc_value y ∷ l) (map_more xs x)

  -- one class more
  pub meant_more : (xs : List (Arc Info Z)) (x : Arc Info Z) → All IsInfo (map (λ c. arc_value c) xs) → IsInfo (arc_value x) → All IsInfo (map (λ c. arc_value c) (xs ++ x ∷ []))
  meant_more xs x before here = subst (All IsInfo) (sym (map_more xs x)) (All-append IsInfo (map (λ c. arc_value c) xs) (arc_value x ∷ []) before (All-from_recursion IsInfo (arc_value x ∷ []) (here, tt)))

-- the class at a place
meant_at : (p : List Info) (k : ℕ) (i : Info) → slice_get p k ≡ Some i → All IsInfo p → IsInfo i
meant_at p k i at meant = subst IsInfo (get_or_from_slice_get p k i i at) (All-get_or IsInfo p k i (slice_get_within p k i at) meant)

named_by : (p : List Info) → ((k : ℕ) (i : Info) → slice_get p k ≡ Some i → IsInfo i) → names p ≡ map body_name (bodies p)
named_by [] each = refl
named_by (i ∷ is) each = ap (λ n. n ∷ names is) (each 0 i refl).name ∙ ap (λ ns. body_name i.body ∷ ns) (named_by is (λ k. each (suc k)))

pub names_meant : (p : List Info) → All IsInfo p → names p ≡ map body_name (bodies p)
names_meant p meant = named_by p (λ k i at. meant_at p k i at meant)

-- what the classes say by their numbers, and by their bodies
pub look_meant : (p : List Info) → All IsInfo p → (n : Name) → look p n ≡ look_of (bodies p) n
look_meant p meant n =
    ap (λ ns. option_and_then (class_at p) (place_in ns n)) (names_meant p meant) ∙ by_place (place_in (map body_name (bodies p)) n)
  where
    by_class : (k : ℕ) (o : Option Info) → slice_get p k ≡ o → option_map class_of o ≡ option_map link_body (option_map (λ i. i.body) o)
    by_class k None e = refl
    by_class k (Some i) e = ap Some (meant_at p k i e meant).linked

    by_place : (o : Option ℕ) → option_and_then (class_at p) o ≡ option_map link_body (option_and_then (slice_get (bodies p)) o)
    by_place None = refl
    by_place (Some k) = by_class k (slice_get p k) refl ∙ ap (option_map link_body) (sym (slice_get-map (λ i. i.body) p k))

pub looks_meant : (p : List Info) → All IsInfo p → look p ≡ look_of (bodies p)
looks_meant p meant = λ i n. look_meant p meant n i

-- what is so of the names and the meaning of a program's classes is so of their bodies
pub of_bodies : (p : List Info) (bs : List ClassBody) → bodies p ≡ bs → All IsInfo p → (R : List Name → Look → Type 0) → R (names p) (look p) → R (map body_name bs) (look_of bs)
of_bodies p bs e meant R h = subst (λ cs. R (map body_name cs) (look_of cs)) e (subst (λ q. R (map body_name (bodies p)) q) (looks_meant p meant) (subst (λ ns. R ns (look p)) (names_meant p meant) h))
