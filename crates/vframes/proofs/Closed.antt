-- Above a class that is there, all is there.
use Rattle.std.proofs.Common.{◌≡◌, ◌<◌, ℕ, zero, suc, ◌++◌, Bool, true, false, List, [], ◌∷◌, length, Option, Some, None, is_none, refl, sym, ap, ◌∙◌, subst, arith}
use Rattle.std.specs.Prelude.{◌||◌, option_and_then}
use Rattle.std.specs.List.{list_any}
use Rattle.std.specs.Option.{option_map}
use Rattle.std.specs.Cmp.Lexicographic.{same_text}
use Rattle.std.proofs.lemmas.List.{length-map}
use Rattle.std.proofs.lemmas.Option.{slice_get_within}
use Rattle.program_rules.specs.Names.{Name, same, is_listed}
use Rattle.program_rules.specs.Linked.{parents_of}
use Rattle.program_rules.specs.Programs.{Look, concat_over, supers_within, supers}
use Rattle.type_rules.specs.References.{is_subtype}
use Rattle.class_order.specs.Supers.{lacks_superclass, is_super_missing}
use Rattle.class_link.specs.Info.{Info, class_of}
use Rattle.class_table.specs.Table.{number_of, class_at, look, names}
use Rattle.vframes.specs.Named.{IsClosed}
use Rattle.vframes.proofs.Lookups.{get_inside, number_place}

first_false : (a b : Bool) → (a || b) ≡ false → a ≡ false
first_false true b e = e
first_false false b e = refl

second_false : (a b : Bool) → (a || b) ≡ false → b ≡ false
second_false true b e = cc
second_false false b e = e

both_false : (a b : Bool) → a ≡ false → b ≡ false → (a || b) ≡ false
both_false true b e f = e
both_false false b e f = f

-- ---- none of these names is such a name

module _ (such : Name → Bool) where
  joined : (xs ys : List Name) → list_any such xs ≡ false → list_any such ys ≡ false → list_any such (xs ++ ys) ≡ false
  joined [] ys e f = f
  joined (x ∷ xs) ys e f =
      both_false (such x) (list_any such (xs ++ ys)) (first_false (such x) (list_any such xs) e)
      (joined xs ys (second_false (such x) (list_any such xs) e) f)

  over_all : (go : Name → List Name) → ((n : Name) → such n ≡ false → list_any such (go n) ≡ false) → (ns : List Name) → list_any such ns ≡ false → list_any such (concat_over go ns) ≡ false
  over_all go each [] e = refl
  over_all go each (n ∷ ns) e =
      joined (go n) (concat_over go ns) (each n (first_false (such n) (list_any such ns) e))
      (over_all go each ns (second_false (such n) (list_any such ns) e))

  listed_case : (n m : Name) (ns : List Name) (b : Bool) → b ≡ same m n → list_any such (m ∷ ns) ≡ false → (is_listed n ns ≡ true → such n ≡ false) → (b || is_listed n ns) ≡ true → such n ≡ false
  listed_case n m ns true same_one e rest g =
      subst (λ x. such x ≡ false) (same_text m n same_one) (first_false (such m) (list_any such ns) e)
  listed_case n m ns false other e rest g = rest g

  of_listed : (n : Name) (ns : List Name) → list_any such ns ≡ false → is_listed n ns ≡ true → such n ≡ false
  of_listed n [] e h = cc
  of_listed n (m ∷ ns) e h =
      listed_case n m ns (same m n) refl e (of_listed n ns (second_false (such m) (list_any such ns) e)) h

-- ---- what stands above a class

module _ (p : Look) (present : (n : Name) → is_super_missing p n ≡ false) where
  walked : (k : ℕ) (a : Name) → is_none (p a) ≡ false → list_any (λ n. is_none (p n)) (supers_within k p a) ≡ false
  walked zero a e = both_false (is_none (p a)) false e refl
  walked (suc k) a e =
      both_false (is_none (p a)) (list_any (λ n. is_none (p n)) (concat_over (supers_within k p) (parents_of (p a)))) e
      (over_all (λ n. is_none (p n)) (supers_within k p) (walked k) (parents_of (p a))
      (second_false (lacks_superclass a (p a)) (list_any (λ n. is_none (p n)) (parents_of (p a))) (present a)))

  above_there : (a b : Name) → is_none (p a) ≡ false → is_none (p b) ≡ true → is_subtype p a b ≡ false
  unfolding supers
  above_there a b there gone = by_answer (is_subtype p a b) refl
    where
      by_answer : (c : Bool) → c ≡ is_subtype p a b → c ≡ false
      by_answer false e = refl
      by_answer true e = absurd (let q : false ≡ true = sym (of_listed (λ n. is_none (p n)) b (supers_within 4294967296 p a) (walked 4294967296 a there) (sym e)) ∙ gone in cc)

there : (p : List Info) (n : Name) (i : ℕ) → number_of p n ≡ Some i → is_none (look p n) ≡ false
there p n i e =
    let l = slice_get_within (names p) i n (number_place p n i e) in
    let g = get_inside p i (omega (arith, l, length-map p (λ x. x.name))) in
    ap (λ o. is_none (option_and_then (class_at p) o)) e ∙ ap (λ o. is_none (option_map class_of o)) g.1

gone : (p : List Info) (n : Name) → number_of p n ≡ None → is_none (look p n) ≡ true
gone p n e = ap (λ o. is_none (option_and_then (class_at p) o)) e

-- A program in which no super is missing is closed.
pub closed : (p : List Info) → ((n : Name) → is_super_missing (look p) n ≡ false) → IsClosed p
closed p present m n i e f = above_there (look p) present m n (there p m i e) (gone p n f)
