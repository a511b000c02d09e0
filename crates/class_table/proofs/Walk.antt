-- The walk over a class and all above it: what is known stays so, and a class that was consulted with all above it changes nothing.
use Rattle.std.proofs.Common.{◌≡◌, ℕ, zero, suc, ◌+◌, ◌-◌, ◌<◌, ◌≤◌, ◌++◌, Bool, true, false, List, [], ◌∷◌, length, Some, slice_get, slice_set, refl, sym, ap, ◌∙◌, subst, arith, nat_eq}
use Rattle.std.specs.Prelude.{◌||◌, nat_lt, if◌then◌else◌}
use Rattle.std.specs.List.{list_any}
use Rattle.std.proofs.lemmas.List.{length-set}
use Rattle.std.proofs.lemmas.Bool.Decides.{nat_tests}
use Rattle.std.proofs.lemmas.Cmp.{nat_list_eq_equiv}
use Rattle.program_rules.specs.Names.{Name, same}
use Rattle.program_rules.specs.Linked.{parents_of, is_library}
use Rattle.program_rules.specs.Programs.{Look, concat_over, supers_within, supers, is_known, consult_one, consult_in}
use Rattle.class_link.specs.Info.{Info}
use Rattle.class_table.specs.Table.{look, name_at}
use Rattle.class_order.specs.Ranks.{HasRanks}
use Rattle.class_table.proofs.Levels.{supers_stable}
use Rattle.class_table.specs.Seen.{Seen, AreKnown, IsConsultedOf}

-- ---- lists of names

module _ (p : Look) where
  abbrev pub Grows : List Name → List Name → Type 0
  Grows ns ms = (n : Name) → is_known p ns n ≡ true → is_known p ms n ≡ true

  or_more : (a b c : Bool) → (b ≡ true → c ≡ true) → a || b ≡ true → a || c ≡ true
  or_more true b c h k = refl
  or_more false b c h k = h k

  or_right : (a b : Bool) → b ≡ true → a || b ≡ true
  or_right true b h = refl
  or_right false b h = h

  listed_more : (n m : Name) (ns : List Name) → list_any (λ k. same k n) ns ≡ true → list_any (λ k. same k n) (ns ++ m ∷ []) ≡ true
  listed_more n m [] h = cc
  listed_more n m (k ∷ ns) h = grind (arith, nat_tests, listed_more n m ns)

  listed_last : (n : Name) (ns : List Name) → list_any (λ k. same k n) (ns ++ n ∷ []) ≡ true
  listed_last n [] = grind (arith, nat_tests, nat_list_eq_equiv.refl n)
  listed_last n (k ∷ ns) = grind (arith, nat_tests, listed_last n ns)

  grows_case : (m : Name) (ns : List Name) (b : Bool) → Grows ns (if b then ns else ns ++ m ∷ [])
  grows_case m ns true n h = h
  grows_case m ns false n h = or_more (is_library (p n)) _ _ (listed_more n m ns) h

  pub grows_one : (m : Name) (ns : List Name) → Grows ns (consult_one p m ns)
  grows_one m ns = grows_case m ns (is_known p ns m)

  one_case : (m : Name) (ns : List Name) (b : Bool) → b ≡ is_known p ns m → is_known p (if b then ns else ns ++ m ∷ []) m ≡ true
  one_case m ns true e = sym e
  one_case m ns false e = or_right (is_library (p m)) _ (listed_last m ns)

  pub grows_in : (ms ns : List Name) → Grows ns (consult_in p ms ns)
  grows_in [] ns n h = h
  grows_in (m ∷ ms) ns n h = grows_in ms (consult_one p m ns) n (grows_one m ns n h)

  pub known_in : (ms ns : List Name) → AreKnown p (consult_in p ms ns) ms
  known_in [] ns = tt
  known_in (m ∷ ms) ns = (grows_in ms (consult_one p m ns) m (one_case m ns (is_known p ns m) refl), known_in ms (consult_one p m ns))

  pub known_more : (ns ms xs : List Name) → Grows ns ms → AreKnown p ns xs → AreKnown p ms xs
  known_more ns ms [] g h = tt
  known_more ns ms (x ∷ xs) g h = (g x h.0, known_more ns ms xs g h.1)

  -- Where all is known, nothing is added.
  pub known_already : (ms ns : List Name) → AreKnown p ns ms → consult_in p ms ns ≡ ns
  known_already [] ns h = refl
  known_already (m ∷ ms) ns h =
      let one : consult_one p m ns ≡ ns = ap (λ b. if b then ns else ns ++ m ∷ []) h.0 in
      ap (consult_in p ms) one ∙ known_already ms ns h.1

  pub consult_both : (xs ys ns : List Name) → consult_in p (xs ++ ys) ns ≡ consult_in p ys (consult_in p xs ns)
  consult_both [] ys ns = refl
  consult_both (x ∷ xs) ys ns = consult_both xs ys (consult_one p x ns)

  known_front : (ns xs ys : List Name) → AreKnown p ns (xs ++ ys) → AreKnown p ns xs
  known_front ns [] ys h = tt
  known_front ns (x ∷ xs) ys h = (h.0, known_front ns xs ys h.1)

  known_back : (ns xs ys : List Name) → AreKnown p ns (xs ++ ys) → AreKnown p ns ys
  known_back ns [] ys h = h
  known_back ns (x ∷ xs) ys h = known_back ns xs ys h.1

  known_both : (ns xs ys : List Name) → AreKnown p ns xs → AreKnown p ns ys → AreKnown p ns (xs ++ ys)
  known_both ns [] ys h k = k
  known_both ns (x ∷ xs) ys h k = (h.0, known_both ns xs ys h.1 k)

  -- ---- levels

  lower_joined : (ns : List Name) (f g : Name → List Name) → ((n : Name) → AreKnown p ns (f n) → AreKnown p ns (g n)) → (ms : List Name) → AreKnown p ns (concat_over f ms) → AreKnown p ns (concat_over g ms)
  lower_joined ns f g h [] k = tt
  lower_joined ns f g h (m ∷ ms) k = known_both ns (g m) (concat_over g ms) (h m (known_front ns (f m) (concat_over f ms) k)) (lower_joined ns f g h ms (known_back ns (f m) (concat_over f ms) k))

  lower_one : (ns : List Name) (k : ℕ) (n : Name) → AreKnown p ns (supers_within (suc k) p n) → AreKnown p ns (supers_within k p n)
  lower_one ns zero n h = (h.0, tt)
  lower_one ns (suc k) n h = (h.0, lower_joined ns (supers_within (suc k) p) (supers_within k p) (λ m. lower_one ns k m) (parents_of (p n)) h.1)

  lower_by : (ns : List Name) (d k : ℕ) (n : Name) → AreKnown p ns (supers_within (k + d) p n) → AreKnown p ns (supers_within k p n)
  lower_by ns zero k n h = subst (λ j. AreKnown p ns (supers_within j p n)) (let e : k + 0 ≡ k = omega arith in e) h
  lower_by ns (suc d) k n h = lower_by ns d k n (lower_one ns (k + d) n (subst (λ j. AreKnown p ns (supers_within j p n)) (let e : k + suc d ≡ suc (k + d) = omega arith in e) h))

-- ---- marks

pub kept_grown : (p : List Info) (old new : Seen) → IsConsultedOf p old → new.marks ≡ old.marks → Grows (look p) old.names new.names → IsConsultedOf p new
kept_grown p old new h marks grows = record {
  long = ap length marks ∙ h.long;
  marked = λ i levels e. known_more (look p) old.names new.names _ grows (h.marked i levels (ap (λ l. slice_get l i) (sym marks) ∙ e));
}

set_other : (bs : List Bool) (i k : ℕ) → slice_get (slice_set bs k true) i ≡ Some true → ((i ≡ k) → ⊥) → slice_get bs i ≡ Some true
set_other [] i k e apart = e
set_other (b ∷ bs) zero zero e apart = absurd (apart refl)
set_other (b ∷ bs) zero (suc k) e apart = e
set_other (b ∷ bs) (suc i) zero e apart = e
set_other (b ∷ bs) (suc i) (suc k) e apart = set_other bs i k e (λ s. apart (ap suc s))

marked_case : (p : List Info) (c : Seen) (k i levels : ℕ) (b : Bool) → nat_eq i k ≡ b → IsConsultedOf p c → ((levels : ℕ) → AreKnown (look p) c.names (supers_within levels (look p) (name_at p k))) → slice_get (slice_set c.marks k true) i ≡ Some true → AreKnown (look p) c.names (supers_within levels (look p) (name_at p i))
marked_case p c k i levels true e h walked there = let s : i ≡ k = grind arith in subst (λ j. AreKnown (look p) c.names (supers_within levels (look p) (name_at p j))) (sym s) (walked levels)
marked_case p c k i levels false e h walked there = h.marked i levels (set_other c.marks i k there (λ s. let t : nat_eq i k ≡ true = grind (arith, s) in absurd cc))

pub kept_marked : (p : List Info) (old new : Seen) (k : ℕ) → IsConsultedOf p old → new.names ≡ old.names → new.marks ≡ slice_set old.marks k true → ((levels : ℕ) → AreKnown (look p) old.names (supers_within levels (look p) (name_at p k))) → IsConsultedOf p new
kept_marked p old new k h names marks walked = record {
  long = ap length marks ∙ length-set old.marks k true ∙ h.long;
  marked = λ i levels e. subst (λ ns. AreKnown (look p) ns (supers_within levels (look p) (name_at p i))) (sym names) (marked_case p old k i levels (nat_eq i k) refl h walked (ap (λ l. slice_get l i) (sym marks) ∙ e));
}

pub kept_one : (p : List Info) (old new : Seen) (n : Name) → IsConsultedOf p old → new.names ≡ consult_one (look p) n old.names → new.marks ≡ old.marks → IsConsultedOf p new
kept_one p old new n h names marks = kept_grown p old new h marks (subst (Grows (look p) old.names) (sym names) (grows_one (look p) n old.names))

-- What was consulted with all above it is known at each level.
pub known_levels : (p : Look) (ranks : HasRanks p) (ns : List Name) (n : Name) → AreKnown p ns (supers p n) → (k : ℕ) → AreKnown p ns (supers_within k p n)
unfolding supers
known_levels p ranks ns n h k = by_test (nat_lt k 4294967296) refl
  where
    by_test : (b : Bool) → nat_lt k 4294967296 ≡ b → AreKnown p ns (supers_within k p n)
    by_test true e =
        let lt : k < 4294967296 = grind arith in
        let whole : 4294967296 ≡ k + (4294967296 - k) = omega (arith, lt) in
        lower_by p ns (4294967296 - k) k n (subst (λ j. AreKnown p ns (supers_within j p n)) whole h)
    by_test false e =
        let le : 4294967296 ≤ k = grind arith in
        let few = ranks.few n in
        subst (AreKnown p ns) (sym (supers_stable p ranks n k (omega (arith, le, few)))) h
