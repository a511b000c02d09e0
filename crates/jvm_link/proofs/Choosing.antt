-- What is chosen from the methods of superinterfaces.
use Rattle.std.proofs.Common.{◌≡◌, ◌∙◌, sym, refl, ap, subst, ℕ, zero, suc, ◌+◌, ◌<◌, ◌≤◌, Bool, true, false, cond, List, [], ◌∷◌, ◌++◌, length, take, Option, None, Some, slice_get, arith, append_assoc}
use Rattle.std.specs.Prelude.{◌||◌, if◌then◌else◌}
use Rattle.std.specs.List.{filter, list_any}
use Rattle.program_rules.specs.Names.{Name}
use Rattle.program_rules.specs.Outlines.{Head, head_in, is_interface_class, is_abstractly}
use Rattle.program_rules.specs.Resolution.{MethodAt, method_at, with_node, declared_method, Candidate, candidate_with, is_below, most_specific, is_concrete, most_specific_concrete}
use Rattle.class_link.specs.Info.{Info}
use Rattle.class_table.specs.Table.{look, name_at}
use Rattle.jvm_marks.specs.Marks.{is_among}
use Rattle.class_family.specs.Above.{is_above, is_above_any, AreWithin, AreAbove}
use Rattle.class_family.proofs.Searches.{filter_both}
use Rattle.class_family.proofs.Pushing.{append_nil}
use Rattle.class_family.proofs.Several.{taken_next, taken_all}
use Rattle.jvm_link.specs.declared.site.Site.{Site}
use Rattle.jvm_link.specs.declared.interfaces.Specific.{Specific}
use Rattle.jvm_link.specs.declared.interfaces.Choice.{Choice}
use Rattle.jvm_link.specs.Sites.{outline_at, node_at, DeclaresMethod}
use Rattle.jvm_link.specs.Candidates.{own_candidate, candidates_of, candidate_at, can_choose, IsCandidate, is_given, if_given, AreGiving, own_specific, specific_of, IsOne, IsOneAtMost, AreSeveral, IsSpecific, IsFirst, IsFirstOf, IsChoice}

both_none : (b : Bool) (none : List Candidate) → (if b then none else none) ≡ none
both_none true none = refl
both_none false none = refl

module _ (p : List Info) (name desc : Name) where
  -- ---- the method of one class

  chosen_by : (a : ℕ) (m : MethodAt) → can_choose m.flags ≡ true → candidate_with (node_at p a) (Some m) ≡ record { method = m; supers = (node_at p a).supers } ∷ []
  chosen_by a m e = ap (λ b. if b then record { method = m; supers = (node_at p a).supers } ∷ [] else []) e

  pub candidate_here : (a place : ℕ) (flags : ℕ) → is_interface_class (outline_at p a) ≡ true → (h : DeclaresMethod p a name desc place) → flags ≡ h.head.flags → can_choose flags ≡ true → IsCandidate p name desc a place
  candidate_here a place flags interface h e choose = record {
    head = h.head;
    there = h.within;
    own =
        ap (λ b. if b then candidate_with (node_at p a) (declared_method name desc (node_at p a)) else []) interface
        ∙ ap (λ o. candidate_with (node_at p a) (with_node (node_at p a) o)) h.there
        ∙ chosen_by a (method_at (node_at p a) (place, h.head)) (ap can_choose (sym e) ∙ choose);
  }

  pub no_interface : (a : ℕ) → is_interface_class (outline_at p a) ≡ false → own_candidate p name desc a ≡ []
  no_interface a e = ap (λ b. if b then candidate_with (node_at p a) (declared_method name desc (node_at p a)) else []) e

  pub no_method : (a : ℕ) → head_in name desc (outline_at p a) ≡ None → own_candidate p name desc a ≡ []
  no_method a e = ap (λ o. if is_interface_class (outline_at p a) then candidate_with (node_at p a) (with_node (node_at p a) o) else []) e ∙ by_test (is_interface_class (outline_at p a))
    where
      by_test : (b : Bool) → (if b then candidate_with (node_at p a) (with_node (node_at p a) None) else []) ≡ []
      by_test true = refl
      by_test false = refl

  pub no_choice : (a place flags : ℕ) (h : DeclaresMethod p a name desc place) → flags ≡ h.head.flags → can_choose flags ≡ false → own_candidate p name desc a ≡ []
  no_choice a place flags h e choose =
      ap (λ o. if is_interface_class (outline_at p a) then candidate_with (node_at p a) (with_node (node_at p a) o) else []) h.there
      ∙ ap (λ b. if is_interface_class (outline_at p a) then (if b then record { method = method_at (node_at p a) (place, h.head); supers = (node_at p a).supers } ∷ [] else []) else []) (ap can_choose (sym e) ∙ choose)
      ∙ both_none (is_interface_class (outline_at p a)) []

  -- ---- the classes that give one

  pub given_here : (a place : ℕ) → IsCandidate p name desc a place → a ∷ [] ≡ if_given p name desc a
  given_here a place h = sym (ap (λ cs. if is_given cs then a ∷ [] else []) h.own)

  pub given_none : (a : ℕ) → own_candidate p name desc a ≡ [] → [] ≡ if_given p name desc a
  given_none a e = sym (ap (λ cs. if is_given cs then a ∷ [] else []) e)

  both_of : (xs ys : List ℕ) → candidates_of p name desc (xs ++ ys) ≡ candidates_of p name desc xs ++ candidates_of p name desc ys
  both_of [] ys = refl
  both_of (x ∷ xs) ys = ap (λ l. own_candidate p name desc x ++ l) (both_of xs ys) ∙ sym (append_assoc (own_candidate p name desc x) (candidates_of p name desc xs) (candidates_of p name desc ys))

  pub nothing_given : AreGiving p name desc [] []
  nothing_given = record { within = λ k b e. absurd cc; given = λ k b e. absurd cc; all = refl }

  end_has : (P : ℕ → Type 0) (a : ℕ) (ns : List ℕ) → P a → ((k b : ℕ) → slice_get ns k ≡ Some b → P b) → (k b : ℕ) → slice_get (ns ++ a ∷ []) k ≡ Some b → P b
  end_has P a [] h all zero b e = let s : a ≡ b = cc in subst P s h
  end_has P a [] h all (suc k) b e = absurd cc
  end_has P a (n ∷ ns) h all zero b e = all 0 b e
  end_has P a (n ∷ ns) h all (suc k) b e = end_has P a ns h (λ j c l. all (suc j) c l) k b e

  none_given : (cs : List Candidate) → is_given cs ≡ false → cs ≡ []
  none_given [] e = refl
  none_given (c ∷ cs) e = absurd cc

  more_given : (ids found : List ℕ) (a : ℕ) → a < length p → AreGiving p name desc ids found → AreGiving p name desc (ids ++ a ∷ []) (found ++ if_given p name desc a)
  more_given ids found a lt h = by_test (is_given (own_candidate p name desc a)) refl
    where
      with_end : candidates_of p name desc (ids ++ a ∷ []) ≡ candidates_of p name desc found ++ (own_candidate p name desc a ++ [])
      with_end = both_of ids (a ∷ []) ∙ ap (λ l. l ++ (own_candidate p name desc a ++ [])) (sym h.all)

      by_test : (b : Bool) → is_given (own_candidate p name desc a) ≡ b → AreGiving p name desc (ids ++ a ∷ []) (found ++ (if b then a ∷ [] else []))
      by_test true e = record {
        within = end_has (λ b. b < length p) a found lt h.within;
        given = end_has (λ b. is_given (own_candidate p name desc b) ≡ true) a found e h.given;
        all = both_of found (a ∷ []) ∙ sym with_end;
      }
      by_test false e = record {
        within = λ k b l. h.within k b (subst (λ ns. slice_get ns k ≡ Some b) (append_nil found) l);
        given = λ k b l. h.given k b (subst (λ ns. slice_get ns k ≡ Some b) (append_nil found) l);
        all =
            both_of found []
            ∙ ap (λ l. candidates_of p name desc found ++ (l ++ [])) (sym (none_given (own_candidate p name desc a) e))
            ∙ sym with_end;
      }

  pub next_given : (ids old new : List ℕ) (i j a : ℕ) → j ≡ i + 1 → AreWithin p ids → slice_get ids i ≡ Some a → AreGiving p name desc (take i ids) old → new ≡ old ++ if_given p name desc a → AreGiving p name desc (take j ids) new
  next_given ids old new i j a next within there h e =
      let s : suc i ≡ j = omega (arith, next) in
      subst (AreGiving p name desc (take j ids)) (sym e)
      (subst (λ k. AreGiving p name desc (take k ids) (old ++ if_given p name desc a)) s
      (subst (λ l. AreGiving p name desc l (old ++ if_given p name desc a)) (sym (taken_next ids i a there)) (more_given (take i ids) old a (within i a there) h)))

  pub all_given : (ids found : List ℕ) (i : ℕ) → length ids ≤ i → AreGiving p name desc (take i ids) found → AreGiving p name desc ids found
  all_given ids found i le h = subst (λ l. AreGiving p name desc l found) (taken_all ids i le) h

  -- ---- the maximally-specific ones

  abbrev GivenIs : ℕ → Type 0
  GivenIs a = (place : ℕ) × (h : Head) × (own_candidate p name desc a ≡ candidate_at p a place h ∷ [])

  given_is : (a : ℕ) → is_given (own_candidate p name desc a) ≡ true → GivenIs a
  given_is a e = by_kind (is_interface_class (outline_at p a)) refl (head_in name desc (outline_at p a)) refl e
    where
      by_kind : (b : Bool) → is_interface_class (outline_at p a) ≡ b → (o : Option (ℕ × Head)) → head_in name desc (outline_at p a) ≡ o → is_given (if b then candidate_with (node_at p a) (with_node (node_at p a) o) else []) ≡ true → GivenIs a
      by_kind false i o d g = absurd cc
      by_kind true i None d g = absurd cc
      by_kind true i (Some h) d g = by_flags (can_choose h.1.flags) refl g
        where
          by_flags : (c : Bool) → can_choose h.1.flags ≡ c → is_given (if c then candidate_at p a h.0 h.1 ∷ [] else []) ≡ true → GivenIs a
          by_flags false f k = absurd cc
          by_flags true f k = (h.0, h.1, ap (λ b. if b then candidate_with (node_at p a) (declared_method name desc (node_at p a)) else []) i ∙ ap (λ o. candidate_with (node_at p a) (with_node (node_at p a) o)) d ∙ chosen_by a (method_at (node_at p a) h) f)

  any_both : (m : MethodAt) (xs ys : List Candidate) → list_any (is_below m) (xs ++ ys) ≡ (list_any (is_below m) xs || list_any (is_below m) ys)
  any_both m [] ys = refl
  any_both m (x ∷ xs) ys = by_test (is_below m x) (any_both m xs ys)
    where
      by_test : (b : Bool) → list_any (is_below m) (xs ++ ys) ≡ (list_any (is_below m) xs || list_any (is_below m) ys) → (b || list_any (is_below m) (xs ++ ys)) ≡ ((b || list_any (is_below m) xs) || list_any (is_below m) ys)
      by_test true rest = refl
      by_test false rest = rest

  or_none : (b : Bool) → (b || false) ≡ b
  or_none true = refl
  or_none false = refl

  below_any : (m : MethodAt) (ids : List ℕ) → ((k b : ℕ) → slice_get ids k ≡ Some b → is_given (own_candidate p name desc b) ≡ true) → list_any (is_below m) (candidates_of p name desc ids) ≡ is_above_any p ids m.class
  below_any m [] given = refl
  below_any m (a ∷ ids) given =
      let own = given_is a (given 0 a refl) in
      any_both m (own_candidate p name desc a) (candidates_of p name desc ids)
      ∙ ap (λ cs. list_any (is_below m) cs || list_any (is_below m) (candidates_of p name desc ids)) own.2
      ∙ ap (λ b. b || list_any (is_below m) (candidates_of p name desc ids)) (or_none (is_above (look p) (name_at p a) m.class))
      ∙ ap (λ b. is_above (look p) (name_at p a) m.class || b) (below_any m ids (λ k b e. given (suc k) b e))

  module _ (found marks : List ℕ) (giving : AreGiving p name desc found found) (above : AreAbove p found marks) where
    abbrev all : List Candidate
    all = candidates_of p name desc found

    own_marked : (a : ℕ) → a < length p → is_given (own_candidate p name desc a) ≡ true → filter is_concrete (most_specific all (own_candidate p name desc a)) ≡ own_specific p name desc marks a
    own_marked a lt given =
        let own = given_is a given in
        ap (λ cs. filter is_concrete (most_specific all cs)) own.2
        ∙ ap (λ b. filter is_concrete (cond (if b then false else true) (candidate_at p a own.0 own.1 ∷ []) [])) (below_any (candidate_at p a own.0 own.1).method found giving.given ∙ sym (above.above a lt))
        ∙ by_test (is_among a marks) own.0 own.1
        ∙ ap (λ cs. if is_among a marks then [] else filter is_concrete cs) (sym own.2)
      where
        by_test : (b : Bool) (place : ℕ) (h : Head) → filter is_concrete (cond (if b then false else true) (candidate_at p a place h ∷ []) []) ≡ (if b then [] else filter is_concrete (candidate_at p a place h ∷ []))
        by_test true place h = refl
        by_test false place h = refl

    specific_by : (ids : List ℕ) → AreWithin p ids → ((k b : ℕ) → slice_get ids k ≡ Some b → is_given (own_candidate p name desc b) ≡ true) → filter is_concrete (most_specific all (candidates_of p name desc ids)) ≡ specific_of p name desc marks ids
    specific_by [] within given = refl
    specific_by (a ∷ ids) within given =
        ap (filter is_concrete) (filter_both (λ c. if list_any (is_below c.method) all then false else true) (own_candidate p name desc a) (candidates_of p name desc ids))
        ∙ filter_both is_concrete (most_specific all (own_candidate p name desc a)) (most_specific all (candidates_of p name desc ids))
        ∙ ap (λ l. l ++ filter is_concrete (most_specific all (candidates_of p name desc ids))) (own_marked a (within 0 a refl) (given 0 a refl))
        ∙ ap (λ l. own_specific p name desc marks a ++ l) (specific_by ids (λ k b e. within (suc k) b e) (λ k b e. given (suc k) b e))

    pub specific_are : most_specific_concrete all ≡ specific_of p name desc marks found
    specific_are = specific_by found giving.within giving.given

  -- the method of a class, unless it is marked or abstract
  pub marked_none : (marks : List ℕ) (a : ℕ) → is_among a marks ≡ true → own_specific p name desc marks a ≡ []
  marked_none marks a e = ap (λ b. if b then [] else filter is_concrete (own_candidate p name desc a)) e

  pub given_no : (marks : List ℕ) (a : ℕ) → own_candidate p name desc a ≡ [] → own_specific p name desc marks a ≡ []
  given_no marks a e = ap (λ cs. if is_among a marks then [] else filter is_concrete cs) e ∙ both_none (is_among a marks) []

  concrete_by : (a place : ℕ) (h : Head) (b : Bool) → is_abstractly h.callable ≡ b → filter is_concrete (candidate_at p a place h ∷ []) ≡ (if b then [] else candidate_at p a place h ∷ [])
  concrete_by a place h true e = ap (λ b. cond (if b then false else true) (candidate_at p a place h ∷ []) []) e
  concrete_by a place h false e = ap (λ b. cond (if b then false else true) (candidate_at p a place h ∷ []) []) e

  pub abstract_none : (marks : List ℕ) (a place : ℕ) (c : IsCandidate p name desc a place) → is_abstractly c.head.callable ≡ true → own_specific p name desc marks a ≡ []
  abstract_none marks a place c e =
      ap (λ cs. if is_among a marks then [] else filter is_concrete cs) c.own
      ∙ ap (λ cs. if is_among a marks then [] else cs) (concrete_by a place c.head true e) ∙ both_none (is_among a marks) []

  pub specific_here : (marks : List ℕ) (s : Site) (c : IsCandidate p name desc s.class.0 s.place) → s.class.0 < length p → is_among s.class.0 marks ≡ false → is_abstractly c.head.callable ≡ false → IsOne p (own_specific p name desc marks s.class.0) s
  specific_here marks s c lt mark e = record {
    candidate = candidate_at p s.class.0 s.place c.head;
    list =
        ap (λ b. if b then [] else filter is_concrete (own_candidate p name desc s.class.0)) mark
        ∙ ap (filter is_concrete) c.own ∙ concrete_by s.class.0 s.place c.head false e;
    method = record { within = lt; head = c.head; there = c.there; found = refl };
  }

  both_specific : (marks xs ys : List ℕ) → specific_of p name desc marks (xs ++ ys) ≡ specific_of p name desc marks xs ++ specific_of p name desc marks ys
  both_specific marks [] ys = refl
  both_specific marks (x ∷ xs) ys = ap (λ l. own_specific p name desc marks x ++ l) (both_specific marks xs ys) ∙ sym (append_assoc (own_specific p name desc marks x) (specific_of p name desc marks xs) (specific_of p name desc marks ys))

  pub next_specific : (marks ids : List ℕ) (i j a : ℕ) (old new : Specific) (o : Option Site) → j ≡ i + 1 → slice_get ids i ≡ Some a → IsSpecific p (specific_of p name desc marks (take i ids)) old → IsOneAtMost p (own_specific p name desc marks a) o → ((q : List Info) (cs ds : List Candidate) → IsSpecific q cs old → IsOneAtMost q ds o → IsSpecific q (cs ++ ds) new) → IsSpecific p (specific_of p name desc marks (take j ids)) new
  next_specific marks ids i j a old new o next there h one adds =
      let s : suc i ≡ j = omega (arith, next) in
      let ends : specific_of p name desc marks (take j ids) ≡ specific_of p name desc marks (take i ids) ++ own_specific p name desc marks a =
      ap (λ k. specific_of p name desc marks (take k ids)) (sym s) ∙ ap (specific_of p name desc marks) (taken_next ids i a there)
      ∙ both_specific marks (take i ids) (a ∷ []) ∙ ap (λ l. specific_of p name desc marks (take i ids) ++ l) (append_nil (own_specific p name desc marks a)) in
      subst (λ cs. IsSpecific p cs new) (sym ends) (adds p (specific_of p name desc marks (take i ids)) (own_specific p name desc marks a) h one)

  pub all_specific : (marks ids : List ℕ) (i : ℕ) (s : Specific) → length ids ≤ i → IsSpecific p (specific_of p name desc marks (take i ids)) s → IsSpecific p (specific_of p name desc marks ids) s
  all_specific marks ids i s le h = subst (λ l. IsSpecific p (specific_of p name desc marks l) s) (taken_all ids i le) h

  -- ---- the first one

  pub first_none : (ids : List ℕ) → length ids ≡ 0 → candidates_of p name desc ids ≡ []
  first_none [] e = refl
  first_none (a ∷ ids) e = absurd (omega (arith, e))

  pub first_given : (ids : List ℕ) (a : ℕ) → AreGiving p name desc ids ids → slice_get ids 0 ≡ Some a → own_candidate p name desc a ≡ [] → ⊥
  first_given ids a h there e = let t = h.given 0 a there in let f : is_given (own_candidate p name desc a) ≡ false = ap is_given e in absurd cc

  pub first_here : (ids : List ℕ) (s : Site) → slice_get ids 0 ≡ Some s.class.0 → s.class.0 < length p → (c : IsCandidate p name desc s.class.0 s.place) → IsFirst p (candidates_of p name desc ids) s
  first_here [] s there lt c = absurd cc
  first_here (a ∷ ids) s there lt c =
      let e : a ≡ s.class.0 = cc in
      record {
        candidate = candidate_at p s.class.0 s.place c.head;
        rest = candidates_of p name desc ids;
        list = ap (λ x. own_candidate p name desc x ++ candidates_of p name desc ids) e ∙ ap (λ cs. cs ++ candidates_of p name desc ids) c.own;
        method = record { within = lt; head = c.head; there = c.there; found = refl };
      }

  pub itself_giving : (ids found : List ℕ) → AreGiving p name desc ids found → AreGiving p name desc found found
  itself_giving ids found h = record { within = h.within; given = h.given; all = refl }

  pub choice_of : (ids found marks : List ℕ) (c : Choice) → AreGiving p name desc ids found → AreAbove p found marks → IsSpecific p (specific_of p name desc marks found) c.specific → IsFirstOf p (candidates_of p name desc found) c.first → IsChoice p (candidates_of p name desc ids) c
  choice_of ids found marks c giving above specific first = subst (λ cs. IsChoice p cs c) giving.all (record {
    specific = subst (λ cs. IsSpecific p cs c.specific) (sym (specific_are found marks (itself_giving ids found giving) above)) specific;
    first = first;
  })

-- ---- one more method

pub added_none : (p : List Info) (cs ds : List Candidate) (s : Specific) → IsSpecific p cs s → ds ≡ [] → IsSpecific p (cs ++ ds) s
added_none p cs ds s h e = subst (λ l. IsSpecific p l s) (sym (ap (λ l. cs ++ l) e ∙ append_nil cs)) h

pub added_first : (p : List Info) (cs ds : List Candidate) (site : Site) → cs ≡ [] → IsOne p ds site → IsOne p (cs ++ ds) site
added_first p cs ds site e h = subst (λ l. IsOne p (l ++ ds) site) (sym e) h

pub added_second : (p : List Info) (cs ds : List Candidate) (one two : Site) → IsOne p cs one → IsOne p ds two → AreSeveral (cs ++ ds)
added_second p cs ds one two h g = record {
  first = h.candidate;
  second = g.candidate;
  rest = [];
  list = ap (λ l. l ++ ds) h.list ∙ ap (λ l. h.candidate ∷ l) g.list;
}

pub added_more : (p : List Info) (cs ds : List Candidate) → AreSeveral cs → AreSeveral (cs ++ ds)
added_more p cs ds h = record {
  first = h.first;
  second = h.second;
  rest = h.rest ++ ds;
  list = ap (λ l. l ++ ds) h.list;
}
