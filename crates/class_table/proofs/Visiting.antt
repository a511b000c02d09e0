-- A walk over a class and all above it: each task that is made leaves what all tasks consult as it was.
use Rattle.std.proofs.Common.{◌≡◌, ◌∙◌, sym, refl, ap, subst, ℕ, suc, ◌+◌, ◌<◌, true, List, [], ◌∷◌, ◌++◌, length, length-append, map, Option, None, Some, slice_get, arith, append_assoc}
use Rattle.std.specs.Option.{option_to_list}
use Rattle.program_rules.specs.Names.{Name, is_listed}
use Rattle.program_rules.specs.Linked.{parents_of}
use Rattle.program_rules.specs.Programs.{concat_over, supers_within, supers, consult_one, consult_in, consulted_with}
use Rattle.class_link.specs.Info.{Info, class_of}
use Rattle.class_order.specs.declared.links.Links.{Links}
use Rattle.class_order.specs.Graph.{supers_of, supers_in, supers_at}
use Rattle.class_order.proofs.Within.{or_first, or_second, same_itself}
use Rattle.class_table.specs.declared.tasks.Task.{Task}
use Rattle.class_table.specs.declared.tasks.Task.TheVariants.{Visit, Close}
use Rattle.class_table.specs.declared.supers.Supers.{Supers}
use Rattle.class_table.specs.Seen.{Seen, AreKnown, IsConsultedOf}
use Rattle.class_table.specs.Supers.{numbers_known, AreSupers}
use Rattle.class_table.specs.Table.{number_of, look, name_at, AreLinksOf, IsProgram}
use Rattle.class_table.specs.Walked.{visits_of, names_of_task, wanted, IsTask, AreTasks, weight, Visits, passes, enters, Makes}
use Rattle.class_table.proofs.Levels.{supers_step}
use Rattle.class_table.proofs.Places.{number_named, look_at, none_past}
use Rattle.class_table.proofs.Verdicts.{supers_known, super_number, step_named}
use Rattle.class_table.proofs.Walk.{known_in, known_already, consult_both, known_levels}

pub append_nil : {A : Type 0} (xs : List A) → xs ++ [] ≡ xs
append_nil [] = refl
append_nil (x ∷ xs) = ap (λ l. x ∷ l) (append_nil xs)

module _ (p : List Info) where
  wanted_both : (xs ys : List Task) → wanted p (xs ++ ys) ≡ wanted p ys ++ wanted p xs
  wanted_both [] ys = sym (append_nil (wanted p ys))
  wanted_both (x ∷ xs) ys = ap (λ l. l ++ names_of_task p x) (wanted_both xs ys) ∙ append_assoc (wanted p ys) (wanted p xs) (names_of_task p x)

  weight_both : (xs ys : List Task) → weight p (xs ++ ys) ≡ weight p xs + weight p ys
  weight_both [] ys = omega arith
  weight_both (x ∷ xs) ys = let e = weight_both xs ys in omega (arith, e)

  wanted_visits : (over : List ℕ) → wanted p (visits_of over) ≡ concat_over (supers (look p)) (map (name_at p) over)
  wanted_visits [] = refl
  wanted_visits (a ∷ more) = wanted_both (visits_of more) (Visit a ∷ []) ∙ ap (λ l. supers (look p) (name_at p a) ++ l) (wanted_visits more)

  weight_visits : (over : List ℕ) → weight p (visits_of over) ≡ length (concat_over (supers (look p)) (map (name_at p) over)) + length (concat_over (supers (look p)) (map (name_at p) over))
  weight_visits [] = omega arith
  weight_visits (a ∷ more) =
      let e = weight_both (visits_of more) (Visit a ∷ []) in
      let h = weight_visits more in
      let l = length-append (supers (look p) (name_at p a)) (concat_over (supers (look p)) (map (name_at p) more)) in
      omega (arith, e, h, l)

  -- what all tasks consult, in two steps
  consult_tasks : (xs ys : List Task) (ns : List Name) → consult_in (look p) (wanted p xs) (consult_in (look p) (wanted p ys) ns) ≡ consult_in (look p) (wanted p (xs ++ ys)) ns
  consult_tasks xs ys ns = sym (ap (λ l. consult_in (look p) l ns) (wanted_both xs ys) ∙ consult_both (look p) (wanted p ys) (wanted p xs) ns)

  tasks_both : (xs ys : List Task) (ns : List Name) → AreTasks p (consult_in (look p) (wanted p ys) ns) xs → AreTasks p ns ys → AreTasks p ns (xs ++ ys)
  tasks_both [] ys ns h k = k
  tasks_both (x ∷ xs) ys ns h k = (subst (λ l. IsTask p l x) (consult_tasks xs ys ns) h.0, tasks_both xs ys ns h.1 k)

  tasks_front : (xs ys : List Task) (ns : List Name) → AreTasks p ns (xs ++ ys) → AreTasks p (consult_in (look p) (wanted p ys) ns) xs
  tasks_front [] ys ns h = tt
  tasks_front (x ∷ xs) ys ns h = (subst (λ l. IsTask p l x) (sym (consult_tasks xs ys ns)) h.0, tasks_front xs ys ns h.1)

  tasks_back : (xs ys : List Task) (ns : List Name) → AreTasks p ns (xs ++ ys) → AreTasks p ns ys
  tasks_back [] ys ns h = h
  tasks_back (x ∷ xs) ys ns h = tasks_back xs ys ns h.1

  visits_tasks : (over : List ℕ) (ns : List Name) → ((k b : ℕ) → slice_get over k ≡ Some b → b < length p) → AreTasks p ns (visits_of over)
  visits_tasks [] ns h = tt
  visits_tasks (a ∷ more) ns h = tasks_both (visits_of more) (Visit a ∷ []) ns (visits_tasks more (consult_in (look p) (wanted p (Visit a ∷ [])) ns) (λ k b e. h (suc k) b e)) (h 0 a refl, tt)

  -- the last task
  pub last_task : (ts : List Task) (t : Task) (ns : List Name) → AreTasks p ns (ts ++ t ∷ []) → IsTask p ns t
  last_task ts t ns h = (tasks_back ts (t ∷ []) ns h).0

  -- one visit, as all tasks
  pub one_visit : (a : ℕ) (ns : List Name) → a < length p → AreTasks p ns (Visit a ∷ [])
  one_visit a ns lt = (lt, tt)

  marked_known : (a : ℕ) (c : Seen) → IsConsultedOf p c → slice_get c.marks a ≡ Some true → AreKnown (look p) c.names (supers (look p) (name_at p a))
  unfolding supers
  marked_known a c h e = h.marked a 4294967296 e

  pub marked_is : (a : ℕ) (c : Seen) → IsConsultedOf p c → slice_get c.marks a ≡ Some true → c.names ≡ consulted_with (look p) (name_at p a) c.names
  marked_is a c h e = sym (known_already (look p) (supers (look p) (name_at p a)) c.names (marked_known a c h e))

  pub absent_is : IsProgram p → (n : Name) (ns : List Name) → look p n ≡ None → consult_one (look p) n ns ≡ consulted_with (look p) n ns
  absent_is ok n ns none = sym (ap (λ l. consult_in (look p) l ns) (supers_step (look p) ok.ranks n ∙ ap (λ o. n ∷ concat_over (supers (look p)) (parents_of o)) none))

  module _ (ok : IsProgram p) where
    some_walk : (n : Name) → length (supers (look p) n) ≡ suc (length (concat_over (supers (look p)) (parents_of (look p n))))
    some_walk n = ap length (supers_step (look p) ok.ranks n)

    pub visit_made : (a : ℕ) (ts more : List Task) (old new : Seen) → IsConsultedOf p old → AreTasks p old.names (ts ++ Visit a ∷ []) → Visits p a old ts new more → Makes p (Visit a) old ts new more
    visit_made a ts more old new kept h (passes marked e same) = record {
      tasks = subst (AreTasks p new.names) (sym same) (subst (λ (c : Seen). AreTasks p c.names ts) (sym e) (subst (λ ns. AreTasks p ns ts) stays (tasks_front ts (Visit a ∷ []) old.names h)));
      names =
          ap (λ l. consult_in (look p) (wanted p l) new.names) same ∙ ap (λ (c : Seen). consult_in (look p) (wanted p ts) c.names) e
          ∙ ap (consult_in (look p) (wanted p ts)) (sym stays) ∙ consult_tasks ts (Visit a ∷ []) old.names;
      less =
          let w = weight_both ts (Visit a ∷ []) in
          let s = some_walk (name_at p a) in
          let q : weight p more ≡ weight p ts = ap (weight p) same in
          omega (arith, w, s, q);
    }
      where
        stays : consult_in (look p) (supers (look p) (name_at p a)) old.names ≡ old.names
        stays = known_already (look p) (supers (look p) (name_at p a)) old.names (marked_known a old kept marked)
    visit_made a ts more old new kept h (enters over links names e) = record {
      tasks = subst (AreTasks p new.names) (sym e) (tasks_both (ts ++ Close a ∷ []) (visits_of over) new.names (subst (λ ns. AreTasks p ns (ts ++ Close a ∷ [])) (sym step) behind) (visits_tasks over new.names links.within));
      names =
          ap (λ l. consult_in (look p) (wanted p l) new.names) e ∙ sym (consult_tasks (ts ++ Close a ∷ []) (visits_of over) new.names)
          ∙ ap (λ l. consult_in (look p) l (consult_in (look p) (wanted p (visits_of over)) new.names)) (wanted_both ts (Close a ∷ []))
          ∙ ap (consult_in (look p) (wanted p ts)) step ∙ consult_tasks ts (Visit a ∷ []) old.names;
      less =
          let one = weight_both (ts ++ Close a ∷ []) (visits_of over) in
          let two = weight_both ts (Close a ∷ []) in
          let three = weight_both ts (Visit a ∷ []) in
          let four = weight_visits over in
          let five = some_walk (name_at p a) in
          let six : length (concat_over (supers (look p)) (map (name_at p) over)) ≡ length (concat_over (supers (look p)) (parents_of (look p (name_at p a)))) = ap (λ ns. length (concat_over (supers (look p)) ns)) links.named in
          let q : weight p more ≡ weight p ((ts ++ Close a ∷ []) ++ visits_of over) = ap (weight p) e in
          omega (arith, one, two, three, four, five, six, q);
    }
      where
        step : consult_in (look p) (wanted p (visits_of over)) new.names ≡ consult_in (look p) (supers (look p) (name_at p a)) old.names
        step =
            ap (λ l. consult_in (look p) l new.names) (wanted_visits over ∙ ap (concat_over (supers (look p))) links.named)
            ∙ ap (consult_in (look p) (concat_over (supers (look p)) (parents_of (look p (name_at p a))))) names
            ∙ ap (λ l. consult_in (look p) l old.names) (sym (supers_step (look p) ok.ranks (name_at p a)))

        behind : AreTasks p (consult_in (look p) (supers (look p) (name_at p a)) old.names) (ts ++ Close a ∷ [])
        behind = tasks_both ts (Close a ∷ []) (consult_in (look p) (supers (look p) (name_at p a)) old.names) (tasks_front ts (Visit a ∷ []) old.names h) ((last_task ts (Visit a) old.names h, known_in (look p) (supers (look p) (name_at p a)) old.names), tt)

    pub close_made : (a : ℕ) (ts : List Task) (old new : Seen) → AreTasks p old.names (ts ++ Close a ∷ []) → new.names ≡ old.names → Makes p (Close a) old ts new ts
    close_made a ts old new h e = record {
      tasks = subst (λ ns. AreTasks p ns ts) (sym e) (tasks_front ts (Close a ∷ []) old.names h);
      names = ap (consult_in (look p) (wanted p ts)) e ∙ consult_tasks ts (Close a ∷ []) old.names;
      less = (let w = weight_both ts (Close a ∷ []) in omega (arith, w));
    }

    pub close_known : (a : ℕ) (ts : List Task) (ns : List Name) → AreTasks p ns (ts ++ Close a ∷ []) → (k : ℕ) → AreKnown (look p) ns (supers_within k (look p) (name_at p a))
    close_known a ts ns h k = known_levels (look p) ok.ranks ns (name_at p a) (last_task ts (Close a) ns h).1 k

    -- ---- supers by number

    names_known : (ns : List Name) → ((m : Name) → is_listed m ns ≡ true → (b : ℕ) × (number_of p m ≡ Some b)) → map (name_at p) (numbers_known p ns) ≡ ns
    names_known [] h = refl
    names_known (n ∷ ns) h =
        let r = h n (or_first _ (is_listed n ns) (same_itself n)) in
        ap (λ o. map (name_at p) (option_to_list o ++ numbers_known p ns)) r.1 ∙ ap (λ m. m ∷ map (name_at p) (numbers_known p ns)) (number_named p n r.0 r.1) ∙ ap (λ l. n ∷ l) (names_known ns (λ m e. h m (or_second _ (is_listed m ns) e)))

    pub links_of_class : (s : Supers) (a : ℕ) (l : Links) → AreSupers p s → a < length p → slice_get s.links.items a ≡ Some l → AreLinksOf p a (supers_of l)
    links_of_class s a l are lt there = record {
      named = by_class (slice_get p a) refl;
      within = λ k b e. (step_named p ok.distinct s.links.items are.links a k b (subst (λ ns. slice_get ns k ≡ Some b) (sym own) e) lt).1;
    }
      where
        own : supers_at s.links.items a ≡ supers_of l
        own = ap supers_in there

        by_class : (o : Option Info) → slice_get p a ≡ o → map (name_at p) (supers_of l) ≡ parents_of (look p (name_at p a))
        by_class None e = absurd (none_past p a e lt)
        by_class (Some i) e =
            let says : look p (name_at p a) ≡ Some (class_of i) = look_at p a i ok.distinct e in
            ap (map (name_at p)) (sym own ∙ supers_known p s.links.items are.links a i e)
            ∙ names_known (parents_of (Some (class_of i))) (λ m listed. super_number p ok.distinct s.links.items are.links ok.present (name_at p a) m (subst (λ o. is_listed m (parents_of o) ≡ true) (sym says) listed))
            ∙ ap parents_of (sym says)
