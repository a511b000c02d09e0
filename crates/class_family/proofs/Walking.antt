-- A walk over a class and all above it: each task that is made leaves what all tasks find as it
-- was.
use Rattle.std.proofs.Common.{◌≡◌, ◌∙◌, sym, refl, ap, subst, ℕ, zero, suc, ◌+◌, ◌<◌, ◌≤◌, Bool, true, false, List, [], ◌∷◌, ◌++◌, length, length-append, map, Some, slice_get, arith, append_assoc}
use Rattle.program_rules.specs.Names.{Name}
use Rattle.program_rules.specs.Outlines.{outline_of}
use Rattle.program_rules.specs.Programs.{Look, Order, Rising, Searching, Beginning, nodes, concat_over}
use Rattle.class_link.specs.Info.{Info}
use Rattle.class_table.specs.Table.{look, name_at, IsProgram}
use Rattle.class_table.proofs.Walk.{known_in, known_already, consult_both}
use Rattle.jvm_marks.specs.Marks.{is_among}
use Rattle.class_family.specs.declared.seen.Seen.{Seen}
use Rattle.class_family.specs.declared.tasks.Task.{Task}
use Rattle.class_family.specs.declared.tasks.Task.TheVariants.{Enter, Leave}
use Rattle.class_family.specs.Families.{names_in, classes_of, AreClassesOf}
use Rattle.class_family.specs.Walks.{before, behind, steps, enters_of, walk, names_of_task, wanted, nobody, add_in, AreThere, IsTask, AreTasks, weight_of, weight, names_of, IsSeen, AddsSteps, walks, Enters, passes, enters, Leaves, Makes}
use Rattle.class_family.proofs.Pushing.{append_nil}
use Rattle.class_family.proofs.Levels.{walk_step}
use Rattle.class_family.proofs.Onces.{add_all}

one_more : (order : Order) (n : Name) → length (before order n) + length (behind order n) ≡ 1
one_more Rising n = refl
one_more Searching n = refl
one_more Beginning n = refl

module _ (order : Order) (p : List Info) where
  wanted_both : (xs ys : List Task) → wanted order p (xs ++ ys) ≡ wanted order p ys ++ wanted order p xs
  wanted_both [] ys = sym (append_nil (wanted order p ys))
  wanted_both (x ∷ xs) ys = ap (λ l. l ++ names_of_task order p x) (wanted_both xs ys) ∙ append_assoc (wanted order p ys) (wanted order p xs) (names_of_task order p x)

  weight_both : (xs ys : List Task) → weight order p (xs ++ ys) ≡ weight order p xs + weight order p ys
  weight_both [] ys = omega arith
  weight_both (x ∷ xs) ys = let e = weight_both xs ys in omega (arith, e)

  pub wanted_enters : (over : List ℕ) → wanted order p (enters_of over) ≡ walks order p (map (name_at p) over)
  wanted_enters [] = refl
  wanted_enters (a ∷ more) = wanted_both (enters_of more) (Enter a ∷ []) ∙ ap (λ l. walk order p a ++ l) (wanted_enters more)

  weight_enters : (over : List ℕ) → weight order p (enters_of over) ≡ length (walks order p (map (name_at p) over)) + length (walks order p (map (name_at p) over))
  weight_enters [] = omega arith
  weight_enters (a ∷ more) =
      let e = weight_both (enters_of more) (Enter a ∷ []) in
      let h = weight_enters more in
      let l = length-append (walk order p a) (walks order p (map (name_at p) more)) in
      omega (arith, e, h, l)

  -- what all tasks find, in two steps
  add_tasks : (xs ys : List Task) (ns : List Name) → add_in (wanted order p xs) (add_in (wanted order p ys) ns) ≡ add_in (wanted order p (xs ++ ys)) ns
  add_tasks xs ys ns = sym (ap (λ l. add_in l ns) (wanted_both xs ys) ∙ consult_both nobody (wanted order p ys) (wanted order p xs) ns)

  tasks_both : (xs ys : List Task) (ns : List Name) → AreTasks order p (add_in (wanted order p ys) ns) xs → AreTasks order p ns ys → AreTasks order p ns (xs ++ ys)
  tasks_both [] ys ns h k = k
  tasks_both (x ∷ xs) ys ns h k = (subst (λ l. IsTask order p l x) (add_tasks xs ys ns) h.0, tasks_both xs ys ns h.1 k)

  tasks_front : (xs ys : List Task) (ns : List Name) → AreTasks order p ns (xs ++ ys) → AreTasks order p (add_in (wanted order p ys) ns) xs
  tasks_front [] ys ns h = tt
  tasks_front (x ∷ xs) ys ns h = (subst (λ l. IsTask order p l x) (sym (add_tasks xs ys ns)) h.0, tasks_front xs ys ns h.1)

  tasks_back : (xs ys : List Task) (ns : List Name) → AreTasks order p ns (xs ++ ys) → AreTasks order p ns ys
  tasks_back [] ys ns h = h
  tasks_back (x ∷ xs) ys ns h = tasks_back xs ys ns h.1

  pub enters_tasks : (over : List ℕ) (ns : List Name) → ((k b : ℕ) → slice_get over k ≡ Some b → b < length p) → AreTasks order p ns (enters_of over)
  enters_tasks [] ns h = tt
  enters_tasks (a ∷ more) ns h = tasks_both (enters_of more) (Enter a ∷ []) ns (enters_tasks more (add_in (wanted order p (Enter a ∷ [])) ns) (λ k b e. h (suc k) b e)) (h 0 a refl, tt)

  -- the last task
  pub last_task : (ts : List Task) (t : Task) (ns : List Name) → AreTasks order p ns (ts ++ t ∷ []) → IsTask order p ns t
  last_task ts t ns h = (tasks_back ts (t ∷ []) ns h).0

  pub all_found : (a : ℕ) (old new : Seen) → old.found ≡ [] → names_of p new ≡ add_in (wanted order p (Enter a ∷ [])) (names_of p old) → IsSeen order p new → AreClassesOf order p a new.found
  all_found a old new none names seen = record {
    named = names ∙ ap (λ l. add_in (walk order p a) (map (name_at p) l)) none ∙ add_all (walk order p a);
    within = seen.within;
  }

  module _ (ok : IsProgram p) where
    -- what stands between
    abbrev middle : ℕ → List Name
    middle a = walks order p (steps order (outline_of (look p (name_at p a))))

    whole : (a : ℕ) → walk order p a ≡ before order (name_at p a) ++ (middle a ++ behind order (name_at p a))
    whole a = walk_step (look p) ok.ranks order (name_at p a)

    long : (a : ℕ) → length (walk order p a) ≡ suc (length (middle a))
    long a =
        let w = ap length (whole a) in
        let x = length-append (before order (name_at p a)) (middle a ++ behind order (name_at p a)) in
        let y = length-append (middle a) (behind order (name_at p a)) in
        let z = one_more order (name_at p a) in
        omega (arith, w, x, y, z)

    pub enter_made : (a : ℕ) (ts more : List Task) (old new : Seen) → IsSeen order p old → AreTasks order p (names_of p old) (ts ++ Enter a ∷ []) → Enters order p a old ts new more → Makes order p (Enter a) old ts new more
    enter_made a ts more old new seen h (passes closed e same) = record {
      tasks = subst (AreTasks order p (names_of p new)) (sym same) (subst (λ (s : Seen). AreTasks order p (names_of p s) ts) (sym e) (subst (λ ns. AreTasks order p ns ts) stays (tasks_front ts (Enter a ∷ []) (names_of p old) h)));
      names =
          ap (λ l. add_in (wanted order p l) (names_of p new)) same ∙ ap (λ (s : Seen). add_in (wanted order p ts) (names_of p s)) e
          ∙ ap (add_in (wanted order p ts)) (sym stays) ∙ add_tasks ts (Enter a ∷ []) (names_of p old);
      less =
          let w = weight_both ts (Enter a ∷ []) in
          let s = long a in
          let q : weight order p more ≡ weight order p ts = ap (weight order p) same in
          omega (arith, w, s, q);
    }
      where
        stays : add_in (walk order p a) (names_of p old) ≡ names_of p old
        stays = known_already nobody (walk order p a) (names_of p old) (seen.closed a closed)
    enter_made a ts more old new seen h (enters closed names adds) = record {
      tasks = subst (AreTasks order p (names_of p new)) (sym adds.tasks) (tasks_both (ts ++ Leave a ∷ []) (enters_of adds.over) (names_of p new) left (enters_tasks adds.over (names_of p new) adds.within));
      names =
          ap (λ l. add_in (wanted order p l) (names_of p new)) adds.tasks ∙ sym (add_tasks (ts ++ Leave a ∷ []) (enters_of adds.over) (names_of p new))
          ∙ sym (add_tasks ts (Leave a ∷ []) (add_in (wanted order p (enters_of adds.over)) (names_of p new)))
          ∙ ap (add_in (wanted order p ts)) step ∙ add_tasks ts (Enter a ∷ []) (names_of p old);
      less =
          let one = weight_both (ts ++ Leave a ∷ []) (enters_of adds.over) in
          let two = weight_both ts (Leave a ∷ []) in
          let three = weight_both ts (Enter a ∷ []) in
          let four = weight_enters adds.over in
          let five = long a in
          let six : length (walks order p (map (name_at p) adds.over)) ≡ length (middle a) = ap (λ ns. length (walks order p ns)) adds.named in
          let q : weight order p more ≡ weight order p ((ts ++ Leave a ∷ []) ++ enters_of adds.over) = ap (weight order p) adds.tasks in
          omega (arith, one, two, three, four, five, six, q);
    }
      where
        step : add_in (behind order (name_at p a)) (add_in (wanted order p (enters_of adds.over)) (names_of p new)) ≡ add_in (walk order p a) (names_of p old)
        step =
            ap (λ l. add_in (behind order (name_at p a)) (add_in l (names_of p new))) (wanted_enters adds.over ∙ ap (walks order p) adds.named)
            ∙ ap (λ l. add_in (behind order (name_at p a)) (add_in (middle a) l)) names
            ∙ sym (consult_both nobody (middle a) (behind order (name_at p a)) (add_in (before order (name_at p a)) (names_of p old)))
            ∙ sym (consult_both nobody (before order (name_at p a)) (middle a ++ behind order (name_at p a)) (names_of p old))
            ∙ ap (λ l. add_in l (names_of p old)) (sym (whole a))

        there : AreThere (add_in (behind order (name_at p a)) (add_in (wanted order p (enters_of adds.over)) (names_of p new))) (walk order p a)
        there = subst (λ l. AreThere l (walk order p a)) (sym step) (known_in nobody (walk order p a) (names_of p old))

        left : AreTasks order p (add_in (wanted order p (enters_of adds.over)) (names_of p new)) (ts ++ Leave a ∷ [])
        left =
            tasks_both ts (Leave a ∷ []) (add_in (wanted order p (enters_of adds.over)) (names_of p new))
            (subst (λ ns. AreTasks order p ns ts) (sym step) (tasks_front ts (Enter a ∷ []) (names_of p old) h)) ((last_task ts (Enter a) (names_of p old) h, there), tt)

    pub leave_made : (a : ℕ) (ts : List Task) (old new : Seen) → AreTasks order p (names_of p old) (ts ++ Leave a ∷ []) → Leaves order p a old new → Makes order p (Leave a) old ts new ts
    leave_made a ts old new h leaves = record {
      tasks = subst (λ ns. AreTasks order p ns ts) (sym leaves.names) (tasks_front ts (Leave a ∷ []) (names_of p old) h);
      names = ap (add_in (wanted order p ts)) leaves.names ∙ add_tasks ts (Leave a ∷ []) (names_of p old);
      less = (let w = weight_both ts (Leave a ∷ []) in omega (arith, w));
    }
