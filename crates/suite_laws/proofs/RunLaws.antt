-- The laws of edited programs, said of mutants.
use Rattle.std.proofs.Common.{◌≡◌, ◌∙◌, refl, sym, ap, subst, ℕ, Bool, true, false, List, [], ◌∷◌, inl, inr, ⊎_elim}
use Rattle.std.specs.Prelude.{◌&&◌, ◌==◌}
use Rattle.std.specs.List.{list_any}
use Rattle.std.specs.Cmp.Lexicographic.{same_text}
use Rattle.std.proofs.lemmas.Bool.{eqb-true, eq-eqb, and_parts, or_cases, or_left, or_right}
use Rattle.program_rules.specs.Names.{Name, same}
use Rattle.program_rules.specs.Programs.{Look}
use Rattle.machine_rules.specs.declared.machine.Limits.{Limits}
use Rattle.machine_rules.specs.Runs.{StuckAt, Ran}
use Rattle.machine_laws.specs.Consulted.{Hit}
use Rattle.machine_laws.specs.EditLaws as edits
use Rattle.machine_laws.specs.EditLaws.{ReachesLine, NotStuckAtEdit, TestsAlikeUnreached, TestsReachAlike, TestsReachTheSame}
use Rattle.class_link.specs.Info.{Info}
use Rattle.class_table.specs.declared.scripted.Test.{Test}
use Rattle.class_table.specs.Table.{look}
use Rattle.jvm_world.specs.View.{test_of}
use Rattle.mutator_ops.specs.declared.mutant.Mutant.{Mutant}
use Rattle.suite_program.specs.Below.{is_at, reaches, mutant_run}
use Rattle.suite_laws.specs.Edited.{IsEditOf, MutantsAreEdits, IntJumpsGoOn}
use Rattle.suite_laws.specs.Covered.{original_run, edited_run, UnreachedIsAlike, ReachAlike, ReachingIsAlike, CoveringIsAlike}
use Rattle.suite_laws.proofs.Edits.{same_itself}

-- ---- the test for a mutant's line

at_true : (m : Mutant) (x : Name × ℕ) → is_at m x ≡ true → (x.0 ≡ m.class) × (x.1 ≡ m.line)
at_true m x h = let k = and_parts (same x.0 m.class) (x.1 == m.line) h in (same_text x.0 m.class (sym k.0), eqb-true x.1 m.line k.1)

hit_of : (m : Mutant) (rs : List (Name × ℕ)) → list_any (is_at m) rs ≡ true → Hit m.class m.line rs
hit_of m [] h = absurd cc
hit_of m (x ∷ rs) h = ⊎_elim (λ here. inl (at_true m x here)) (λ later. inr (hit_of m rs later)) (or_cases (is_at m x) (list_any (is_at m) rs) h)

true_at : (m : Mutant) (x : Name × ℕ) → (x.0 ≡ m.class) × (x.1 ≡ m.line) → is_at m x ≡ true
true_at m x h = ap (λ n. same n m.class && x.1 == m.line) h.0 ∙ ap (λ b. b && x.1 == m.line) (same_itself m.class) ∙ eq-eqb x.1 m.line h.1

hit_true : (m : Mutant) (rs : List (Name × ℕ)) → Hit m.class m.line rs → list_any (is_at m) rs ≡ true
hit_true m [] h = absurd h
hit_true m (x ∷ rs) h = ⊎_elim (λ here. or_left (is_at m x) (list_any (is_at m) rs) (true_at m x here)) (λ later. or_right (is_at m x) (list_any (is_at m) rs) (hit_true m rs later)) h

module _ (m : Mutant) (p p' : Look) (e : IsEditOf m p p') where
  reaches_true : (r : Ran) → ReachesLine e.edit p r → reaches m r ≡ true
  reaches_true r h = hit_true m r.reached (subst (λ n. Hit n m.line r.reached) e.class (subst (λ l. Hit e.edit.class l r.reached) e.line h))

  reaches_line : (r : Ran) → reaches m r ≡ true → ReachesLine e.edit p r
  reaches_line r h = subst (λ l. Hit e.edit.class l r.reached) (sym e.line) (subst (λ n. Hit n m.line r.reached) (sym e.class) (hit_of m r.reached h))

-- ---- tests

pub unreached_is_alike : MutantsAreEdits → TestsAlikeUnreached → UnreachedIsAlike
unfolding mutant_run
unreached_is_alike edited law p m p' t q limit y whole ended miss =
    let e = edited p m p' y in
    let r = original_run p t q limit in
    law e.edit (look p) p' (test_of t) q limit e.edited whole ended
    (λ h. let hit = reaches_true m (look p) p' e r h in let no : true ≡ false = sym hit ∙ miss in absurd cc)

same_bool : (a b : Bool) → (a ≡ true → b ≡ true) → (b ≡ true → a ≡ true) → a ≡ b
same_bool true b there back = sym (there refl)
same_bool false true there back = back refl
same_bool false false there back = refl

module _ (p : List Info) (m : Mutant) (p' : Look) (t : Test) (q : Limits) (limit : ℕ) where
  abbrev before : Ran
  before = original_run p t q limit

  abbrev after : Ran
  after = edited_run p p' t q limit

  reaching : (e : IsEditOf m (look p) p') → edits.ReachAlike e.edit (look p) before after → ReachAlike m before after
  reaching e k =
      let back : reaches m after ≡ true → reaches m before ≡ true = λ h. reaches_true m (look p) p' e before (k.0 (reaches_line m (look p) p' e after h)) in (
        back,
        λ past.
            let away : NotStuckAtEdit e.edit (look p) after = λ stuck. past (stuck ∙ ap StuckAt e.place) in
            same_bool (reaches m after) (reaches m before) back (λ h. reaches_true m (look p) p' e after (k.1 away (reaches_line m (look p) p' e before h))),
      )

pub reaching_is_alike : MutantsAreEdits → TestsReachAlike → ReachingIsAlike
unfolding mutant_run
reaching_is_alike edited law p m p' t q limit y whole ended =
    let e = edited p m p' y in
    reaching p m p' t q limit e (law e.edit (look p) p' (test_of t) q limit e.edited whole ended)

pub covering_is_alike : IntJumpsGoOn → TestsReachTheSame → CoveringIsAlike
unfolding mutant_run
covering_is_alike edited law p m p' t q limit y jumps whole ended =
    let e = edited p m p' y jumps in
    let r = original_run p t q limit in
    let r' = edited_run p p' t q limit in
    let k = law e.of.edit (look p) p' (test_of t) q limit e.of.edited e.goes_on whole ended in
    same_bool (reaches m r') (reaches m r) (λ h. reaches_true m (look p) p' e.of r (k.0 (reaches_line m (look p) p' e.of r' h))) (λ h. reaches_true m (look p) p' e.of r' (k.1 (reaches_line m (look p) p' e.of r h)))
