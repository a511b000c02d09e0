-- A mutant's class stands edited in a program, and is put back.
use Rattle.std.proofs.Common.{◌≡◌, ◌∙◌, sym, refl, ap, subst, ℕ, Bool, true, false, List, Option, Some, None, IfSome, All, length, ◌<◌, slice_get, slice_index_or, slice_set, eqb-true}
use Rattle.std.specs.Prelude.{IfOk, OnOk, OnErr, Result, Ok, Err, is_some}
use Rattle.std.specs.Arc.{arc_value}
use Rattle.class_model.specs.declared.memory.Memory.{Memory}
use Rattle.program_rules.specs.Names.{Name}
use Rattle.program_rules.specs.Programs.{Look}
use Rattle.class_link.specs.Info.{Info}
use Rattle.class_table.specs.Table.{CanSwap, look}
use Rattle.history_index.specs.declared.standings.Swap.{Swap}
use Rattle.history_index.specs.Standings.{IsSwap}
use Rattle.run_records.specs.Below.{Tables}
use Rattle.run_records.specs.Below.{AreNamedOf, AreTablesOf}
use Rattle.mutator_ops.specs.declared.mutant.Mutant.{Mutant}
use Rattle.suite_jobs.specs.Below.{ClassBytes}
use Rattle.suite_jobs.specs.Below.{IsEditBy}
use Rattle.suite_jobs.specs.Below.{IsKept}
use Rattle.suite_jobs.specs.Below.{IsMutantOf, Makes, mutant_runs_edited as edited, mutant_runs_files_of as files_of}
use Rattle.suite_jobs.proofs.Below.{named_back, named_made}
use Rattle.suite_jobs.proofs.Below.{makes_swap, makes_swap_back, set_back}
use Rattle.run_records.specs.Asking.{bytes_of}
use Rattle.suite_workers.specs.Standing.{HasEdit, HasEditAt, HasStanding, HasStandingAt, IsBare, IsStand, IsSwapOf, StandsAt, StandsFor, base_in, base_of, is_standing, is_standing_for}
use Rattle.suite_workers.specs.declared.look_ups.InHistory.{InHistory}
use Rattle.suite_workers.specs.declared.standing.Stand.{Stand}
use Rattle.suite_workers.specs.declared.standing.Standing.{Standing}
use Rattle.suite_workers.proofs.Lists.{get_of}

-- ---- back

-- The class that stood there may be put back.
pub back_may : (p program : List Info) (history : Option InHistory) (mutants : List Mutant) (st : Standing) → HasStandingAt p program history mutants st → CanSwap program st.id.0 (arc_value st.original)
back_may p program history mutants st h =
    let has = h.2 in
    subst (λ q. CanSwap q st.id.0 (arc_value st.original)) (sym has.program_is) (makes_swap_back p h.0 st.id.0 (arc_value st.original) has.edited has.makes has.there)

standing_at : (p : List Info) (history : Option InHistory) (mutants : List Mutant) (s : Stand) (st : Standing) → IsStand p history mutants s → s.standing ≡ Some st → HasStandingAt p s.program history mutants st
standing_at p history mutants s st h is = subst (λ (o : Option Standing). IfSome o (HasStandingAt p s.program history mutants)) is h.standing

pub may_put_back : (history : Option InHistory) (mutants : List Mutant) (s : Stand) (st : Standing) → IsStand (base_of s) history mutants s → s.standing ≡ Some st → CanSwap s.program st.id.0 (arc_value st.original)
may_put_back history mutants s st h is = back_may (base_of s) s.program history mutants st (standing_at (base_of s) history mutants s st h is)

pub is_bare : (history : Option InHistory) (mutants : List Mutant) (s t : Stand) → IsStand (base_of s) history mutants s → t.program ≡ base_of s → t.standing ≡ None → t.tables ≡ s.tables → t.kept ≡ s.kept → IsBare (base_of s) t
is_bare history mutants s t h program none tables kept = record {
  program_is = program;
  none = none;
  named = subst (AreNamedOf (base_of s)) (sym tables) h.named;
  kept = subst (IsKept (base_of s)) (sym kept) h.kept;
}

pub base_some : (s : Stand) (st : Standing) → s.standing ≡ Some st → slice_set s.program st.id.0 (arc_value st.original) ≡ base_of s
base_some s st is = ap (base_in s.program) (sym is)

pub base_none : (s : Stand) → s.standing ≡ None → s.program ≡ base_of s
base_none s is = ap (base_in s.program) (sym is)

-- ---- in

module _ (p q : List Info) (history : Option InHistory) (m : Mutant) (st : Standing) (new : Info) (makes : Makes p m st.id.0 new) (by : IsEditBy p m st.id.0 new) (is : q ≡ slice_set p st.id.0 new) (there : slice_get p st.id.0 ≡ Some (arc_value st.original)) (swap : IsSwapOf history m.class new st.swap) where
  pub has_standing : HasStanding p q history m st
  has_standing = record { edited = new; there = there; program_is = is; makes = makes; edit = by; swap_is = swap }

  pub stands_for : (s : Stand) (number : ℕ) → s.program ≡ q → s.standing ≡ Some st → st.mutant ≡ number → AreTablesOf q s.tables → IsKept p s.kept → StandsFor p history number m s
  stands_for s number program standing number_is tables kept = record {
    standing = st;
    is = standing;
    number = number_is;
    has = subst (λ w. HasStanding p w history m st) (sym program) has_standing;
    named = named_back p q m st.id.0 new makes is s.tables tables;
    kept = kept;
    tables = subst (λ w. AreTablesOf w s.tables) (sym program) tables;
  }

-- ---- at its place

pub stand_of : (p : List Info) (history : Option InHistory) (mutants : List Mutant) (number : ℕ) (m : Mutant) (s : Stand) → slice_get mutants number ≡ Some m → StandsFor p history number m s → IsStand p history mutants s
stand_of p history mutants number m s at h =
    let has = h.has in
    record {
      base = sym (base_some s h.standing h.is) ∙ ap (λ w. slice_set w h.standing.id.0 (arc_value h.standing.original)) has.program_is ∙ set_back p h.standing.id.0 (arc_value h.standing.original) has.edited has.there;
      named = h.named;
      kept = h.kept;
      standing = subst (λ (o : Option Standing). IfSome o (HasStandingAt p s.program history mutants)) (sym h.is) (m, ap (slice_get mutants) h.number ∙ at, has);
      tables = subst (λ (o : Option Standing). IfSome o (λ st. AreTablesOf s.program s.tables)) (sym h.is) h.tables;
    }

pub bare_stand : (p : List Info) (history : Option InHistory) (mutants : List Mutant) (s : Stand) → IsBare p s → IsStand p history mutants s
bare_stand p history mutants s h = record {
  base = sym (base_none s h.none) ∙ h.program_is;
  named = h.named;
  kept = h.kept;
  standing = subst (λ (o : Option Standing). IfSome o (HasStandingAt p s.program history mutants)) (sym h.none) tt;
  tables = subst (λ (o : Option Standing). IfSome o (λ st. AreTablesOf s.program s.tables)) (sym h.none) tt;
}

-- The mutant that stands there already.
already_case : (p : List Info) (history : Option InHistory) (mutants : List Mutant) (number : ℕ) (s : Stand) (o : Option Standing) → s.standing ≡ o → is_standing_for number o ≡ true → IsStand p history mutants s → StandsAt p history mutants number s
already_case p history mutants number s None is yes_ h = absurd cc
already_case p history mutants number s (Some st) is yes_ h =
    let at = standing_at p history mutants s st h is in
    let same : st.mutant ≡ number = eqb-true st.mutant number yes_ in
    let tables : AreTablesOf s.program s.tables = subst (λ (o : Option Standing). IfSome o (λ x. AreTablesOf s.program s.tables)) is h.tables in (
      at.0,
      ap (slice_get mutants) (sym same) ∙ at.1,
      record {
        standing = st;
        is = is;
        number = same;
        has = at.2;
        named = h.named;
        kept = h.kept;
        tables = tables;
      },
    )

pub already : (p : List Info) (history : Option InHistory) (mutants : List Mutant) (number : ℕ) (s : Stand) → is_standing s number ≡ true → IsStand p history mutants s → StandsAt p history mutants number s
already p history mutants number s is h = already_case p history mutants number s s.standing refl is h

-- Tables that were asked of it since.
pub tables_changed : (p : List Info) (history : Option InHistory) (number : ℕ) (m : Mutant) (s t : Stand) → StandsFor p history number m s → t.program ≡ s.program → t.standing ≡ s.standing → t.kept ≡ s.kept → AreTablesOf s.program t.tables → StandsFor p history number m t
tables_changed p history number m s t h program standing kept tables =
    let has = h.has in
    stands_for p s.program history m h.standing has.edited has.makes has.edit has.program_is has.there has.swap_is t number program (standing ∙ h.is) h.number tables (subst (IsKept p) (sym kept) h.kept)

-- ---- by what was answered

-- A class was put in, or memory ran out before.
placed_stand : {A : Type 0} (p : List Info) (history : Option InHistory) (mutants : List Mutant) (number : ℕ) (m : Mutant) (s : Stand) (r : Result A Memory) → slice_get mutants number ≡ Some m → OnOk r (StandsFor p history number m s) → OnErr r (IsBare p s) → IsStand p history mutants s
placed_stand p history mutants number m s (Ok u) at placed bare = stand_of p history mutants number m s at placed
placed_stand p history mutants number m s (Err e) at placed bare = bare_stand p history mutants s bare

placed_at : {A : Type 0} (p : List Info) (history : Option InHistory) (mutants : List Mutant) (number : ℕ) (m : Mutant) (s : Stand) (r : Result A Memory) → slice_get mutants number ≡ Some m → OnOk r (StandsFor p history number m s) → OnOk r (StandsAt p history mutants number s)
placed_at p history mutants number m s (Ok u) at placed = (m, at, placed)
placed_at p history mutants number m s (Err e) at placed = tt

-- ---- what another one is, to a history

swap_case : (h : InHistory) (name : Name) (new : Info) (bytes : List ℕ) (swap : Option Swap) → bytes_of new ≡ Some bytes → IsSwap h.index.now.history name bytes swap → (other : List ℕ) → bytes_of new ≡ Some other → IsSwap h.index.now.history name other swap
swap_case h name new bytes swap is so other other_is =
    let both : Some bytes ≡ Some other = sym is ∙ other_is in
    let same : bytes ≡ other = cc in
    subst (λ b. IsSwap h.index.now.history name b swap) same so

pub swap_there : (history : Option InHistory) (h : InHistory) (name : Name) (new : Info) (bytes : List ℕ) (r : Result (Option Swap) Memory) → history ≡ Some h → bytes_of new ≡ Some bytes → IfOk r (IsSwap h.index.now.history name bytes) → IfOk r (IsSwapOf history name new)
swap_there history h name new bytes (Ok swap) is bytes_is so = subst (λ o. IsSwapOf o name new swap) (sym is) (swap_case h name new bytes swap bytes_is so)
swap_there history h name new bytes (Err e) is bytes_is so = tt

no_bytes_case : (history : Option InHistory) (name : Name) (new : Info) → bytes_of new ≡ None → IsSwapOf history name new None
no_bytes_case None name new is = tt
no_bytes_case (Some h) name new is = λ bytes some. absurd (let both : None ≡ Some bytes = sym is ∙ some in cc)

pub no_bytes : (history : Option InHistory) (name : Name) (new : Info) → None ≡ bytes_of new → IsSwapOf history name new None
no_bytes history name new is = no_bytes_case history name new (sym is)

pub no_history : (history : Option InHistory) (name : Name) (new : Info) → history ≡ None → IsSwapOf history name new None
no_history history name new is = subst (λ o. IsSwapOf o name new None) (sym is) tt

-- ---- what an edit makes

pub has_none : (p : List Info) (m : Mutant) → edited (files_of p) (look p) m ≡ None → HasEdit p m → ⊥
has_none p m none has = let no : false ≡ true = ap (λ (o : Option Look). is_some o) (sym none) ∙ has in cc

pub bare_without : (p : List Info) (s t : Stand) → IsBare p s → t.program ≡ s.program → t.standing ≡ s.standing → t.tables ≡ s.tables → IsKept p t.kept → IsBare p t
bare_without p s t h program standing tables kept = record {
  program_is = program ∙ h.program_is;
  none = standing ∙ h.none;
  named = subst (AreNamedOf p) (sym tables) h.named;
  kept = kept;
}

pub on_err : {A E : Type 0} (r : Result A E) {X : Type 0} → X → OnErr r X
on_err (Ok a) x = tt
on_err (Err e) x = x

-- ---- in its own program

pub bare_own : (p : List Info) (s : Stand) → IsBare p s → IsBare s.program s
bare_own p s h = subst (λ q. IsBare q s) (sym h.program_is) h

pub fits_own : (p : List Info) (s : Stand) (mutants : List Mutant) (number : ℕ) (m : Mutant) → IsBare p s → All (IsMutantOf (files_of p)) mutants → number < length mutants → m ≡ slice_index_or mutants number m → IsMutantOf (files_of s.program) m
fits_own p s mutants number m bare fits lt is =
    subst (λ q. IsMutantOf (files_of q) m) (sym bare.program_is) (subst (IsMutantOf (files_of p)) (sym is) (fits number m lt))

pub edit_own : (p : List Info) (s : Stand) (mutants : List Mutant) (number : ℕ) (m : Mutant) → IsBare p s → HasEditAt p mutants number → number < length mutants → m ≡ slice_index_or mutants number m → HasEdit s.program m
edit_own p s mutants number m bare edit lt is = subst (λ q. HasEdit q m) (sym bare.program_is) (edit m (get_of mutants number m lt is))

module _ {A : Type 0} (p : List Info) (history : Option InHistory) (mutants : List Mutant) (number : ℕ) (m : Mutant) (before after : Stand) (r : Result A Memory) (bare : IsBare p before) (lt : number < length mutants) (is : m ≡ slice_index_or mutants number m) (placed : OnOk r (StandsFor before.program history number m after)) where
  placed_here : OnOk r (StandsFor p history number m after)
  placed_here = subst (λ q. OnOk r (StandsFor q history number m after)) bare.program_is placed

  pub then_stand : OnErr r (IsBare before.program after) → IsStand p history mutants after
  then_stand err = placed_stand p history mutants number m after r (get_of mutants number m lt is) placed_here (subst (λ q. OnErr r (IsBare q after)) bare.program_is err)

  pub then_stands : OnOk r (StandsAt p history mutants number after)
  then_stands = placed_at p history mutants number m after r (get_of mutants number m lt is) placed_here

-- ---- after a run

pub ran_stand : (p : List Info) (history : Option InHistory) (mutants : List Mutant) (number : ℕ) (s t : Stand) → StandsAt p history mutants number s → t.program ≡ s.program → t.standing ≡ s.standing → t.kept ≡ s.kept → AreTablesOf s.program t.tables → IsStand p history mutants t
ran_stand p history mutants number s t h program standing kept tables = stand_of p history mutants number h.0 t h.1 (tables_changed p history number h.0 s t h.2 program standing kept tables)
