-- The views of the seats after each kind of step.
use Rattle.std.proofs.Common.{◌≡◌, ◌≢◌, ◌⊎◌, ℕ, zero, suc, ◌+◌, ◌<◌, List, [], ◌∷◌, ◌++◌, Bool, true, false, set, length, replicate, refl, sym, ap, ◌∙◌, subst, inl, inr, ⊎_elim, arith, true≢false}
use Rattle.std.specs.Prelude.{All, slice_index_or}
use mathlib.Core.Option.{some, some-injective, some-ne-none}
use lib.ListN.{get_elem?}
use Rattle.atomic_table.proofs.Lists.{at_set}
use Rattle.std.proofs.lemmas.List.Elements.{All-append, All-cons, All-nil}
use Rattle.claim_core.specs.declared.events.ClaimEntry.{ClaimEntry}
use Rattle.claim_core.specs.Claims.{noted}
use Rattle.claim_core.proofs.Lists.{noted_here, noted_else}
use Rattle.mutant_table.specs.declared.rule.View.{View}
use Rattle.mutant_table.specs.declared.rule.Sizes.{Sizes}
use Rattle.mutant_table.specs.Rule.{did, first_view, made_one, seated, taken_in, spent_view, list_at, IsWorkersView, LeadsSeats, AreSeated}

abbrev Apart : View → List (ℕ × List ClaimEntry) → Type 0
Apart u ended = All (λ (p : ℕ × List ClaimEntry). p.0 ≢ u.worker) ended

abbrev Knows : ℕ → List (List ClaimEntry) → List (ℕ × List ClaimEntry) → Type 0
Knows made lists ended = All (λ (p : ℕ × List ClaimEntry). (p.0 < made) × (p.1 ≡ list_at lists p.0)) ended

-- the lists that ended aren't the one that has one more entry
still_ended : (lists : List (List ClaimEntry)) (w : ℕ) (e : ClaimEntry) (made : ℕ) (ended : List (ℕ × List ClaimEntry)) → Knows made lists ended → All (λ (p : ℕ × List ClaimEntry). p.0 ≢ w) ended → Knows made (noted lists w e) ended
still_ended lists w e made ended h other = λ k d lt. let x = h k d lt in (x.0, x.1 ∙ sym (noted_else lists w e (slice_index_or ended k d).0 (other k d lt)))

-- what worker 0 knows stays when the worker of the view v does one thing more
leads_noted : (z : Sizes) (lists : List (List ClaimEntry)) (views : List View) (id : ℕ) (v u : View) (e : ClaimEntry) → get_elem? views id ≡ some v → v.live ≡ true
    → (t : View) → LeadsSeats z lists views u → t.made ≡ u.made → t.ended ≡ u.ended → LeadsSeats z (noted lists v.worker e) (set views id (did v e)) t
leads_noted z lists views id v u e at live t h made ended =
    let mine = h.others id v at live in
    record {
      made = rw made h.made;
      unmade = λ k le. noted_else lists v.worker e k (λ same. let lt = mine.0 in omega (arith, le, made, same, lt)) ∙ h.unmade k (rw (sym made) le);
      ended = subst (Knows t.made (noted lists v.worker e)) (sym ended) (subst (λ n. Knows n (noted lists v.worker e) u.ended) (sym made) (still_ended lists v.worker e u.made u.ended h.ended mine.1));
      others = λ i w there on. ⊎_elim
          (λ (s : (i ≡ id) × (did v e ≡ w)). subst (λ (x : View). (x.worker < t.made) × Apart x t.ended) s.1 (rw made mine.0, subst (Apart v) (sym ended) mine.1))
          (λ (s : (i ≢ id) × (get_elem? views i ≡ some w)). let a = h.others i w s.1 on in (rw made a.0, subst (Apart w) (sym ended) a.1))
          (at_set views id i (did v e) w there);
    }

pub seated_noted : (z : Sizes) (lists : List (List ClaimEntry)) (views : List View) (id : ℕ) (v : View) (e : ClaimEntry) → v.worker < length lists → get_elem? views id ≡ some v → v.live ≡ true
    → AreSeated z lists views → AreSeated z (noted lists v.worker e) (set views id (did v e))
seated_noted z lists views id v e lt at live h =
    let mine = h.each id v at live in
    record {
      each = λ j u there on. ⊎_elim
          (λ (t : (j ≡ id) × (did v e ≡ u)). subst (IsWorkersView z (noted lists v.worker e)) t.1
          record { mutants = mine.mutants; cells = mine.cells; workers = mine.workers; worker = mine.worker; entries = ap (λ l. l ++ e ∷ []) mine.entries ∙ sym (noted_here lists v.worker e lt) })
          (λ (t : (j ≢ id) × (get_elem? views j ≡ some u)).
          let theirs = h.each j u t.1 on in
          record { mutants = theirs.mutants; cells = theirs.cells; workers = theirs.workers; worker = theirs.worker; entries = theirs.entries ∙ sym (noted_else lists v.worker e u.worker (λ same. t.0 (h.one j id u v t.1 at on live same))) })
          (at_set views id j (did v e) u there);
      one = λ i j u w there' there on' on same. ⊎_elim
          (λ (s : (i ≡ id) × (did v e ≡ u)). ⊎_elim
          (λ (t : (j ≡ id) × (did v e ≡ w)). s.0 ∙ sym t.0)
          (λ (t : (j ≢ id) × (get_elem? views j ≡ some w)). s.0 ∙ h.one id j v w at t.1 live on (ap (λ (x : View). x.worker) s.1 ∙ same))
          (at_set views id j (did v e) w there))
          (λ (s : (i ≢ id) × (get_elem? views i ≡ some u)). ⊎_elim
          (λ (t : (j ≡ id) × (did v e ≡ w)). h.one i id u v s.1 at on' live (same ∙ sym (ap (λ (x : View). x.worker) t.1)) ∙ sym t.0)
          (λ (t : (j ≢ id) × (get_elem? views j ≡ some w)). h.one i j u w s.1 t.1 on' on same)
          (at_set views id j (did v e) w there))
          (at_set views id i (did v e) u there');
      lead = λ j u there on leads. ⊎_elim
          (λ (t : (j ≡ id) × (did v e ≡ u)). subst (LeadsSeats z (noted lists v.worker e) (set views id (did v e))) t.1
          (leads_noted z lists views id v v e at live (did v e) (h.lead id v at live (ap (λ (x : View). x.worker) t.1 ∙ leads)) refl refl))
          (λ (t : (j ≢ id) × (get_elem? views j ≡ some u)). leads_noted z lists views id v u e at live u (h.lead j u t.1 on leads) refl refl)
          (at_set views id j (did v e) u there);
    }

at_end : (l : List View) (a b : View) (j : ℕ) → get_elem? (l ++ a ∷ []) j ≡ some b → (get_elem? l j ≡ some b) ⊎ ((j ≡ length l) × (a ≡ b))
at_end [] a b zero e = inr (refl, some-injective a b e)
at_end [] a b (suc j) e = absurd (some-ne-none b (sym e))
at_end (x ∷ xs) a b zero e = inl e
at_end (x ∷ xs) a b (suc j) e = ⊎_elim (λ t. inl t) (λ t. inr (ap suc t.0, t.1)) (at_end xs a b j e)

off : (b : Bool) → b ≡ false → b ≡ true → ⊥
off b n y = true≢false (sym y ∙ n)

-- the same worker, with another number of seats made or lists taken in
like : (z : Sizes) (lists : List (List ClaimEntry)) (v u : View) → (u.cells ≡ v.cells) → (u.workers ≡ v.workers) → (u.mutants ≡ v.mutants) → (u.worker ≡ v.worker) → (u.entries ≡ v.entries) → IsWorkersView z lists v → IsWorkersView z lists u
like z lists v u c ws m w e f = record { cells = c ∙ f.cells; workers = ws ∙ f.workers; mutants = m ∙ f.mutants; worker = rw w f.worker; entries = e ∙ f.entries ∙ ap (list_at lists) (sym w) }

-- what a view is after a split: the first seat's, another that stood before, or the new one
split_case : (views : List View) (id : ℕ) (v : View) (j : ℕ) (u : View) (C : Type 0) → get_elem? views id ≡ some v
    → ((j ≡ id) → (made_one v ≡ u) → C) → ((j ≢ id) → get_elem? views j ≡ some u → C) → ((j ≡ length (set views id (made_one v))) → (seated v ≡ u) → C)
    → get_elem? (set views id (made_one v) ++ seated v ∷ []) j ≡ some u → C
split_case views id v j u C at same old new e = ⊎_elim
    (λ t. ⊎_elim (λ (s : (j ≡ id) × (made_one v ≡ u)). same s.0 s.1) (λ (s : (j ≢ id) × (get_elem? views j ≡ some u)). old s.0 s.1) (at_set views id j (made_one v) u t))
    (λ t. new t.0 t.1)
    (at_end (set views id (made_one v)) (seated v) u j e)

-- the first seat makes one more
pub seated_split : (z : Sizes) (lists : List (List ClaimEntry)) (views : List View) (id : ℕ) (v : View) → v.live ≡ true → v.worker ≡ 0 → v.made < z.workers → get_elem? views id ≡ some v
    → AreSeated z lists views → AreSeated z lists (set views id (made_one v) ++ seated v ∷ [])
seated_split z lists views id v live host room at was =
    let mine = was.each id v at live in
    let lead = was.lead id v at live host in
    let some_made = (lead.others id v at live).0 in
    let after = set views id (made_one v) ++ seated v ∷ [] in
    let other : (j : ℕ) (u : View) → get_elem? views j ≡ some u → u.live ≡ true → u.worker ≡ v.made → ⊥ = λ j u there on same. let lt = (lead.others j u there on).0 in omega arith in
    record {
      each = λ j u there on. split_case views id v j u (IsWorkersView z lists u) at
          (λ _ t. subst (IsWorkersView z lists) t (like z lists v (made_one v) refl refl refl refl refl mine))
          (λ _ t. was.each j u t on)
          (λ _ t. subst (IsWorkersView z lists) t record { mutants = mine.mutants; cells = mine.cells; workers = mine.workers; worker = room; entries = sym (lead.unmade v.made (omega arith)) })
          there;
      one = λ i j u w there' there on' on same.
          split_case views id v i u (i ≡ j) at
          (λ a b. split_case views id v j w (i ≡ j) at
          (λ c d. a ∙ sym c)
          (λ c d. a ∙ was.one id j v w at d live on (ap (λ (x : View). x.worker) b ∙ same))
          (λ c d. absurd (other id v at live (ap (λ (x : View). x.worker) b ∙ same ∙ sym (ap (λ (x : View). x.worker) d))))
          there)
          (λ a b. split_case views id v j w (i ≡ j) at
          (λ c d. was.one i id u v b at on' live (same ∙ sym (ap (λ (x : View). x.worker) d)) ∙ sym c)
          (λ c d. was.one i j u w b d on' on same)
          (λ c d. absurd (other i u b on' (same ∙ sym (ap (λ (x : View). x.worker) d))))
          there)
          (λ a b. split_case views id v j w (i ≡ j) at
          (λ c d. absurd (other id v at live (ap (λ (x : View). x.worker) d ∙ sym same ∙ sym (ap (λ (x : View). x.worker) b))))
          (λ c d. absurd (other j w d on (sym same ∙ sym (ap (λ (x : View). x.worker) b))))
          (λ c d. a ∙ sym c)
          there)
          there';
      lead = λ j u there on leads. split_case views id v j u (LeadsSeats z lists after u) at
          (λ a b. subst (LeadsSeats z lists after) b record {
            made = omega arith;
            unmade = λ k le. lead.unmade k (omega arith);
            ended = λ k d lt. let x = lead.ended k d lt in ((let y = x.0 in omega arith), x.1);
            others = λ i w there' on'. split_case views id v i w ((w.worker < v.made + 1) × Apart w v.ended) at
                (λ c d. subst (λ (x : View). (x.worker < v.made + 1) × Apart x v.ended) d (let y = lead.others id v at live in ((let lt = y.0 in omega arith), y.1)))
                (λ c d. let y = lead.others i w d on' in ((let lt = y.0 in omega arith), y.1))
                (λ c d. subst (λ (x : View). (x.worker < v.made + 1) × Apart x v.ended) d ((omega arith), λ k e lt same. let y = (lead.ended k e lt).0 in omega arith))
                there';
          })
          (λ a b. absurd (a (was.one j id u v b at on live (leads ∙ sym host))))
          (λ a b. let is : v.made ≡ 0 = ap (λ (x : View). x.worker) b ∙ leads in absurd (omega arith))
          there;
    }

join_case : (views : List View) (id other : ℕ) (v w : View) (j : ℕ) (u : View) (C : Type 0) → u.live ≡ true
    → ((j ≡ id) → (taken_in v w ≡ u) → C) → ((j ≢ id) → (j ≢ other) → get_elem? views j ≡ some u → C)
    → get_elem? (set (set views id (taken_in v w)) other spent_view) j ≡ some u → C
join_case views id other v w j u C on same old e = ⊎_elim
    (λ (t : (j ≡ other) × (spent_view ≡ u)). absurd (off u.live (sym (ap (λ (x : View). x.live) t.1)) on))
    (λ (t : (j ≢ other) × (get_elem? (set views id (taken_in v w)) j ≡ some u)). ⊎_elim
    (λ (s : (j ≡ id) × (taken_in v w ≡ u)). same s.0 s.1)
    (λ (s : (j ≢ id) × (get_elem? views j ≡ some u)). old s.0 t.0 s.1)
    (at_set views id j (taken_in v w) u t.1))
    (at_set (set views id (taken_in v w)) other j spent_view u e)

-- the first seat takes in another
pub seated_join : (z : Sizes) (lists : List (List ClaimEntry)) (views : List View) (id other : ℕ) (v w : View) → v.live ≡ true → v.worker ≡ 0 → w.live ≡ true
    → get_elem? views id ≡ some v → other ≢ id → get_elem? (set views id (taken_in v w)) other ≡ some w
    → AreSeated z lists views → AreSeated z lists (set (set views id (taken_in v w)) other spent_view)
seated_join z lists views id other v w live host theirs at ne there was =
    let mine = was.each id v at live in
    let lead = was.lead id v at live host in
    let after = set (set views id (taken_in v w)) other spent_view in
    let at' : get_elem? views other ≡ some w = ⊎_elim (λ (t : (other ≡ id) × (taken_in v w ≡ w)). absurd (ne t.0)) (λ (t : (other ≢ id) × (get_elem? views other ≡ some w)). t.1) (at_set views id other (taken_in v w) w there) in
    let his = was.each other w at' theirs in
    let apart_last : (j : ℕ) (u : View) → get_elem? views j ≡ some u → u.live ≡ true → j ≢ other → Apart u ((w.worker, w.entries) ∷ []) =
    λ j u e on far. All-cons (λ (p : ℕ × List ClaimEntry). p.0 ≢ u.worker) (w.worker, w.entries) [] (λ same. far (sym (was.one other j w u at' e theirs on same))) (All-nil (λ (p : ℕ × List ClaimEntry). p.0 ≢ u.worker)) in
    record {
      each = λ j u e on. join_case views id other v w j u (IsWorkersView z lists u) on
          (λ _ t. subst (IsWorkersView z lists) t (like z lists v (taken_in v w) refl refl refl refl refl mine))
          (λ _ _ t. was.each j u t on)
          e;
      one = λ i j u x e' e on' on same. join_case views id other v w i u (i ≡ j) on'
          (λ a b. join_case views id other v w j x (i ≡ j) on
          (λ c d. a ∙ sym c)
          (λ _ c d. a ∙ was.one id j v x at d live on (ap (λ (y : View). y.worker) b ∙ same))
          e)
          (λ _ a b. join_case views id other v w j x (i ≡ j) on
          (λ c d. was.one i id u v b at on' live (same ∙ sym (ap (λ (y : View). y.worker) d)) ∙ sym c)
          (λ _ c d. was.one i j u x b d on' on same)
          e)
          e';
      lead = λ j u e on leads. join_case views id other v w j u (LeadsSeats z lists after u) on
          (λ a b. subst (LeadsSeats z lists after) b record {
            made = lead.made;
            unmade = lead.unmade;
            ended = All-append (λ (p : ℕ × List ClaimEntry). (p.0 < v.made) × (p.1 ≡ list_at lists p.0)) v.ended ((w.worker, w.entries) ∷ []) lead.ended
                (All-cons (λ (p : ℕ × List ClaimEntry). (p.0 < v.made) × (p.1 ≡ list_at lists p.0)) (w.worker, w.entries) [] ((lead.others other w at' theirs).0, his.entries) (All-nil (λ (p : ℕ × List ClaimEntry). (p.0 < v.made) × (p.1 ≡ list_at lists p.0))));
            others = λ i x e' on'. join_case views id other v w i x ((x.worker < v.made) × Apart x (v.ended ++ (w.worker, w.entries) ∷ [])) on'
                (λ c d. subst (λ (y : View). (y.worker < v.made) × Apart y (v.ended ++ (w.worker, w.entries) ∷ [])) d
                (let y = lead.others id v at live in (y.0, All-append (λ (p : ℕ × List ClaimEntry). p.0 ≢ v.worker) v.ended ((w.worker, w.entries) ∷ []) y.1 (apart_last id v at live (λ same. ne (sym same))))))
                (λ _ c d. let y = lead.others i x d on' in (y.0, All-append (λ (p : ℕ × List ClaimEntry). p.0 ≢ x.worker) v.ended ((w.worker, w.entries) ∷ []) y.1 (apart_last i x d on' c)))
                e';
          })
          (λ a _ b. absurd (a (was.one j id u v b at on live (leads ∙ sym host))))
          e;
    }

-- the first seat alone, at the start
pub seated_first : (z : Sizes) → 0 < z.workers → ((k : ℕ) → list_at (replicate z.workers []) k ≡ []) → AreSeated z (replicate z.workers []) (first_view z ∷ [])
seated_first z some_worker idle = record {
  each = λ id v at on. subst (IsWorkersView z (replicate z.workers [])) (only id v at).1 record { mutants = refl; cells = refl; workers = refl; worker = some_worker; entries = sym (idle 0) };
  one = λ i j v w a b on on' same. (only i v a).0 ∙ sym (only j w b).0;
  lead = λ id v at on leads. subst (LeadsSeats z (replicate z.workers []) (first_view z ∷ [])) (only id v at).1 record {
    made = omega arith;
    unmade = λ k le. idle k;
    ended = All-nil (λ (p : ℕ × List ClaimEntry). (p.0 < 1) × (p.1 ≡ list_at (replicate z.workers []) p.0));
    others = λ j u e on'. subst (λ (x : View). (x.worker < 1) × Apart x []) (only j u e).1 (omega arith, All-nil (λ (p : ℕ × List ClaimEntry). p.0 ≢ 0));
  };
}
  where
    only : (id : ℕ) (v : View) → get_elem? (first_view z ∷ []) id ≡ some v → (id ≡ 0) × (first_view z ≡ v)
    only zero v e = (refl, some-injective (first_view z) v e)
    only (suc id) v e = absurd (some-ne-none v (sym e))
