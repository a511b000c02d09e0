-- The entries that an edit adds are ones of the pool with them.
use Rattle.std.proofs.Common.{◌≡◌, ◌∙◌, sym, refl, ap, subst, ℕ, zero, suc, ◌+◌, ◌-◌, ◌^◌, ◌<◌, ◌≤◌, Bool, true, false, cond, List, [], ◌∷◌, ◌++◌, length, Option, None, Some, inl, inr, arith, append_assoc, append-nil}
use Rattle.std.specs.Prelude.{◌≢◌, ◌⊎◌, ◌==◌, ◌&&◌, not, nat_lt, nat_eq, slice_get, IsSome, IsSomeAnd, ◌↔◌, if◌then◌else◌, option_and_then}
use Rattle.std.specs.Cmp.Lexicographic.{pointwise, same_text}
use Rattle.std.specs.List.{AllByRecursion, position_from}
use Rattle.std.proofs.lemmas.Bool.{cases_lt, ne_eqb, eqb-true, and_parts}
use Rattle.std.proofs.lemmas.List.{length-append}
use Rattle.class_model.specs.Pool.{entry_of, text_in, class_in, pair_in, text_of, class_name_of, pair_name_of, pair_desc_of, HasKind, HasMethodType, IsClassEntryName, is_wide, IsEntry, IsPoolForm}
use Rattle.class_model.specs.declared.constant.Const.{Const}
use Rattle.class_model.specs.declared.constant.Const.TheVariants as const
use Rattle.mutant_apply.specs.Entries.{is_text, is_entry, within, found_or_added, index_of, empty_string, method_of}
use Rattle.mutant_apply.specs.Fitting.{IsCall}
use Rattle.mutant_apply.proofs.CodeForms.{first_was, when_true}
use Rattle.mutant_apply.proofs.Lists.{all_map, all_append}
use Rattle.mutant_apply.proofs.PoolLaws.{some_of, some_is, entry_kept, text_kept, class_kept, desc_kept}

-- ---- an entry of a pool is one of a longer pool

module _ (pool more : List Const) where
  text_and : (P : List ℕ → Type 0) (i : ℕ) → IsSomeAnd (text_of pool i) P → IsSomeAnd (text_of (pool ++ more) i) P
  text_and P i h = subst (λ (o : Option (List ℕ)). IsSomeAnd o P) (sym (text_kept pool more i (some_of P (text_of pool i) h))) h

  text_there : (i : ℕ) → IsSome (text_of pool i) → IsSome (text_of (pool ++ more) i)
  text_there i h = subst (λ (o : Option (List ℕ)). IsSome o) (sym (text_kept pool more i h)) h

  class_there : (i : ℕ) → IsSome (class_name_of pool i) → IsSome (class_name_of (pool ++ more) i)
  class_there i h = subst (λ (o : Option (List ℕ)). IsSome o) (sym (class_kept pool more i h)) h

  desc_and : (P : List ℕ → Type 0) (i : ℕ) → IsSomeAnd (pair_desc_of pool i) P → IsSomeAnd (pair_desc_of (pool ++ more) i) P
  desc_and P i h = subst (λ (o : Option (List ℕ)). IsSomeAnd o P) (sym (desc_kept pool more i (some_of P (pair_desc_of pool i) h))) h

  entry_case : (P : Const → Type 0) (i : ℕ) (o : Option Const) → entry_of pool i ≡ o → IsSomeAnd o P → IsSomeAnd (entry_of (pool ++ more) i) P
  entry_case P i None e h = absurd h
  entry_case P i (Some c) e h = subst (λ (o : Option Const). IsSomeAnd o P) (sym (entry_kept pool more i c e)) h

  pub entry_grows : (c : Const) → IsEntry pool c → IsEntry (pool ++ more) c
  entry_grows (const.Utf8 units) h = h
  entry_grows (const.Integer n) h = h
  entry_grows (const.Float bits) h = h
  entry_grows (const.Long n) h = h
  entry_grows (const.Double bits) h = h
  entry_grows (const.Class name) h = text_and IsClassEntryName name h
  entry_grows (const.Text units) h = text_there units h
  entry_grows (const.Field class pair) h = (class_there class h.0, desc_and HasKind pair h.1)
  entry_grows (const.Method class pair) h = (class_there class h.0, desc_and HasMethodType pair h.1)
  entry_grows (const.IMethod class pair) h = (class_there class h.0, desc_and HasMethodType pair h.1)
  entry_grows (const.Pair name desc) h = (text_there name h.0, text_and (λ units. HasKind units ⊎ HasMethodType units) desc h.1)
  entry_grows (const.Handle kind member) h = entry_case _ member (entry_of pool member) refl h
  entry_grows (const.MethodKind desc) h = text_and HasMethodType desc h
  entry_grows (const.Dynamic bootstrap pair) h = (h.0, desc_and HasMethodType pair h.1)
  entry_grows const.Second h = h

-- ---- one more entry

-- the kinds of entries that edits add: none takes two places
abbrev pub is_added_kind : Const → Bool
is_added_kind (const.Utf8 units) = true
is_added_kind (const.Class name) = true
is_added_kind (const.Text units) = true
is_added_kind (const.Pair name desc) = true
is_added_kind (const.Method class pair) = true
is_added_kind other = false

-- what is known of the entries that an edit has added so far
pub record AreAdded (pool added : List Const) : Type 0 where
  pub entries : AllByRecursion (IsEntry (pool ++ added)) added
  pub kinds : AllByRecursion (λ c. is_added_kind c ≡ true) added

same_units : (a b : List ℕ) → pointwise nat_eq a b ≡ true → a ≡ b
same_units a b e = same_text a b (sym e)

entry_is : (entry c : Const) → is_entry entry c ≡ true → c ≡ entry
entry_is (const.Utf8 units) (const.Utf8 others) e = ap const.Utf8 (sym (same_units units others e))
entry_is (const.Class name) (const.Class other) e = ap const.Class (sym (eqb-true name other e))
entry_is (const.Text units) (const.Text other) e = ap const.Text (sym (eqb-true units other e))
entry_is (const.Pair name desc) (const.Pair n d) e = let k = and_parts (name == n) (desc == d) e in ap (λ (x : ℕ). const.Pair x d) (sym (eqb-true name n k.0)) ∙ ap (const.Pair name) (sym (eqb-true desc d k.1))
entry_is (const.Method class pair) (const.Method c p) e = let k = and_parts (class == c) (pair == p) e in ap (λ (x : ℕ). const.Method x p) (sym (eqb-true class c k.0)) ∙ ap (const.Method class) (sym (eqb-true pair p k.1))
entry_is entry c e = absurd cc

-- the place that a search gives
hit_case : (t : Const → Bool) (k i : ℕ) (x : Const) (xs : List Const) (b : Bool) → t x ≡ b → (position_from t (k + 1) xs ≡ Some i → (c : Const) × (n : ℕ) × (i ≡ k + 1 + n) × (slice_get xs n ≡ Some c) × (t c ≡ true)) → cond b (Some k) (position_from t (k + 1) xs) ≡ Some i
    → (c : Const) × (n : ℕ) × (i ≡ k + n) × (slice_get (x ∷ xs) n ≡ Some c) × (t c ≡ true)
hit_case t k i x xs true test later e = let same : k ≡ i = cc in (x, 0, omega (arith, same), refl, test)
hit_case t k i x xs false test later e = let q = later e in (q.0, suc q.1, omega (arith, q.2), q.3, q.4)

hit : (t : Const → Bool) (k i : ℕ) (xs : List Const) → position_from t k xs ≡ Some i → (c : Const) × (n : ℕ) × (i ≡ k + n) × (slice_get xs n ≡ Some c) × (t c ≡ true)
hit t k i [] e = absurd cc
hit t k i (x ∷ xs) e = hit_case t k i x xs (t x) refl (hit t (k + 1) i xs) e

entry_at : (pool : List Const) (n : ℕ) → entry_of pool (1 + n) ≡ slice_get pool n
entry_at pool n =
    let test : (1 + n == 0) ≡ false = ne_eqb (1 + n) 0 (λ e. absurd (omega (arith, e))) in
    let there : 1 + n - 1 ≡ n = omega arith in
    rw test (ap (slice_get pool) there)

last_at : (xs : List Const) (x : Const) → slice_get (xs ++ x ∷ []) (length xs) ≡ Some x
last_at [] x = refl
last_at (y ∷ xs) x = last_at xs x

-- An index was found or an entry added.
pub record Step (pool : List Const) (entry : Const) (added : List Const) (x : ℕ × List Const) : Type 0 where
  pub more : List Const
  pub grown : x.1 ≡ added ++ more
  pub are : AreAdded pool x.1
  pub stands : entry_of (pool ++ x.1) x.0 ≡ Some entry

module _ (pool : List Const) where
  -- what stood stands still
  pub longer : (added more : List Const) (i : ℕ) (c : Const) → entry_of (pool ++ added) i ≡ Some c → entry_of (pool ++ (added ++ more)) i ≡ Some c
  longer added more i c e = subst (λ (p : List Const). entry_of p i ≡ Some c) (append_assoc pool added more) (entry_kept (pool ++ added) more i c e)

  pub still : (added new : List Const) (more : List Const) → new ≡ added ++ more → (i : ℕ) (c : Const) → entry_of (pool ++ added) i ≡ Some c → entry_of (pool ++ new) i ≡ Some c
  still added new more grown i c e = subst (λ (a : List Const). entry_of (pool ++ a) i ≡ Some c) (sym grown) (longer added more i c e)

  entries_grow : (added more xs : List Const) → AllByRecursion (IsEntry (pool ++ added)) xs → AllByRecursion (IsEntry (pool ++ (added ++ more))) xs
  entries_grow added more [] q = tt
  entries_grow added more (x ∷ xs) q = (subst (λ (p : List Const). IsEntry p x) (append_assoc pool added more) (entry_grows (pool ++ added) more x q.0), entries_grow added more xs q.1)

  one_more : (entry : Const) (added : List Const) → AreAdded pool added → IsEntry (pool ++ added) entry → is_added_kind entry ≡ true → AreAdded pool (added ++ entry ∷ [])
  one_more entry added are right kind =
      let more = entry ∷ [] in
      record {
        entries = all_append (IsEntry (pool ++ (added ++ more))) added more (entries_grow added more added are.entries) (entries_grow added more (entry ∷ []) (right, tt));
        kinds = all_append (λ c. is_added_kind c ≡ true) added more are.kinds (kind, tt);
      }

  step_case : (entry : Const) (added : List Const) (o : Option ℕ) → position_from (is_entry entry) 1 (pool ++ added) ≡ o → AreAdded pool added → IsEntry (pool ++ added) entry → is_added_kind entry ≡ true
      → (x : ℕ × List Const) → within pool (found_or_added pool entry added o) ≡ Some x → Step pool entry added x
  step_case entry added (Some index) at are right kind x e =
      let k = when_true (nat_lt (length pool + length added + 1) (2 ^ 16)) (index, added) x e in
      let q = hit (is_entry entry) 1 index (pool ++ added) at in
      let there : entry_of (pool ++ added) index ≡ Some entry = ap (entry_of (pool ++ added)) q.2 ∙ entry_at (pool ++ added) q.1 ∙ q.3 ∙ ap Some (entry_is entry q.0 q.4) in
      subst (Step pool entry added) k.1 (record { more = []; grown = sym (append-nil added); are = are; stands = there })
  step_case entry added None at are right kind x e =
      let more = added ++ entry ∷ [] in
      let index = length pool + length added + 1 in
      let k = when_true (nat_lt (length pool + length more + 1) (2 ^ 16)) (index, more) x e in
      let whole = pool ++ added in
      let n : index ≡ 1 + length whole = omega (arith, length-append pool added) in
      let last : entry_of (whole ++ entry ∷ []) index ≡ Some entry = ap (entry_of (whole ++ entry ∷ [])) n ∙ entry_at (whole ++ entry ∷ []) (length whole) ∙ last_at whole entry in
      subst (Step pool entry added) k.1 (record { more = entry ∷ []; grown = refl; are = one_more entry added are right kind; stands = subst (λ (p : List Const). entry_of p index ≡ Some entry) (append_assoc pool added (entry ∷ [])) last })

  step : (entry : Const) (added : List Const) (x : ℕ × List Const) → AreAdded pool added → IsEntry (pool ++ added) entry → is_added_kind entry ≡ true → index_of pool entry added ≡ Some x → Step pool entry added x
  step entry added x are right kind e = step_case entry added (position_from (is_entry entry) 1 (pool ++ added)) refl are right kind x e

  -- ---- the entries one after the other

  some_and : {A : Type 0} (P : A → Type 0) (o : Option A) (x : A) → o ≡ Some x → P x → IsSomeAnd o P
  some_and P o x e p = subst (λ o. IsSomeAnd o P) (sym e) p

  text_by : (p : List Const) (i : ℕ) (units : List ℕ) → entry_of p i ≡ Some (const.Utf8 units) → text_of p i ≡ Some units
  text_by p i units e = ap (option_and_then text_in) e

  class_by : (p : List Const) (i t : ℕ) (units : List ℕ) → entry_of p i ≡ Some (const.Class t) → entry_of p t ≡ Some (const.Utf8 units) → class_name_of p i ≡ Some units
  class_by p i t units e f = ap (λ (o : Option Const). option_and_then (text_of p) (option_and_then class_in o)) e ∙ text_by p t units f

  desc_by : (p : List Const) (i n t : ℕ) (units : List ℕ) → entry_of p i ≡ Some (const.Pair n t) → entry_of p t ≡ Some (const.Utf8 units) → pair_desc_of p i ≡ Some units
  desc_by p i n t units e f = ap (λ (o : Option Const). option_and_then (λ (pair : ℕ × ℕ). text_of p pair.1) (option_and_then pair_in o)) e ∙ text_by p t units f

  -- an entry of this kind stands at the index
  pub record Got (P : Const → Type 0) (added : List Const) (x : ℕ × List Const) : Type 0 where
    pub more : List Const
    pub grown : x.1 ≡ added ++ more
    pub are : AreAdded pool x.1
    pub entry : Const
    pub stands : entry_of (pool ++ x.1) x.0 ≡ Some entry
    pub right : P entry

  pub grown_on : (added a b : List Const) (m n : List Const) → a ≡ added ++ m → b ≡ a ++ n → b ≡ added ++ (m ++ n)
  grown_on added a b m n p q = q ∙ ap (λ (x : List Const). x ++ n) p ∙ append_assoc added m n

  pub got_string : (added : List Const) (x : ℕ × List Const) → AreAdded pool added → empty_string pool added ≡ Some x → Got (λ c. (i : ℕ) × (c ≡ const.Text i)) added x
  got_string added x are e =
      let a = first_was (index_of pool (const.Utf8 []) added) (λ units. index_of pool (const.Text units.0) units.1) x e in
      let s = step (const.Utf8 []) added a.0 are tt refl a.1 in
      let t = step (const.Text a.0.0) a.0.1 x s.are (some_is (text_of (pool ++ a.0.1) a.0.0) [] (text_by (pool ++ a.0.1) a.0.0 [] s.stands)) refl a.2 in
      record { more = s.more ++ t.more; grown = grown_on added a.0.1 x.1 s.more t.more s.grown t.grown; are = t.are; entry = const.Text a.0.0; stands = t.stands; right = (a.0.0, refl) }

  pub got_method : (class name desc : List ℕ) → IsCall class name desc → (added : List Const) (x : ℕ × List Const) → AreAdded pool added → method_of pool class name desc added ≡ Some x → Got (λ c. (i : ℕ) × (j : ℕ) × (c ≡ const.Method i j)) added x
  got_method class name desc call added x are e =
      let a = first_was (index_of pool (const.Utf8 class) added) _ x e in
      let b = first_was (index_of pool (const.Class a.0.0) a.0.1) _ x a.2 in
      let c = first_was (index_of pool (const.Utf8 name) b.0.1) _ x b.2 in
      let d = first_was (index_of pool (const.Utf8 desc) c.0.1) _ x c.2 in
      let p = first_was (index_of pool (const.Pair c.0.0 d.0.0) d.0.1) _ x d.2 in
      let sa = step (const.Utf8 class) added a.0 are call.class_units refl a.1 in
      let sb = step (const.Class a.0.0) a.0.1 b.0 sa.are (some_and IsClassEntryName (text_of (pool ++ a.0.1) a.0.0) class (text_by (pool ++ a.0.1) a.0.0 class sa.stands) call.class_name) refl b.1 in
      let sc = step (const.Utf8 name) b.0.1 c.0 sb.are call.name_units refl c.1 in
      let sd = step (const.Utf8 desc) c.0.1 d.0 sc.are call.desc_units refl d.1 in
      let n_d = still c.0.1 d.0.1 sd.more sd.grown c.0.0 (const.Utf8 name) sc.stands in
      let pd = pool ++ d.0.1 in
      let sp = step (const.Pair c.0.0 d.0.0) d.0.1 p.0 sd.are
      (some_is (text_of pd c.0.0) name (text_by pd c.0.0 name n_d), some_and (λ units. HasKind units ⊎ HasMethodType units) (text_of pd d.0.0) desc (text_by pd d.0.0 desc sd.stands) (inr call.desc_type)) refl p.1 in
      let pp = pool ++ p.0.1 in
      let t_b = still a.0.1 b.0.1 sb.more sb.grown a.0.0 (const.Utf8 class) sa.stands in
      let t_c = still b.0.1 c.0.1 sc.more sc.grown a.0.0 (const.Utf8 class) t_b in
      let t_d = still c.0.1 d.0.1 sd.more sd.grown a.0.0 (const.Utf8 class) t_c in
      let t_p = still d.0.1 p.0.1 sp.more sp.grown a.0.0 (const.Utf8 class) t_d in
      let o_c = still b.0.1 c.0.1 sc.more sc.grown b.0.0 (const.Class a.0.0) sb.stands in
      let o_d = still c.0.1 d.0.1 sd.more sd.grown b.0.0 (const.Class a.0.0) o_c in
      let o_p = still d.0.1 p.0.1 sp.more sp.grown b.0.0 (const.Class a.0.0) o_d in
      let d_p = still d.0.1 p.0.1 sp.more sp.grown d.0.0 (const.Utf8 desc) sd.stands in
      let sm = step (const.Method b.0.0 p.0.0) p.0.1 x sp.are
      (some_is (class_name_of pp b.0.0) class (class_by pp b.0.0 a.0.0 class o_p t_p), some_and HasMethodType (pair_desc_of pp p.0.0) desc (desc_by pp p.0.0 c.0.0 d.0.0 desc sp.stands d_p) call.desc_type) refl p.2 in
      let g1 = grown_on added a.0.1 b.0.1 sa.more sb.more sa.grown sb.grown in
      let g2 = grown_on added b.0.1 c.0.1 _ sc.more g1 sc.grown in
      let g3 = grown_on added c.0.1 d.0.1 _ sd.more g2 sd.grown in
      let g4 = grown_on added d.0.1 p.0.1 _ sp.more g3 sp.grown in
      record { more = _; grown = grown_on added p.0.1 x.1 _ sm.more g4 sm.grown; are = sm.are; entry = const.Method b.0.0 p.0.0; stands = sm.stands; right = (b.0.0, p.0.0, refl) }

  -- ---- the pool with them

  pub none_added : AreAdded pool []
  none_added = record { entries = tt; kinds = tt }

  -- ---- `Second` stands behind the same entries as before

  slice_front : (xs ys : List Const) (k : ℕ) → k < length xs → slice_get (xs ++ ys) k ≡ slice_get xs k
  slice_front [] ys k lt = absurd (omega (arith, lt))
  slice_front (y ∷ xs) ys zero lt = refl
  slice_front (y ∷ xs) ys (suc k) lt = slice_front xs ys k (omega (arith, lt))

  slice_back : (xs ys : List Const) (k : ℕ) → length xs ≤ k → slice_get (xs ++ ys) k ≡ slice_get ys (k - length xs)
  slice_back [] ys k le = let same : k ≡ k - 0 = omega arith in ap (slice_get ys) same
  slice_back (y ∷ xs) ys zero le = absurd (omega (arith, le))
  slice_back (y ∷ xs) ys (suc k) le = let same : k - length xs ≡ suc k - suc (length xs) = omega arith in slice_back xs ys k (omega (arith, le)) ∙ ap (slice_get ys) same

  none_past : (xs : List Const) (k : ℕ) → length xs ≤ k → slice_get xs k ≡ None
  none_past [] k le = refl
  none_past (y ∷ xs) zero le = absurd (omega (arith, le))
  none_past (y ∷ xs) (suc k) le = none_past xs k (omega (arith, le))

  kind_not_second : (c : Const) → is_added_kind c ≡ true → c ≡ const.Second → ⊥
  kind_not_second c k e = absurd (let bad : is_added_kind const.Second ≡ true = subst (λ (c : Const). is_added_kind c ≡ true) e k in let worse : false ≡ true = bad in cc)

  not_second : (added : List Const) (k : ℕ) → AllByRecursion (λ c. is_added_kind c ≡ true) added → slice_get added k ≡ Some const.Second → ⊥
  not_second [] k q e = absurd cc
  not_second (c ∷ added) zero q e = kind_not_second c q.0 (let same : c ≡ const.Second = cc in same)
  not_second (c ∷ added) (suc k) q e = not_second added k q.1 e

  kind_not_wide : (c : Const) → is_added_kind c ≡ true → is_wide c ≡ true → ⊥
  kind_not_wide (const.Long n) k w = absurd cc
  kind_not_wide (const.Double bits) k w = absurd cc
  kind_not_wide other k w = absurd cc

  not_wide : (added : List Const) (k : ℕ) → AllByRecursion (λ c. is_added_kind c ≡ true) added → IsSomeAnd (slice_get added k) (λ c. is_wide c ≡ true) → ⊥
  not_wide [] k q h = absurd h
  not_wide (c ∷ added) zero q h = kind_not_wide c q.0 h
  not_wide (c ∷ added) (suc k) q h = not_wide added k q.1 h

  entry_next : (p : List Const) (i : ℕ) → entry_of p (i + 1) ≡ slice_get p i
  entry_next p i = let there : i + 1 ≡ 1 + i = omega arith in ap (entry_of p) there ∙ entry_at p i

  abbrev IsWideAt : List Const → ℕ → Type 0
  IsWideAt p i = IsSomeAnd (entry_of p i) (λ c. is_wide c ≡ true)

  abbrev Matches : List Const → ℕ → Type 0
  Matches p i = (entry_of p (i + 1) ≡ Some const.Second) ↔ IsWideAt p i

  -- an index of the pool, the last one, and one behind it
  inside : (added : List Const) (i : ℕ) → IsPoolForm pool → i < length pool → Matches (pool ++ added) i
  inside added zero form lt =
      let next : entry_of (pool ++ added) (0 + 1) ≡ entry_of pool (0 + 1) = entry_next (pool ++ added) 0 ∙ slice_front pool added 0 lt ∙ sym (entry_next pool 0) in
      (λ e. (form.seconds 0).0 (sym next ∙ e), λ h. absurd h)
  inside added (suc n) form lt =
      let next : entry_of (pool ++ added) (suc n + 1) ≡ entry_of pool (suc n + 1) = entry_next (pool ++ added) (suc n) ∙ slice_front pool added (suc n) lt ∙ sym (entry_next pool (suc n)) in
      let one : suc n ≡ n + 1 = omega arith in
      let here : entry_of (pool ++ added) (suc n) ≡ entry_of pool (suc n) = ap (entry_of (pool ++ added)) one ∙ entry_next (pool ++ added) n ∙ slice_front pool added n (omega (arith, lt)) ∙ sym (ap (entry_of pool) one ∙ entry_next pool n) in
      let form_here = form.seconds (suc n) in
      let W : Option Const → Type 0 = λ o. IsSomeAnd o (λ c. is_wide c ≡ true) in
      (λ e. subst W (sym here) (form_here.0 (sym next ∙ e)), λ h. next ∙ form_here.1 (subst W here h))

  no_second_behind : (added : List Const) (i : ℕ) → AllByRecursion (λ c. is_added_kind c ≡ true) added → length pool ≤ i → entry_of (pool ++ added) (i + 1) ≡ Some const.Second → ⊥
  no_second_behind added i kinds le e = not_second added (i - length pool) kinds (sym (entry_next (pool ++ added) i ∙ slice_back pool added i le) ∙ e)

  last_one : (added : List Const) (i : ℕ) → IsPoolForm pool → AllByRecursion (λ c. is_added_kind c ≡ true) added → i ≡ length pool → IsWideAt (pool ++ added) i → ⊥
  last_one added zero form kinds at h = h
  last_one added (suc n) form kinds at h =
      let one : suc n ≡ n + 1 = omega arith in
      let here : entry_of (pool ++ added) (suc n) ≡ entry_of pool (suc n) = ap (entry_of (pool ++ added)) one ∙ entry_next (pool ++ added) n ∙ slice_front pool added n (omega (arith, at)) ∙ sym (ap (entry_of pool) one ∙ entry_next pool n) in
      let W : Option Const → Type 0 = λ o. IsSomeAnd o (λ c. is_wide c ≡ true) in
      let second = (form.seconds (suc n)).1 (subst W here h) in
      let none : entry_of pool (suc n + 1) ≡ None = entry_next pool (suc n) ∙ none_past pool (suc n) (omega (arith, at)) in
      let bad : None ≡ Some const.Second = sym none ∙ second in absurd cc

  no_wide_behind : (added : List Const) (i : ℕ) → AllByRecursion (λ c. is_added_kind c ≡ true) added → length pool < i → IsWideAt (pool ++ added) i → ⊥
  no_wide_behind added zero kinds lt h = h
  no_wide_behind added (suc n) kinds lt h =
      let one : suc n ≡ n + 1 = omega arith in
      let here : entry_of (pool ++ added) (suc n) ≡ slice_get added (n - length pool) = ap (entry_of (pool ++ added)) one ∙ entry_next (pool ++ added) n ∙ slice_back pool added n (omega (arith, lt)) in
      let W : Option Const → Type 0 = λ o. IsSomeAnd o (λ c. is_wide c ≡ true) in
      not_wide added (n - length pool) kinds (subst W here h)

  seconds_kept : (added : List Const) → IsPoolForm pool → AllByRecursion (λ c. is_added_kind c ≡ true) added → (i : ℕ) → Matches (pool ++ added) i
  seconds_kept added form kinds i = elim (cases_lt i (length pool)) [
    | inl less ↦ inside added i form less
    | inr above ↦ (λ e. absurd (no_second_behind added i kinds above e), λ h. absurd (elim (cases_lt (length pool) i) [ inl past ↦ no_wide_behind added i kinds past h | inr same ↦ last_one added i form kinds (omega arith) h ]))
  ]

  old_entries : (added xs : List Const) → AllByRecursion (IsEntry pool) xs → AllByRecursion (IsEntry (pool ++ added)) xs
  old_entries added [] q = tt
  old_entries added (x ∷ xs) q = (entry_grows pool added x q.0, old_entries added xs q.1)

  -- The pool with the entries that an edit adds is in its form.
  pub pool_kept : (added : List Const) → IsPoolForm pool → AreAdded pool added → IsPoolForm (pool ++ added)
  pool_kept added form are = record {
    entries = all_append (IsEntry (pool ++ added)) pool added (old_entries added pool form.entries) are.entries;
    seconds = seconds_kept added form are.kinds;
  }
