-- Lengths of runs, where a record more names names.
use Rattle.std.proofs.Common.{◌≡◌, ◌∙◌, ℕ, suc, ◌+◌, ◌<◌, Bool, true, false, List, [], ◌∷◌, ◌++◌, get_or, length, take, refl, sym, ap, subst, arith}
use Rattle.std.specs.Prelude.{◌&&◌, ◌||◌, nat_eq, if◌then◌else◌}
use Rattle.std.proofs.lemmas.Bool.{and_parts, eqb-true, ne_eqb}
use Rattle.std.proofs.lemmas.List.{take_more}
use Rattle.history_file.specs.declared.row.Entry.{Entry}
use Rattle.history_index.specs.declared.runs.Runs.{Runs}
use Rattle.history_index.specs.Firsts.{run_at, SetsRun}
use Rattle.history_index.specs.Lookouts.{is_name_in, Lengthens, LengthensOne}

-- one length is as it was, or is another
kept_case : (a b c : Bool) (after m : ℕ) → (a && b ≡ true → c ≡ false) → m ≡ (if a && (b && c) then after else m)
kept_case true true true after m h = absurd (let f : true ≡ false = h refl in cc)
kept_case true true false after m h = refl
kept_case true false c after m h = refl
kept_case false b c after m h = refl

set_case : (a b c : Bool) (after m : ℕ) → (a && b ≡ true → c ≡ true) → (if a && b then after else m) ≡ (if a && (b && c) then after else m)
set_case true true true after m h = refl
set_case true true false after m h = absurd (let f : false ≡ true = h refl in cc)
set_case true false c after m h = refl
set_case false b c after m h = refl

at_own : (test before name t k : ℕ) (r : Runs) (b : Bool) → nat_eq (run_at r test name) before ≡ b → nat_eq test t && nat_eq name k ≡ true → nat_eq (run_at r t k) before ≡ b
at_own test before name t k r b h both =
    let p = and_parts (nat_eq test t) (nat_eq name k) both in
    subst (λ z. nat_eq (run_at r t z) before ≡ b) (eqb-true name k p.1) (subst (λ z. nat_eq (run_at r z name) before ≡ b) (eqb-true test t p.0) h)

pub one_kept : (test before after name : ℕ) (r : Runs) → nat_eq (run_at r test name) before ≡ false → LengthensOne test before after name r r
one_kept test before after name r h t k = kept_case (nat_eq test t) (nat_eq name k) (nat_eq (run_at r t k) before) after (run_at r t k) (at_own test before name t k r false h)

pub one_set : (test before after name : ℕ) (old new : Runs) → nat_eq (run_at old test name) before ≡ true → SetsRun test name after old new → LengthensOne test before after name old new
one_set test before after name old new h sets t k = sets t k ∙ set_case (nat_eq test t) (nat_eq name k) (nat_eq (run_at old t k) before) after (run_at old t k) (at_own test before name t k old true h)

-- ---- one name more

named_more : (k : ℕ) (es : List Entry) (e : Entry) → is_name_in k (es ++ e ∷ []) ≡ is_name_in k es || nat_eq e.name k
named_more k [] e = or_false (nat_eq e.name k)
  where
    or_false : (b : Bool) → b || false ≡ b
    or_false true = refl
    or_false false = refl
named_more k (d ∷ es) e = ap (λ b. nat_eq d.name k || b) (named_more k es e) ∙ assoc (nat_eq d.name k) (is_name_in k es) (nat_eq e.name k)
  where
    assoc : (a b c : Bool) → a || (b || c) ≡ (a || b) || c
    assoc true b c = refl
    assoc false b c = refl

not_suc : (n : ℕ) → nat_eq (suc n) n ≡ false
not_suc n = ne_eqb (suc n) n (λ e. let s = e in omega (arith, s))

-- a length that was set isn't set again
twice : (t s e : Bool) (before m : ℕ) (o : Bool) → o ≡ nat_eq m before → (if t && (e && nat_eq (if t && (s && o) then suc before else m) before) then suc before else (if t && (s && o) then suc before else m)) ≡ (if t && ((s || e) && o) then suc before else m)
twice false s e before m o is = refl
twice true true false before m o is = refl
twice true true true before m true is = ap (λ b. if b then suc before else suc before) (not_suc before)
twice true true true before m false is = ap (λ b. if b then suc before else m) (sym is)
twice true false true before m o is = ap (λ b. if b then suc before else m) (sym is)
twice true false false before m o is = refl

pub lengths_step : (test before after : ℕ) (es : List Entry) (i : ℕ) (d : Entry) (start old new : Runs) → after ≡ suc before → i < length es → Lengthens test before (take i es) start old → LengthensOne test before after (get_or es i d).name old new → Lengthens test before (take (i + 1) es) start new
lengths_step test before after es i d start old new next lt known one t k =
    let name = (get_or es i d).name in
    let named = is_name_in k (take i es) in
    let at = nat_eq (run_at start t k) before in
    one t k
    ∙ ap (λ n. if nat_eq test t && (nat_eq name k && nat_eq (run_at old t k) before) then n else run_at old t k) next
    ∙ ap (λ m. if nat_eq test t && (nat_eq name k && nat_eq m before) then suc before else m) (known t k)
    ∙ twice (nat_eq test t) named (nat_eq name k) before (run_at start t k) at refl
    ∙ ap (λ b. if nat_eq test t && (b && at) then suc before else run_at start t k) (sym (named_more k (take i es) (get_or es i d)) ∙ ap (is_name_in k) (sym (take_more es i d lt)))
