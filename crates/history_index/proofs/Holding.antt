-- What entries say of a program in which one class is another.
use Rattle.std.proofs.Common.{◌≡◌, ◌∙◌, ℕ, Bool, true, false, cond, List, [], ◌∷◌, Option, Some, None, refl, sym, ap}
use Rattle.std.specs.Prelude.{◌&&◌, ◌||◌, not, find, nat_eq, if◌then◌else◌}
use Rattle.std.specs.List.{list_all}
use Rattle.std.specs.Option.{unwrap_or}
use Rattle.std.proofs.lemmas.Bool.{eqb-true, eq-eqb}
use Rattle.history_file.specs.declared.row.Entry.{Entry}
use Rattle.history_index.specs.Standings.{Standing, standing_with}
use Rattle.history_index.specs.Lookouts.{holds, is_name_in, is_number, is_same}

and_false : (a : Bool) → a && false ≡ false
and_false true = refl
and_false false = refl

or_false : (a : Bool) → a ≡ a || false
or_false true = refl
or_false false = refl

-- ---- the class of one name is another

-- that what is so under one class isn't under another
other_number : (o c : Option ℕ) (k : ℕ) → is_same o c ≡ false → is_number o k ≡ true → is_number c k ≡ false
other_number None c k apart h = absurd cc
other_number (Some a) None k apart h = refl
other_number (Some a) (Some b) k apart h = by (nat_eq b k) refl
  where
    by : (x : Bool) → x ≡ nat_eq b k → x ≡ false
    by true e =
        let at : a ≡ b = eqb-true a k h ∙ sym (eqb-true b k (sym e)) in
        sym (eq-eqb a b at) ∙ apart
    by false e = refl

-- an entry of the name, and of another
held_case : (s : Standing) (k : ℕ) (c : Option ℕ) (e : Entry) (x b : Bool) (all with named : Bool) → is_same (s k) c ≡ false → x ≡ holds s e → b ≡ nat_eq e.name k → all && with ≡ all && not named → (x && all) && (is_number (if b then c else s e.name) e.class && with) ≡ (x && all) && not (b || named)
held_case s k c e false b all with named apart h f g = refl
held_case s k c e true true all with named apart h f g =
    let at : is_number (s k) e.class ≡ true = ap (λ n. is_number (s n) e.class) (sym (eqb-true e.name k (sym f))) ∙ sym h in
    ap (λ z. all && (z && with)) (other_number (s k) c e.class apart at)
held_case s k c e true false all with named apart h f g = ap (λ z. all && (z && with)) (sym h) ∙ g

pub both_hold : (s : Standing) (k : ℕ) (c : Option ℕ) (es : List Entry) → is_same (s k) c ≡ false → list_all (holds s) es && list_all (holds (standing_with s k c)) es ≡ list_all (holds s) es && not (is_name_in k es)
both_hold s k c [] apart = refl
both_hold s k c (e ∷ es) apart = held_case s k c e (holds s e) (nat_eq e.name k) (list_all (holds s) es) (list_all (holds (standing_with s k c)) es) (is_name_in k es) apart refl refl (both_hold s k c es apart)

-- under none for a name, entries of it never hold
none_case : (s : Standing) (e : Entry) (x b all with : Bool) → x ≡ holds s e → not all && with ≡ false → not (x && all) && (is_number (if b then None else s e.name) e.class && with) ≡ false
none_case s e x true all with h g = and_false (not (x && all))
none_case s e true false all with h g = ap (λ z. not all && (z && with)) (sym h) ∙ g
none_case s e false false all with h g = ap (λ z. z && with) (sym h)

pub none_more : (s : Standing) (k : ℕ) (es : List Entry) → not (list_all (holds s) es) && list_all (holds (standing_with s k None)) es ≡ false
none_more s k [] = refl
none_more s k (e ∷ es) = none_case s e (holds s e) (nat_eq e.name k) (list_all (holds s) es) (list_all (holds (standing_with s k None)) es) refl (none_more s k es)

-- a record of a test matches the edited program where it matches and doesn't name it, or would
pub parted : (o a w m : Bool) → a && w ≡ a && not m → o && w ≡ ((o && a) && not m) || (o && (not a && w))
parted false a w m h = refl
parted true true w m h = h ∙ or_false (not m)
parted true false w m h = refl

pub parted_none : (o a w m : Bool) → a && w ≡ a && not m → not a && w ≡ false → o && w ≡ (o && a) && not m
parted_none false a w m h none = refl
parted_none true true w m h none = h
parted_none true false w m h none = none

-- ---- the first entry that misses

none_missed : (x : Bool) (e : Entry) (rest : Option Entry) (all : Bool) → (rest ≡ None → all ≡ true) → cond (not x) (Some e) rest ≡ None → x && all ≡ true
none_missed true e rest all h n = h n
none_missed false e rest all h n = absurd cc

pub all_held : (s : Standing) (es : List Entry) → find (λ e. not (holds s e)) es ≡ None → list_all (holds s) es ≡ true
all_held s [] h = refl
all_held s (e ∷ es) h = none_missed (holds s e) e (find (λ e. not (holds s e)) es) (list_all (holds s) es) (all_held s es) h

entry_is : (d e : Entry) → Some d ≡ Some e → d ≡ e
entry_is d e h = ap (λ o. unwrap_or o d) h

-- what the first that misses fails, all fail
missed_case : (g : Entry → Bool) (d e : Entry) (x : Bool) (rest : Option Entry) (all : Bool) → g e ≡ false → (rest ≡ Some e → all ≡ false) → cond (not x) (Some d) rest ≡ Some e → g d && all ≡ false
missed_case g d e false rest all fails h is = ap (λ z. g z && all) (entry_is d e is) ∙ ap (λ z. z && all) fails
missed_case g d e true rest all fails h is = ap (λ z. g d && z) (h is) ∙ and_false (g d)

pub missed : (s : Standing) (g : Entry → Bool) (e : Entry) (es : List Entry) → g e ≡ false → find (λ e. not (holds s e)) es ≡ Some e → list_all g es ≡ false
missed s g e [] fails is = absurd cc
missed s g e (d ∷ es) fails is = missed_case g d e (holds s d) (find (λ e. not (holds s e)) es) (list_all g es) fails (missed s g e es fails) is

miss_case : (s : Standing) (d e : Entry) (x : Bool) (rest : Option Entry) → x ≡ holds s d → (rest ≡ Some e → holds s e ≡ false) → cond (not x) (Some d) rest ≡ Some e → holds s e ≡ false
miss_case s d e false rest f h is = ap (holds s) (sym (entry_is d e is)) ∙ sym f
miss_case s d e true rest f h is = h is

pub miss_is : (s : Standing) (e : Entry) (es : List Entry) → find (λ e. not (holds s e)) es ≡ Some e → holds s e ≡ false
miss_is s e [] is = absurd cc
miss_is s e (d ∷ es) is = miss_case s d e (holds s d) (find (λ e. not (holds s e)) es) refl (miss_is s e es) is

-- only under its own class would they hold
other_class : (c k : ℕ) (b : Bool) → b ≡ nat_eq k c → b ≡ false → nat_eq c k ≡ false
other_class c k b e f = by (nat_eq c k) refl
  where
    by : (x : Bool) → x ≡ nat_eq c k → x ≡ false
    by true g = sym (eq-eqb k c (sym (eqb-true c k (sym g)))) ∙ sym e ∙ f
    by false g = refl

pub only_own : (s : Standing) (e : Entry) (es : List Entry) (k c : ℕ) → find (λ e. not (holds s e)) es ≡ Some e → list_all (holds (standing_with s k (Some c))) es ≡ (nat_eq e.name k && nat_eq e.class c) && list_all (holds (standing_with s e.name (Some e.class))) es
only_own s e es k c is = by (nat_eq e.name k) (nat_eq e.class c) refl refl
  where
    misses : (x y : Bool) → x ≡ nat_eq e.name k → y ≡ nat_eq e.class c → x && y ≡ false → holds (standing_with s k (Some c)) e ≡ false
    misses true y f g h = ap (λ z. is_number (if z then Some c else s e.name) e.class) (sym f) ∙ other_class c e.class y g h
    misses false y f g h = ap (λ z. is_number (if z then Some c else s e.name) e.class) (sym f) ∙ miss_is s e es is

    by : (x y : Bool) → x ≡ nat_eq e.name k → y ≡ nat_eq e.class c → list_all (holds (standing_with s k (Some c))) es ≡ (x && y) && list_all (holds (standing_with s e.name (Some e.class))) es
    by true true f g = ap (λ z. list_all (holds (standing_with s z (Some c))) es) (sym (eqb-true e.name k (sym f))) ∙ ap (λ z. list_all (holds (standing_with s e.name (Some z))) es) (sym (eqb-true e.class c (sym g)))
    by true false f g = missed s (holds (standing_with s k (Some c))) e es (misses true false f g refl) is
    by false y f g = missed s (holds (standing_with s k (Some c))) e es (misses false y f g refl) is
