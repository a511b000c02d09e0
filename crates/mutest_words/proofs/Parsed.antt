-- What a parse says of the words.
use Rattle.std.proofs.Common.{◌≡◌, ℕ, zero, suc, ◌+◌, ◌<◌, refl, sym, ap, ◌∙◌, true, List, [], ◌∷◌, ◌++◌, Some, None, inl, inr, map, take, length, slice_index_or, arith, Bor, Bool, false, Option, option_map}
use Rattle.std.specs.Prelude.{◌&&◌, option_and_then}
use Rattle.std.proofs.lemmas.List.{map-append}
use Rattle.clap.specs.Words.{App, Row, Rule, Text, is_simple, is_simple_and_free, found_of, rows_of, fault_of, matches_of, HasKind, Kinds, kind_of, with_rule}
use Rattle.clap.specs.declared.error.Error.{Error}
use Rattle.clap.specs.declared.parser.matches.ArgMatches.{ArgMatches}
use Rattle.clap.specs.declared.error.kind.ErrorKind.TheVariants.{OutOfMemory}
use Rattle.mutest_words.specs.Given.{GivesRows, read, if_none, with_all, texts}

left_true : (a b : Bool) → a && b ≡ true → a ≡ true
left_true true b e = refl
left_true false b e = absurd cc

pub free_is_simple : (a : App) → is_simple_and_free a ≡ true → is_simple a ≡ true
free_is_simple a e = left_true (is_simple a) _ e

pub read_rows : (a : App) (words : List Text) (rows : List Row) → rows ≡ matches_of a words → fault_of a words ≡ [] → Some rows ≡ read a words
unfolding read
read_rows a words rows same none = ap Some same ∙ sym (ap (λ (ks : Kinds). if_none ks (matches_of a words)) none)

nothing : (kinds : Kinds) (e : Error) (rows : List Row) → HasKind kinds e → (kind_of e ≡ OutOfMemory → ⊥) → None ≡ if_none kinds rows
nothing [] e rows (inl memory) known = absurd (known memory)
nothing [] e rows (inr among) known = absurd among
nothing (k ∷ ks) e rows has known = refl

pub read_none : (a : App) (words : List Text) (e : Error) → HasKind (fault_of a words) e → (kind_of e ≡ OutOfMemory → ⊥) → None ≡ read a words
unfolding read
read_none a words e has known = nothing (fault_of a words) e (matches_of a words) has known

with_all-both : (a : App) (rs ss : List Rule) → with_all a (rs ++ ss) ≡ with_all (with_all a rs) ss
with_all-both a [] ss = refl
with_all-both a (r ∷ rs) ss = with_all-both (with_rule a r) rs ss

take_more : {X : Type 0} (xs : List X) (i : ℕ) (d : X) → i < length xs → take (suc i) xs ≡ take i xs ++ slice_index_or xs i d ∷ []
take_more [] i d lt = absurd (omega arith)
take_more (x ∷ xs) zero d lt = refl
take_more (x ∷ xs) (suc i) d lt = ap (λ l. x ∷ l) (take_more xs i d (omega arith))

-- one name more
pub with_more : (f : Text → Rule) (names : List (Bor (List ℕ))) (i : ℕ) (d : Bor (List ℕ)) (a : App) → i < length names → with_all a (map f (texts (take (i + 1) names))) ≡ with_rule (with_all a (map f (texts (take i names)))) (f (slice_index_or names i d).now)
with_more f names i d a lt =
    let s : i + 1 ≡ suc i = omega arith in
    ap (λ n. with_all a (map f (texts (take n names)))) s
    ∙ ap (λ l. with_all a (map f (texts l))) (take_more names i d lt)
    ∙ ap (λ l. with_all a (map f l)) (map-append (λ (w : Bor (List ℕ)). w.now) (take i names) (slice_index_or names i d ∷ []))
    ∙ ap (with_all a) (map-append f (texts (take i names)) ((slice_index_or names i d).now ∷ []))
    ∙ with_all-both a (map f (texts (take i names))) (f (slice_index_or names i d).now ∷ [])

-- ---- what a command makes of the rows that words give

module _ {X : Type 0} where
  -- where words give rows
  pub made_of : (make : List Row → Option X) (stated : Option (List Row)) (found : Option ArgMatches) (m : ArgMatches) → GivesRows stated found → found ≡ Some m → make (rows_of (found_of m)) ≡ option_and_then make stated
  made_of make stated found m gives is =
      let rows : Some (rows_of (found_of m)) ≡ stated = ap (option_map (λ (x : ArgMatches). rows_of (found_of x))) (sym is) ∙ gives in
      ap (option_and_then make) rows

  -- where they give none
  pub none_of : (make : List Row → Option X) (stated : Option (List Row)) (found : Option ArgMatches) → GivesRows stated found → found ≡ None → None ≡ option_and_then make stated
  none_of make stated found gives is =
      let rows : None ≡ stated = ap (option_map (λ (x : ArgMatches). rows_of (found_of x))) (sym is) ∙ gives in
      ap (option_and_then make) rows
