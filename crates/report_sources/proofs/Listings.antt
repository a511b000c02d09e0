-- Paths that are listed: one that isn't isn't held.
use Rattle.std.proofs.Common.{◌≡◌, ℕ, Bool, true, false, cond, ◌||◌, ◌&&◌, List, [], ◌∷◌, ◌++◌, Option, Some, None, String, Global, refl, sym, ap, ◌∙◌, eq-eqb}
use Rattle.std.specs.Prelude.{is_some}
use Rattle.std.specs.BTreeSet.{BTreeSet}
use Rattle.std.specs.FinMap.{get, keys, contains_key-keys}
use Rattle.std.specs.List.{filter, list_any}
use Rattle.std.specs.Ordering.{nat_cmp, eq_by_cmp}
use Rattle.std.specs.Cmp.Lexicographic.{slice_cmp, same_text}
use Rattle.std.specs.Str.{bytes_eq}
use Rattle.std.proofs.lemmas.Map.Text.{is_eq-slice_cmp}
use Rattle.mt_edge.specs.Files.{Files, begins_with, listed, slash}
use Rattle.report_sources.specs.Sources.{path_below, Names, IsKnown}

-- ---- a path that isn't listed isn't held

same_bytes : (p q : List ℕ) → bytes_eq p q ≡ true → p ≡ q
same_bytes p q e = same_text p q (sym e)

kept_by : (front path : List ℕ) (k : List ℕ) (ks : List (List ℕ)) → begins_with front path ≡ true → (b d : Bool) → bytes_eq path k ≡ b → begins_with front k ≡ d
    → list_any (bytes_eq path) (filter (begins_with front) ks) ≡ list_any (bytes_eq path) ks
    → list_any (bytes_eq path) (cond d (k ∷ filter (begins_with front) ks) (filter (begins_with front) ks)) ≡ (b || list_any (bytes_eq path) ks)
kept_by front path k ks begins b true e f rest = (λ i. e i || rest i)
kept_by front path k ks begins true false e f rest = let no : true ≡ false = sym begins ∙ ap (begins_with front) (same_bytes path k e) ∙ f in absurd cc
kept_by front path k ks begins false false e f rest = rest

-- what a test lets through, where the path passes it
any_kept : (front path : List ℕ) (ks : List (List ℕ)) → begins_with front path ≡ true → list_any (bytes_eq path) (filter (begins_with front) ks) ≡ list_any (bytes_eq path) ks
any_kept front path [] begins = refl
any_kept front path (k ∷ ks) begins = kept_by front path k ks begins (bytes_eq path k) (begins_with front k) refl refl (any_kept front path ks begins)

any_key : (path : List ℕ) (ks : List (List ℕ)) → list_any (eq_by_cmp (slice_cmp nat_cmp) path) ks ≡ list_any (bytes_eq path) ks
any_key path [] = refl
any_key path (k ∷ ks) = λ i. is_eq-slice_cmp path k i || any_key path ks i

none_held : (o : Option (List ℕ)) → is_some o ≡ false → o ≡ None
none_held None e = refl
none_held (Some x) e = absurd cc

begins : (front rest : List ℕ) → begins_with front (front ++ rest) ≡ true
begins [] rest = refl
begins (x ∷ xs) rest = ap (λ b. b && begins_with xs (xs ++ rest)) (eq-eqb x x refl) ∙ begins xs rest

pub unlisted : (folder key : List ℕ) (files : Files) → list_any (bytes_eq (path_below folder key)) (listed folder files) ≡ false → get files (path_below folder key) ≡ None
unlisted folder key files e =
    let front = folder ++ slash ∷ [] in
    let path = path_below folder key in
    none_held (get files path) (contains_key-keys files path ∙ any_key path (keys files) ∙ sym (any_kept front path (keys files) (begins front key)) ∙ e)

pub known : (held : Option Files) (folder key : List ℕ) (paths : BTreeSet (String Global)) → Names held folder paths → IsKnown held paths (path_below folder key)
known None folder key paths names = tt
known (Some files) folder key paths names = λ none. unlisted folder key files (sym (names (path_below folder key)) ∙ none)

-- ---- a set with one path more

same_flipped : (p q : List ℕ) (b d : Bool) → bytes_eq p q ≡ b → bytes_eq q p ≡ d → b ≡ d
same_flipped p q true true e f = refl
same_flipped p q false false e f = refl
same_flipped p q true false e f = let s : p ≡ q = same_bytes p q e in sym e ∙ (λ i. bytes_eq (s i) (sym s i)) ∙ f
same_flipped p q false true e f = let s : q ≡ p = same_bytes q p f in sym e ∙ (λ i. bytes_eq (sym s i) (s i)) ∙ f

one_path : (b x : Bool) → cond b true x ≡ (x || b)
one_path true true = refl
one_path true false = refl
one_path false true = refl
one_path false false = refl

pub inserted : (path q : List ℕ) (old new : Bool) → new ≡ cond (bytes_eq path q) true old → new ≡ (old || bytes_eq q path)
inserted path q old new e = e ∙ one_path (bytes_eq path q) old ∙ ap (λ b. old || b) (same_flipped path q (bytes_eq path q) (bytes_eq q path) refl refl)
