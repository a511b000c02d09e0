-- One file more.
use Rattle.std.proofs.Common.{◌≡◌, ℕ, suc, ◌+◌, List, [], ◌∷◌, ◌++◌, length, sym, subst, arith}
use Rattle.std.proofs.lemmas.List.{length-append}
use Rattle.class_asm.specs.Assembled.{IsAssembled}
use Rattle.suite_generator.specs.Suite.{AreAssembled, AreFilesOf}

assembled_on : (text : ℕ → List ℕ) (k : ℕ) (files : List (List ℕ)) (file : List ℕ) → AreAssembled text k files → IsAssembled (text (k + length files)) file → AreAssembled text k (files ++ file ∷ [])
assembled_on text k [] file are is =
    let e : k + 0 ≡ k = omega arith in
    (subst (λ n. IsAssembled (text n) file) e is, tt)
assembled_on text k (x ∷ files) file are is =
    let e : k + suc (length files) ≡ suc k + length files = omega arith in
    (are.0, assembled_on text (suc k) files file are.1 (subst (λ n. IsAssembled (text n) file) e is))

pub one_more : (text : ℕ → List ℕ) (n : ℕ) (old new : List (List ℕ)) (file : List ℕ) → new ≡ old ++ file ∷ [] → AreFilesOf text n old → IsAssembled (text n) file → AreFilesOf text (n + 1) new
one_more text n old new file pushed are is =
    let size = are.0 in
    let long : length (old ++ file ∷ []) ≡ n + 1 = omega (arith, length-append old (file ∷ []), size) in
    let here : n ≡ 0 + length old = omega (arith, size) in
    let more = assembled_on text 0 old file are.1 (subst (λ k. IsAssembled (text k) file) here is) in
    subst (λ l. AreFilesOf text (n + 1) l) (sym pushed) (long, more)
