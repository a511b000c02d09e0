use Rattle.std.proofs.Common.{◌≡◌, ◌∙◌, ◌<◌, ◌++◌, ℕ, Bor, List, [], length, map, take, sym, ap₂, subst, arith}
use Rattle.std.proofs.lemmas.List.{append-nil, length-map, take-map}
use Rattle.std.proofs.lemmas.List.Elements.{All-get_or}
use Rattle.history_file.specs.Texts.{number_in}
use Rattle.history_file.proofs.Spelled.{no_slice}
use Rattle.new_history.specs.Numbering.{IsShort, classes_by}
use Rattle.new_history.proofs.Picking.{get_mapped}
use Rattle.new_history.proofs.Tables.{unseen}
use Rattle.new_history.proofs.class_numbers.ClassNumbers.of.Goals as goal

there : (xs : List (Bor (List ℕ))) (i : ℕ) → i < length xs → i < length (map (λ s. s.now) xs)
there xs i lt = let long = length-map xs (λ s. s.now) in omega (arith, long, lt)

pub add_old-requires-clause-short : goal.add_old-requires-clause-short
add_old-requires-clause-short c =
    let xs = c.args.classes.now in
    let i = c.loop-class.class-index in
    subst IsShort (get_mapped (λ s. s.now) xs i no_slice) (All-get_or IsShort (map (λ s. s.now) xs) i [] (there xs i c.loop-class-test.true) c.requires.short)

pub add_old-requires-clause-fresh : goal.add_old-requires-clause-fresh
add_old-requires-clause-fresh c =
    let xs = c.args.classes.now in
    let i = c.loop-class.class-index in
    let all = map (λ s. s.now) xs in
    let have : classes_by c.loop-class.numbers ≡ take i all = ap₂ (λ (ys zs : List (List ℕ)). ys ++ zs) c.loop-class.invariant.classes c.loop-class.invariant.none ∙ append-nil (map (λ s. s.now) (take i xs)) ∙ sym (take-map (λ s. s.now) i xs) in
    ap₂ number_in have (sym (get_mapped (λ s. s.now) xs i no_slice)) ∙ unseen all i [] c.requires.once (there xs i c.loop-class-test.true)
