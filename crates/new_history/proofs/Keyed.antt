-- Rows are equal where their keys are.
use Rattle.std.proofs.Common.{◌≡◌, ◌∙◌, ℕ, List, [], ◌∷◌, ◌++◌, length, refl, sym, ap, arith}
use Rattle.std.specs.List.{flat_map}
use Rattle.std.proofs.lemmas.List.Concat.{flat_map-cons}
use Rattle.history_file.specs.declared.row.End.{End}
use Rattle.history_file.specs.declared.row.End.TheVariants as end
use Rattle.history_file.specs.declared.row.Entry.{Entry}
use Rattle.history_file.specs.declared.row.Row.{Row}
use Rattle.new_history.specs.Keys.{end_tag, end_name, entry_key, pair_key, key_of}

end_is : (a b : End) → end_tag a ≡ end_tag b → end_name a ≡ end_name b → a ≡ b
end_is end.Passed end.Passed t n = refl
end_is end.Passed end.Returned t n = absurd (omega (arith, t))
end_is end.Passed (end.Thrown k) t n = absurd (omega (arith, t))
end_is end.Passed end.TimedOut t n = absurd (omega (arith, t))
end_is end.Passed end.MemoryOut t n = absurd (omega (arith, t))
end_is end.Returned end.Passed t n = absurd (omega (arith, t))
end_is end.Returned end.Returned t n = refl
end_is end.Returned (end.Thrown k) t n = absurd (omega (arith, t))
end_is end.Returned end.TimedOut t n = absurd (omega (arith, t))
end_is end.Returned end.MemoryOut t n = absurd (omega (arith, t))
end_is (end.Thrown k) end.Passed t n = absurd (omega (arith, t))
end_is (end.Thrown k) end.Returned t n = absurd (omega (arith, t))
end_is (end.Thrown k) (end.Thrown j) t n = ap (λ (i : ℕ). end.Thrown i) n
end_is (end.Thrown k) end.TimedOut t n = absurd (omega (arith, t))
end_is (end.Thrown k) end.MemoryOut t n = absurd (omega (arith, t))
end_is end.TimedOut end.Passed t n = absurd (omega (arith, t))
end_is end.TimedOut end.Returned t n = absurd (omega (arith, t))
end_is end.TimedOut (end.Thrown k) t n = absurd (omega (arith, t))
end_is end.TimedOut end.TimedOut t n = refl
end_is end.TimedOut end.MemoryOut t n = absurd (omega (arith, t))
end_is end.MemoryOut end.Passed t n = absurd (omega (arith, t))
end_is end.MemoryOut end.Returned t n = absurd (omega (arith, t))
end_is end.MemoryOut (end.Thrown k) t n = absurd (omega (arith, t))
end_is end.MemoryOut end.TimedOut t n = absurd (omega (arith, t))
end_is end.MemoryOut end.MemoryOut t n = refl

-- ---- lists of entries and of lines

entries_key : (e : Entry) (es : List Entry) (more : List ℕ) → flat_map entry_key (e ∷ es) ++ more ≡ e.name ∷ e.class ∷ (flat_map entry_key es ++ more)
entries_key e es more = ap (λ (ks : List ℕ). ks ++ more) (flat_map-cons entry_key e es)

entries_are : (xs ys : List Entry) (a b : List ℕ) → length xs ≡ length ys → flat_map entry_key xs ++ a ≡ flat_map entry_key ys ++ b → (xs ≡ ys) × (a ≡ b)
entries_are [] [] a b l e = (refl, e)
entries_are [] (y ∷ ys) a b l e = absurd (omega (arith, l))
entries_are (x ∷ xs) [] a b l e = absurd (omega (arith, l))
entries_are (x ∷ xs) (y ∷ ys) a b l e =
    let f = sym (entries_key x xs a) ∙ e ∙ entries_key y ys b in
    let n : x.name ≡ y.name = cc in
    let c : x.class ≡ y.class = cc in
    let r : flat_map entry_key xs ++ a ≡ flat_map entry_key ys ++ b = cc in
    let h = entries_are xs ys a b (omega (arith, l)) r in
    let s = h.0 in ((λ i. record { name = n i; class = c i } ∷ s i), h.1)

pairs_are : (xs ys : List (ℕ × ℕ)) → flat_map pair_key xs ≡ flat_map pair_key ys → xs ≡ ys
pairs_are [] [] e = refl
pairs_are [] (y ∷ ys) e = let f : [] ≡ y.0 ∷ y.1 ∷ flat_map pair_key ys = e ∙ flat_map-cons pair_key y ys in absurd cc
pairs_are (x ∷ xs) [] e = let f : x.0 ∷ x.1 ∷ flat_map pair_key xs ≡ [] = sym (flat_map-cons pair_key x xs) ∙ e in absurd cc
pairs_are (x ∷ xs) (y ∷ ys) e =
    let f : x.0 ∷ x.1 ∷ flat_map pair_key xs ≡ y.0 ∷ y.1 ∷ flat_map pair_key ys = sym (flat_map-cons pair_key x xs) ∙ e ∙ flat_map-cons pair_key y ys in
    let p : x.0 ≡ y.0 = cc in
    let q : x.1 ≡ y.1 = cc in
    let r : flat_map pair_key xs ≡ flat_map pair_key ys = cc in
    let s = pairs_are xs ys r in λ i. (p i, q i) ∷ s i

-- ---- rows

pub row_is : (a b : Row) → key_of a ≡ key_of b → a ≡ b
unfolding key_of
row_is a b e =
    let class : a.test_class ≡ b.test_class = cc in
    let method : a.test_method ≡ b.test_method = cc in
    let heap : a.heap ≡ b.heap = cc in
    let depth : a.depth ≡ b.depth = cc in
    let limit : a.limit ≡ b.limit = cc in
    let tag : end_tag a.end ≡ end_tag b.end = cc in
    let name : end_name a.end ≡ end_name b.end = cc in
    let steps : a.steps ≡ b.steps = cc in
    let count : length a.consulted ≡ length b.consulted = cc in
    let lists : flat_map entry_key a.consulted ++ flat_map pair_key a.reached ≡ flat_map entry_key b.consulted ++ flat_map pair_key b.reached = cc in
    let last = end_is a.end b.end tag name in
    let es = entries_are a.consulted b.consulted (flat_map pair_key a.reached) (flat_map pair_key b.reached) count lists in
    let names = es.0 in
    let lines = pairs_are a.reached b.reached es.1 in
    λ i. record { test_class = class i; test_method = method i; heap = heap i; depth = depth i; limit = limit i; end = last i; steps = steps i; consulted = names i; reached = lines i }
