-- Whether a method of the program stands at a place.
use Rattle.std.proofs.Common.{◌≡◌, ◌∙◌, sym, refl, ap, subst, arith, ℕ, zero, suc, ◌<◌, ◌≤◌, List, [], ◌∷◌, map, length, Option, Some, None, slice_get}
use Rattle.std.specs.Prelude.{Bool, true, false, nat_lt}
use Rattle.std.specs.Option.{option_map}
use Rattle.std.proofs.lemmas.Bool.Decides.{nat_tests}
use Rattle.std.proofs.lemmas.Option.{slice_get-map, slice_get_within}
use Rattle.program_rules.specs.Linked.{Linked, LinkedMethod, method_in}
use Rattle.program_rules.specs.Resolution.{MethodAt}
use Rattle.class_link.specs.declared.linked.LinkedClass.{LinkedClass}
use Rattle.class_link.specs.declared.linked.Entry.{Entry}
use Rattle.class_link.specs.declared.linked.LinkedMethod as linked
use Rattle.class_link.specs.View.{linked_of, method_of}
use Rattle.class_link.specs.Info.{Info, class_of}
use Rattle.class_table.specs.Table.{look, name_at}
use Rattle.jvm_link.specs.declared.site.Site.{Site}
use Rattle.jvm_link.specs.Sites.{IsMethod}
use Rattle.jvm_invokes.specs.Calls.{IsSite}
use Rattle.jvm_invokes.specs.Heads.{StandsAt}
use Rattle.jvm_invokes.proofs.Standing.{stands}
use Rattle.jvm_natives.specs.Completed.{NoMethodAt}

some_at : (es : List Entry) (ms : List linked.LinkedMethod) (k : ℕ) → k < length ms → (m : LinkedMethod) × (slice_get (map (method_of es) ms) k ≡ Some m)
some_at es [] zero lt = absurd (omega arith)
some_at es [] (suc k) lt = absurd (omega arith)
some_at es (m ∷ ms) zero lt = (method_of es m, refl)
some_at es (m ∷ ms) (suc k) lt = some_at es ms k (omega arith)

methods_are : (p : List Info) (s : Site) (i : Info) → look p (name_at p s.class.0) ≡ Some (class_of i) → method_in (look p (name_at p s.class.0)) s.place ≡ slice_get (map (method_of i.linked.entries) i.linked.methods) s.place
unfolding linked_of
methods_are p s i class = ap (λ o. method_in o s.place) class

pub there : (p : List Info) (s : Site) (i : Info) (count : ℕ) → s.class.0 < length p → look p (name_at p s.class.0) ≡ Some (class_of i) → count ≡ length i.linked.methods → nat_lt s.place count ≡ true → IsSite p s
there p s i count within class same e =
    let lt : s.place < length i.linked.methods = grind (arith, nat_tests, same, e) in
    let m = some_at i.linked.entries i.linked.methods s.place lt in
    record { class = within; method = m.0; there = methods_are p s i class ∙ m.1 }

get_within : {A : Type 0} (xs : List A) (k : ℕ) (x : A) → slice_get xs k ≡ Some x → k < length xs
get_within xs k x e = slice_get_within xs k x e

map_count : (es : List Entry) (ms : List linked.LinkedMethod) → length (map (method_of es) ms) ≡ length ms
map_count es [] = refl
map_count es (m ∷ ms) = ap (λ k. suc k) (map_count es ms)

pub past : (p : List Info) (s : Site) (i : Info) (count : ℕ) → look p (name_at p s.class.0) ≡ Some (class_of i) → count ≡ length i.linked.methods → nat_lt s.place count ≡ false → NoMethodAt p s
past p s i count class same e m is =
    let found = stands p m s is in
    let lt = get_within (map (method_of i.linked.entries) i.linked.methods) s.place found.method (sym (methods_are p s i class) ∙ found.there) in
    let n = map_count i.linked.entries i.linked.methods in
    grind (arith, nat_tests, same, e, lt, n)

pub outside : (p : List Info) (s : Site) → length p ≤ s.class.0 → NoMethodAt p s
outside p s le m is = let lt = is.within in omega (arith, lt, le)
