-- Classes by their numbers.
use Rattle.std.proofs.Common.{◌≡◌, ◌<◌, ◌+◌, ℕ, zero, suc, Bool, true, false, List, [], ◌∷◌, length, Option, Some, None, is_none, refl, sym, ap, ◌∙◌, subst, arith}
use Rattle.std.specs.Prelude.{slice_get, option_and_then, IfSome, if◌then◌else◌}
use Rattle.std.specs.List.{list_any}
use Rattle.std.specs.Cmp.Lexicographic.{same_text}
use Rattle.std.specs.Option.{option_map}
use Rattle.program_rules.specs.Names.{Name, same}
use Rattle.program_rules.specs.Programs.{supers}
use Rattle.program_rules.specs.Linked.{is_interface}
use Rattle.program_rules.specs.Outlines.{outline_of, is_interface_class}
use Rattle.type_rules.specs.References.{classes_of, is_subtype}
use Rattle.class_model.specs.declared.class.ClassId.{ClassId}
use Rattle.class_link.specs.Info.{Info, class_of}
use Rattle.class_link.specs.View.{linked_of}
use Rattle.class_table.specs.Table.{number_of, class_at, look, name_at, name_or_none, names, place_from}
use Rattle.vframes.specs.Named.{IsNumberOf, IsWithin, IsClosed}

pub get_inside : {A : Type 0} (xs : List A) (n : ℕ) → n < length xs → (x : A) × (slice_get xs n ≡ Some x)
get_inside [] n l = absurd (omega (arith, l))
get_inside (x ∷ xs) zero l = (x, refl)
get_inside (x ∷ xs) (suc n) l = get_inside xs n (omega (arith, l))

pub absent_is : (p : List Info) (id : Option ClassId) (n : Name) → IsNumberOf p id n → IsWithin p id → is_none id ≡ is_none (look p n)
absent_is p None n e w = ap (λ o. is_none (option_and_then (class_at p) o)) e
absent_is p (Some id) n e w =
    let g = get_inside p id.0 w in
    sym (ap (λ o. is_none (option_map class_of o)) g.1) ∙ ap (λ o. is_none (option_and_then (class_at p) o)) e

pub interface_is : (p : List Info) (i : ℕ) (x : Info) (n : Name) → Some i ≡ number_of p n → slice_get p i ≡ Some x → (classes_of (look p)).interface n ≡ is_interface x.linked.flags
unfolding linked_of
interface_is p i x n e g =
    ap (λ o. is_interface_class (outline_of (option_and_then (class_at p) o))) (sym e)
    ∙ ap (λ o. is_interface_class (outline_of (option_map class_of o))) g

pub no_interface : (p : List Info) (n : Name) → None ≡ number_of p n → (classes_of (look p)).interface n ≡ false
no_interface p n e = ap (λ o. is_interface_class (outline_of (option_and_then (class_at p) o))) (sym e)

-- ---- the name of a number

abbrev Found : Name → ℕ → List Name → ℕ → Type 0
Found n k ms i = (j : ℕ) × (i ≡ k + j) × (slice_get ms j ≡ Some n)

found_case : (n : Name) (k i : ℕ) (m : Name) (ms : List Name) (b : Bool) → b ≡ same m n → (place_from n (suc k) ms ≡ Some i → Found n (suc k) ms i) → (if b then Some k else place_from n (suc k) ms) ≡ Some i → Found n k (m ∷ ms) i
found_case n k i m ms true e rest h = (0, (let p : i ≡ k = cc in omega (arith, p)), ap Some (same_text m n e))
found_case n k i m ms false e rest h = let r = rest h in (suc r.0, omega (arith, r.1), r.2)

found_from : (n : Name) (k i : ℕ) (ms : List Name) → place_from n k ms ≡ Some i → Found n k ms i
found_from n k i [] h = cc
found_from n k i (m ∷ ms) h = found_case n k i m ms (same m n) refl (found_from n (suc k) i ms) h

-- a name stands at the place of its number
pub number_place : (p : List Info) (n : Name) (i : ℕ) → number_of p n ≡ Some i → slice_get (names p) i ≡ Some n
number_place p n i h =
    let r = found_from n 0 i (names p) h in
    let e : i ≡ r.0 = omega (arith, r.1) in
    ap (slice_get (names p)) e ∙ r.2

number_named : (p : List Info) (n : Name) (i : ℕ) → number_of p n ≡ Some i → name_at p i ≡ n
number_named p n i h = ap name_or_none (number_place p n i h)

pub subtype_named : (p : List Info) (m n : Name) (i j : ℕ) → number_of p m ≡ Some i → number_of p n ≡ Some j → list_any (λ x. same x (name_at p j)) (supers (look p) (name_at p i)) ≡ is_subtype (look p) m n
subtype_named p m n i j e f =
    ap (λ a. list_any (λ x. same x (name_at p j)) (supers (look p) a)) (number_named p m i e)
    ∙ ap (λ b. list_any (λ x. same x b) (supers (look p) m)) (number_named p n j f)
