-- Stores into locals.
use Rattle.std.proofs.Common.{◌≡◌, ◌<◌, ◌≤◌, ◌-◌, subst, ◌+◌, ℕ, zero, suc, Bool, true, false, List, [], ◌∷◌, length, refl, sym, ap, ◌∙◌, arith}
use Rattle.std.specs.Prelude.{if◌then◌else◌, slice_get, slice_set}
use Rattle.program_rules.specs.Types as rules
use Rattle.type_rules.specs.Rows.{Checked, Fails, is_long_type, without_long_type, stored_type, has_locals}
use Rattle.std.proofs.lemmas.Bool.{le-leb}
use Rattle.std.proofs.lemmas.List.{length-map}
use Rattle.vframes.specs.declared.frame.Frame.{Frame}
use Rattle.vframes.specs.FrameView.{types_of}
use Rattle.vframes.specs.declared.named.Named.{Named}
use Rattle.vframes.specs.declared.slot_type.SlotType.{SlotType}
use Rattle.vframes.specs.View.{type_of, types_in}

-- a store by number is a store of a type
pub set_type : (ns : List Named) (ts : List SlotType) (n : ℕ) (t : SlotType) → types_in ns (slice_set ts n t) ≡ slice_set (types_in ns ts) n (type_of ns t)
set_type ns [] n t = refl
set_type ns (u ∷ ts) zero t = refl
set_type ns (u ∷ ts) (suc n) t = ap (λ l. type_of ns u ∷ l) (set_type ns ts n t)

-- the long below a local
pub ends : (ns : List Named) (ts new : List SlotType) (n k : ℕ) (b : Bool) → n ≡ suc k → is_long_type (slice_get (types_in ns ts) k) ≡ b → types_in ns new ≡ (if b then slice_set (types_in ns ts) k rules.Top else types_in ns ts) → types_in ns new ≡ without_long_type (types_in ns ts) n
ends ns ts new zero k b e l is = absurd (omega (arith, e))
ends ns ts new (suc n) k b e l is =
    let same : n ≡ k = omega (arith, e) in
    is ∙ sym (ap (λ m. if is_long_type (slice_get (types_in ns ts) m) then slice_set (types_in ns ts) m rules.Top else types_in ns ts) same
    ∙ ap (λ c. if c then slice_set (types_in ns ts) k rules.Top else types_in ns ts) l)

-- there are so many locals
pub has_so_many : (ns : List Named) (f : Frame) (n words : ℕ) (go : Checked) → n + words ≤ length f.locals.items → has_locals (types_of ns f) n words go ≡ go
has_so_many ns f n words go l =
    let e : n + words ≤ length (types_in ns f.locals.items) = subst (λ k. n + words ≤ k) (sym (length-map f.locals.items (type_of ns))) l in
    ap (λ b. if b then go else Fails 6) (le-leb (n + words) (length (types_in ns f.locals.items)) e)
