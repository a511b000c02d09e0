-- Objects that aren't initialised, by the names of a class.
use Rattle.std.proofs.Common.{◌≡◌, ◌+◌, ◌++◌, ℕ, Bool, true, false, List, [], ◌∷◌, map, reverse, refl, sym, ap, ◌∙◌}
use Rattle.std.specs.Prelude.{if◌then◌else◌, ◌||◌}
use Rattle.std.specs.List.{list_any}
use Rattle.std.proofs.lemmas.Grind.{reverse_onto}
use Rattle.program_rules.specs.Types as rules
use Rattle.type_rules.specs.Assignability.{same_type, width, height}
use Rattle.type_rules.specs.Rows.{replace_type}
use Rattle.vframes.specs.declared.fresh.Fresh.{Fresh}
use Rattle.vframes.specs.declared.fresh.Fresh.TheVariants as fresh
use Rattle.vframes.specs.declared.named.Named.{Named}
use Rattle.vframes.specs.declared.slot_type.SlotType.{SlotType}
use Rattle.vframes.specs.declared.slot_type.SlotType.TheVariants as slot
use Rattle.vframes.specs.Fresh.{fresh_type, is_fresh, slot_replaced}
use Rattle.vframes.specs.View.{type_of, types_in, words_of}

pub same_fresh : (ns : List Named) (f : Fresh) (t : SlotType) → same_type (type_of ns t) (fresh_type f) ≡ is_fresh f t
same_fresh ns fresh.This slot.Top = refl
same_fresh ns fresh.This slot.Int = refl
same_fresh ns fresh.This slot.Long = refl
same_fresh ns fresh.This slot.Null = refl
same_fresh ns fresh.This slot.UninitThis = refl
same_fresh ns fresh.This (slot.Uninit k) = refl
same_fresh ns fresh.This (slot.Obj i) = refl
same_fresh ns (fresh.New at) slot.Top = refl
same_fresh ns (fresh.New at) slot.Int = refl
same_fresh ns (fresh.New at) slot.Long = refl
same_fresh ns (fresh.New at) slot.Null = refl
same_fresh ns (fresh.New at) slot.UninitThis = refl
same_fresh ns (fresh.New at) (slot.Uninit k) = refl
same_fresh ns (fresh.New at) (slot.Obj i) = refl

chosen : (ns : List Named) (b : Bool) (u t : SlotType) → type_of ns (if b then u else t) ≡ (if b then type_of ns u else type_of ns t)
chosen ns true u t = refl
chosen ns false u t = refl

pub types_replaced : (ns : List Named) (f : Fresh) (u : SlotType) (ts : List SlotType) → types_in ns (map (slot_replaced f u) ts) ≡ replace_type (fresh_type f) (type_of ns u) (types_in ns ts)
types_replaced ns f u [] = refl
types_replaced ns f u (t ∷ ts) =
    ap (λ v. v ∷ types_in ns (map (slot_replaced f u) ts)) (chosen ns (is_fresh f t) u t ∙ ap (λ b. if b then type_of ns u else type_of ns t) (sym (same_fresh ns f t)))
    ∙ ap (λ l. (if same_type (type_of ns t) (fresh_type f) then type_of ns u else type_of ns t) ∷ l) (types_replaced ns f u ts)

pub among_types : (ns : List Named) (f : Fresh) (ts : List SlotType) → list_any (λ t. same_type t (fresh_type f)) (types_in ns ts) ≡ list_any (is_fresh f) ts
among_types ns f [] = refl
among_types ns f (t ∷ ts) =
    ap (λ b. b || list_any (λ t. same_type t (fresh_type f)) (types_in ns ts)) (same_fresh ns f t)
    ∙ ap (λ b. is_fresh f t || b) (among_types ns f ts)

width_replaced : (f : Fresh) (n : ℕ) (t : SlotType) → width (type_of [] (slot_replaced f (slot.Obj n) t)) ≡ width (type_of [] t)
width_replaced fresh.This n slot.Top = refl
width_replaced fresh.This n slot.Int = refl
width_replaced fresh.This n slot.Long = refl
width_replaced fresh.This n slot.Null = refl
width_replaced fresh.This n slot.UninitThis = refl
width_replaced fresh.This n (slot.Uninit k) = refl
width_replaced fresh.This n (slot.Obj i) = refl
width_replaced (fresh.New at) n slot.Top = refl
width_replaced (fresh.New at) n slot.Int = refl
width_replaced (fresh.New at) n slot.Long = refl
width_replaced (fresh.New at) n slot.Null = refl
width_replaced (fresh.New at) n slot.UninitThis = refl
width_replaced (fresh.New at) n (slot.Uninit k) = by_test (is_fresh (fresh.New at) (slot.Uninit k))
  where
    by_test : (b : Bool) → width (type_of [] (if b then slot.Obj n else slot.Uninit k)) ≡ 1
    by_test true = refl
    by_test false = refl
width_replaced (fresh.New at) n (slot.Obj i) = refl

pub words_replaced : (f : Fresh) (n : ℕ) (ts : List SlotType) → words_of (map (slot_replaced f (slot.Obj n)) ts) ≡ words_of ts
words_replaced f n [] = refl
words_replaced f n (t ∷ ts) =
    ap (λ w. w + words_of (map (slot_replaced f (slot.Obj n)) ts)) (width_replaced f n t)
    ∙ ap (λ h. width (type_of [] t) + h) (words_replaced f n ts)

-- ---- the same of a stack, from either end

module _ {A B : Type 0} where
  map_behind : (g : A → B) (xs : List A) (x : A) → map g (xs ++ x ∷ []) ≡ map g xs ++ g x ∷ []
  map_behind g [] x = refl
  map_behind g (y ∷ xs) x = ap (λ l. g y ∷ l) (map_behind g xs x)

  pub map_turned : (g : A → B) (xs : List A) → map g (reverse xs) ≡ reverse (map g xs)
  map_turned g [] = refl
  map_turned g (x ∷ xs) =
      ap (map g) (reverse_onto xs x []) ∙ map_behind g (reverse xs) x
      ∙ ap (λ l. l ++ g x ∷ []) (map_turned g xs) ∙ sym (reverse_onto (map g xs) (g x) [])

or_swap : (a b : Bool) → (a || b) ≡ (b || a)
or_swap true true = refl
or_swap true false = refl
or_swap false true = refl
or_swap false false = refl

or_assoc : (a b c : Bool) → (a || (b || c)) ≡ ((a || b) || c)
or_assoc true b c = refl
or_assoc false b c = refl

or_none : (a : Bool) → (a || false) ≡ a
or_none true = refl
or_none false = refl

any_behind : {A : Type 0} (p : A → Bool) (xs : List A) (x : A) → list_any p (xs ++ x ∷ []) ≡ (list_any p xs || p x)
any_behind p [] x = or_none (p x)
any_behind p (y ∷ xs) x = ap (λ b. p y || b) (any_behind p xs x) ∙ or_assoc (p y) (list_any p xs) (p x)

pub any_turned : {A : Type 0} (p : A → Bool) (xs : List A) → list_any p (reverse xs) ≡ list_any p xs
any_turned p [] = refl
any_turned p (x ∷ xs) =
    ap (list_any p) (reverse_onto xs x []) ∙ any_behind p (reverse xs) x
    ∙ ap (λ b. b || p x) (any_turned p xs) ∙ or_swap (list_any p xs) (p x)
