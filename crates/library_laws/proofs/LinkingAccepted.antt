-- In accepted code multianewarray names an array.
use Rattle.std.proofs.Common.{◌≡◌, ◌<◌, refl, subst, ℕ, zero, suc, ◌&&◌, ◌||◌, Bool, true, false, List, [], ◌∷◌, length, Option, Some, None, arith}
use Rattle.std.specs.Prelude.{nat_eq, nat_le, nat_lt, if◌then◌else◌, slice_get}
use Rattle.std.proofs.lemmas.Bool.{and_parts}
use Rattle.std.proofs.lemmas.Bool.Decides.{nat_tests}
use Rattle.program_rules.specs.Names.{Name, is_array_name}
use Rattle.program_rules.specs.Instructions.{Instruction, NewMultiArray}
use Rattle.program_rules.specs.Types.{VType, IntType, Obj}
use Rattle.program_rules.specs.Linked.{Linked, LinkedMethod, LinkedCode, HasCode}
use Rattle.program_rules.specs.Programs.{Look}
use Rattle.type_rules.specs.References.{classes_of, dimensions}
use Rattle.type_rules.specs.Assignability.{FrameTypes, same_type, height}
use Rattle.type_rules.specs.Rows.{Setting, Checked, Falls, Stops, Fails, row, takes_ints, has_room, allows, falls}
use Rattle.type_rules.specs.Rules.{check_instruction, frame_before, handlers_fit, with_handlers, rule_with, rule_at, setting_of, Accepted}
use Rattle.type_laws.proofs.Accepting.{typed, rules_hold}
use Rattle.library_laws.proofs.Instructions.{names_array}

-- ---- an instruction that isn't refused

-- A row that doesn't refuse.
abbrev Goes : Checked → Type 0
Goes (Falls f) = Unit {0}
Goes Stops = Unit {0}
Goes (Fails v) = ⊥

goes : (fit : Bool) (c : Checked) → with_handlers fit c ≡ None → Goes c
goes fit (Falls f) e = tt
goes fit Stops e = tt
goes fit (Fails v) e = fails v fit (nat_lt v 10) e
  where
    fails : (v : ℕ) (b c : Bool) → (if b || c then Some v else Some 10) ≡ None → ⊥
    fails v true c e = cc
    fails v false true e = cc
    fails v false false e = cc

goes_if : (b : Bool) (c : Checked) (v : ℕ) → Goes (if b then c else Fails v) → (b ≡ true) × Goes c
goes_if true c v h = (refl, h)
goes_if false c v h = absurd h

-- Behind so many ints the row goes on with some stack.
behind_ints : {R : Type 0} (k : ℕ) (stack : List VType) (go : List VType → Checked) → Goes (takes_ints k stack go) → ((rest : List VType) → Goes (go rest) → R) → R
behind_ints zero stack go h to = to stack h
behind_ints (suc k) [] go h to = absurd h
behind_ints (suc k) (t ∷ stack) go h to = behind_ints k stack go (goes_if (same_type t IntType) (takes_ints k stack go) 7 h).1 to

-- ---- names with dimensions

array_at : (u : ℕ) (units : Name) (b : Bool) → nat_eq u 91 ≡ b → 0 < dimensions (u ∷ units) → b ≡ true
array_at u units true is some = refl
array_at u units false is some = absurd (let none : dimensions (u ∷ units) ≡ 0 = rw is refl in omega (arith, some, none))

is_array : (n : Name) → 0 < dimensions n → is_array_name n ≡ true
is_array [] some = absurd (omega (arith, some))
is_array (u ∷ units) some = array_at u units (nat_eq u 91) refl some

some_of : (k d : ℕ) → (nat_lt 0 k && nat_le k d) ≡ true → 0 < d
some_of k d e = let h = and_parts (nat_lt 0 k) (nat_le k d) e in grind (arith, nat_tests, h)

multi_array : (s : Setting) (at : ℕ) (n : Name) (k : ℕ) (f : FrameTypes) → Goes (row s at (NewMultiArray n k) f) → is_array_name n ≡ true
unfolding row
multi_array s at n k f h =
    let asked = nat_lt 0 k && nat_le k (dimensions n) in
    behind_ints k f.stack (λ rest. has_room s (Obj n ∷ rest) (allows asked (falls f (Obj n ∷ rest)))) h
    (λ rest g.
    let room = goes_if (nat_le (height (Obj n ∷ rest)) s.code.max_stack) (allows asked (falls f (Obj n ∷ rest))) 8 g in
    is_array n (some_of k (dimensions n) (goes_if asked (falls f (Obj n ∷ rest)) 13 room.1).0))

right_array : (s : Setting) (at : ℕ) (i : Instruction) (f : FrameTypes) → Goes (row s at i f) → names_array i ≡ true
right_array s at (NewMultiArray n k) f h = multi_array s at n k f h
right_array s at other f h = refl

-- ---- each instruction of accepted code

place_inside : {A : Type 0} (xs : List A) (k : ℕ) (x : A) → slice_get xs k ≡ Some x → k < length xs
place_inside [] k x e = absurd cc
place_inside (y ∷ xs) zero x e = omega arith
place_inside (y ∷ xs) (suc k) x e = let l = place_inside xs k x e in omega (arith, l)

frame_case : (s : Setting) (at : ℕ) (i : Instruction) (o : Option FrameTypes) → frame_before s at ≡ o → rule_at s at ≡ None → slice_get s.code.instructions at ≡ Some i → names_array i ≡ true
frame_case s at i None here e stands = let no : rule_with s at None ≡ None = subst (λ z. rule_with s at z ≡ None) here e in absurd cc
frame_case s at i (Some g) here e stands =
    let fit = handlers_fit s at g s.code.rows in
    let rest : with_handlers fit (check_instruction s at (Some i) g) ≡ None = subst (λ z. with_handlers fit (check_instruction s at z g) ≡ None) stands (rules_hold s at g e here).rest in
    right_array s at i g (goes fit (row s at i g) rest)

pub named_arrays : (p : Look) → Accepted p → (n : Name) (c : Linked) (k : ℕ) (m : LinkedMethod) (code : LinkedCode) (at : ℕ) (i : Instruction) → p n ≡ Some c → slice_get c.methods k ≡ Some m → m.body ≡ HasCode code → slice_get code.instructions at ≡ Some i → names_array i ≡ true
named_arrays p accepted n c k m code at i has get body stands =
    let t = typed p accepted n c k m code has get body in
    let s = setting_of (classes_of p) n c m code t.frames in
    frame_case s at i (frame_before s at) refl (t.allowed.rules at (place_inside code.instructions at i stands)) stands
