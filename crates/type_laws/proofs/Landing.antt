-- Accepted code has room for what its exception rows catch.
use Rattle.std.proofs.Common.{◌≡◌, ◌≤◌, inl, inr, ℕ, ◌&&◌, ◌||◌, Bool, true, false, List, [], ◌∷◌, Option, Some, None, All, refl, ap, ◌∙◌, subst, arith}
use Rattle.std.specs.Prelude.{nat_eq, nat_le, nat_lt, if◌then◌else◌}
use Rattle.std.proofs.lemmas.Bool.{and_parts, eqb-true, le-leb, lt-ltb}
use Rattle.program_rules.specs.Names.{Name}
use Rattle.program_rules.specs.Types.{VType, Obj}
use Rattle.program_rules.specs.Linked.{LinkedCode, LinkedRow, covers, is_covered}
use Rattle.program_rules.specs.Resolution.{same_bool}
use Rattle.type_rules.specs.References.{Classes, classes_of}
use Rattle.type_rules.specs.Assignability.{FrameTypes, height, width, assignable, stack_assignable}
use Rattle.type_rules.specs.Frames.{stated_at}
use Rattle.type_rules.specs.Rows.{Setting, leads_to}
use Rattle.type_rules.specs.Rules.{frame_before, rule_with, rule_at, handlers_fit, catches, caught_name, setting_of}
use Rattle.type_laws.specs.Landing.{CoveredHaveRoom, CoversFirst, HasRoomForCaught, RowsHaveRoom}
use Rattle.type_laws.specs.Bounds.{BoundedHaveRoom}
use Rattle.type_laws.proofs.Accepting.{IsAllowed, handlers_right, rules_hold, typed_in}

-- ---- a row that covers an instruction

-- What the rules say of the handlers of an instruction that they accept.
handlers_hold : (s : Setting) (at : ℕ) (o : Option FrameTypes) → frame_before s at ≡ o → rule_at s at ≡ None → (f : FrameTypes) × (handlers_fit s at f s.code.rows ≡ true)
handlers_hold s at None h r = let e : rule_with s at None ≡ None = subst (λ z. rule_with s at z ≡ None) h r in cc
handlers_hold s at (Some f) h r = (f, handlers_right _ _ (rules_hold s at f r h).rest)

caught_by : (s : Setting) (at : ℕ) (f : FrameTypes) (rs : List LinkedRow) → handlers_fit s at f rs ≡ true → is_covered at rs ≡ true → (r : LinkedRow) × (catches s f r ≡ true)
caught_by s at f [] fit e = cc
caught_by s at f (r ∷ rs) fit e = let h = and_parts _ (handlers_fit s at f rs) fit in by_cover (covers at r) h.0 (λ c. caught_by s at f rs h.1 c) e
  where
    by_cover : (b : Bool) → (if b then catches s f r else true) ≡ true → (is_covered at rs ≡ true → (x : LinkedRow) × (catches s f x ≡ true)) → (b || is_covered at rs) ≡ true → (x : LinkedRow) × (catches s f x ≡ true)
    by_cover true h rest e = (r, h)
    by_cover false h rest e = rest e

-- ---- the handler's frame has one item

one_item : (p : Classes) (n : Name) (ts : List VType) → stack_assignable p (Obj n ∷ []) ts ≡ true → 1 ≤ height ts
one_item p n [] e = cc
one_item p n (t ∷ ts) e =
    let c = and_parts (nat_eq 1 (width t) && assignable p (Obj n) t) _ e in
    let c' = and_parts (nat_eq 1 (width t)) _ c.0 in
    let w : 1 ≡ width t = eqb-true 1 (width t) c'.0 in
    omega (arith, w)

taken_by : (s : Setting) (f : FrameTypes) (n : Name) (o : Option FrameTypes) → leads_to s.program (record f { stack = Obj n ∷ [] }) o ≡ true → (g : FrameTypes) × (o ≡ Some g) × (1 ≤ height g.stack)
taken_by s f n None e = cc
taken_by s f n (Some g) e =
    let c = and_parts (same_bool f.flag g.flag && stack_assignable s.program (Obj n ∷ []) g.stack) _ e in
    let c' = and_parts (same_bool f.flag g.flag) _ c.0 in
    (g, refl, one_item s.program n g.stack c'.1)

room_of : (s : Setting) (f : FrameTypes) (r : LinkedRow) → IsAllowed s → catches s f r ≡ true → 1 ≤ s.code.max_stack
room_of s f r ok e =
    let c = and_parts (leads_to s.program (record f { stack = Obj (caught_name r.catch) ∷ [] }) (stated_at r.handler s.frames)) _ e in
    let t = taken_by s f (caught_name r.catch) (stated_at r.handler s.frames) c.0 in
    let high = ok.high r.handler t.0 t.1 in
    let one = t.2 in
    omega (arith, high, one)

-- ---- the laws

pub covered_have_room : CoveredHaveRoom
covered_have_room p n k code at accepted here inside covered =
    let t = typed_in p n accepted here.class k here.method code here.has_class here.has_method here.has_code in
    let s = setting_of (classes_of p) n here.class here.method code t.frames in
    let h = handlers_hold s at (frame_before s at) refl (t.allowed.rules at inside) in
    let r = caught_by s at h.0 code.rows h.1 covered in
    room_of s h.0 r.0 t.allowed r.1

first_covered : (code : LinkedCode) (r : LinkedRow) (rs : List LinkedRow) → CoversFirst code r → is_covered r.start (r ∷ rs) ≡ true
first_covered code r rs c =
    let within : nat_lt r.start r.end ≡ true = lt-ltb r.start r.end c.behind in
    let from : nat_le r.start r.start ≡ true = le-leb r.start r.start (omega arith) in
    ap (λ b. (b && nat_lt r.start r.end) || is_covered r.start rs) from ∙ ap (λ b. b || is_covered r.start rs) within

pub rows_have_room : RowsHaveRoom
rows_have_room p n k code accepted here all = by_rows code.rows refl all
  where
    by_rows : (rs : List LinkedRow) → code.rows ≡ rs → All (CoversFirst code) rs → HasRoomForCaught code
    by_rows [] e all = inl e
    by_rows (r ∷ rs) e all =
        let first : CoversFirst code r = all 0 r (omega arith) in
        inr (covered_have_room p n k code r.start accepted here first.within (ap (is_covered r.start) e ∙ first_covered code r rs first))

pub bounded_have_room : BoundedHaveRoom
bounded_have_room p n k code accepted here bounded = rows_have_room p n k code accepted here (λ j d l. (bounded.rows j d l).first)
