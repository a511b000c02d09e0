-- The places of members that a class declares, as the definitions count them.
use Rattle.std.proofs.Common.{◌≡◌, ◌∙◌, sym, refl, ap, ℕ, suc, ◌+◌, Bool, true, false, List, [], ◌∷◌, map, Option, None, Some, slice_get, arith}
use Rattle.std.specs.Prelude.{◌&&◌, if◌then◌else◌, IfSome, IfNone}
use Rattle.program_rules.specs.Names.{Name, same}
use Rattle.program_rules.specs.Linked.{Linked, LinkedField, LinkedMethod, method_from, method_place}
use Rattle.program_rules.specs.Outlines.{Outline, Head, head_of, outline_of, fields_in, heads_in, field_from, field_in, head_from, head_in}
use Rattle.class_link.specs.Info.{Info}
use Rattle.class_table.specs.Table.{look, name_at}
use Rattle.jvm_link.specs.Sites.{field_place, outline_at, DeclaresField, DeclaresMethod}

-- ---- fields

abbrev FieldFound : Name → Name → ℕ → List LinkedField → ℕ → Type 0
FieldFound name desc i fs k = (j : ℕ) × (f : LinkedField) × (k ≡ i + j) × (slice_get fs j ≡ Some f) × (field_from name desc i fs ≡ Some (k, f))

field_found : (name desc : Name) (i k : ℕ) (fs : List LinkedField) → field_place name desc i fs ≡ Some k → FieldFound name desc i fs k
field_found name desc i k [] e = absurd cc
field_found name desc i k (f ∷ fs) e = by_test (same f.name name && same f.desc desc) refl (field_found name desc (suc i) k fs) e
  where
    by_test : (b : Bool) → (same f.name name && same f.desc desc) ≡ b → (field_place name desc (suc i) fs ≡ Some k → FieldFound name desc (suc i) fs k) → (if b then Some i else field_place name desc (suc i) fs) ≡ Some k → FieldFound name desc i (f ∷ fs) k
    by_test true t rest h = let s : i ≡ k = cc in (0, f, omega (arith, s), refl, ap (λ b. if b then Some (i, f) else field_from name desc (suc i) fs) t ∙ ap (λ n. Some (n, f)) s)
    by_test false t rest h = let r = rest h in (suc r.0, r.1, (let s = r.2 in omega (arith, s)), r.3, ap (λ b. if b then Some (i, f) else field_from name desc (suc i) fs) t ∙ r.4)

field_absent : (name desc : Name) (i : ℕ) (fs : List LinkedField) → field_place name desc i fs ≡ None → field_from name desc i fs ≡ None
field_absent name desc i [] e = refl
field_absent name desc i (f ∷ fs) e = by_test (same f.name name && same f.desc desc) (field_absent name desc (suc i) fs) e
  where
    by_test : (b : Bool) → (field_place name desc (suc i) fs ≡ None → field_from name desc (suc i) fs ≡ None) → (if b then Some i else field_place name desc (suc i) fs) ≡ None → (if b then Some (i, f) else field_from name desc (suc i) fs) ≡ None
    by_test true rest h = absurd cc
    by_test false rest h = rest h

pub declares_field : (p : List Info) (a : ℕ) (name desc : Name) (place : ℕ) (c : Linked) → look p (name_at p a) ≡ Some c → field_place name desc 0 c.fields ≡ Some place → DeclaresField p a name desc place
declares_field p a name desc place c e h =
    let r = field_found name desc 0 place c.fields h in
    record { field = r.1; there = ap (λ o. field_in name desc (outline_of o)) e ∙ r.4 }

pub declares_none : (p : List Info) (a : ℕ) (name desc : Name) (c : Linked) → look p (name_at p a) ≡ Some c → field_place name desc 0 c.fields ≡ None → field_in name desc (outline_at p a) ≡ None
declares_none p a name desc c e h = ap (λ o. field_in name desc (outline_of o)) e ∙ field_absent name desc 0 c.fields h

some_same : (x y : ℕ × LinkedField) → Some x ≡ Some y → x ≡ y
some_same x y e = cc

abbrev FieldAtPlace : ℕ → List LinkedField → ℕ → LinkedField → Type 0
FieldAtPlace i fs k f = (j : ℕ) × (k ≡ i + j) × (slice_get fs j ≡ Some f)

field_at_place : (name desc : Name) (i : ℕ) (fs : List LinkedField) (k : ℕ) (f : LinkedField) → field_from name desc i fs ≡ Some (k, f) → FieldAtPlace i fs k f
field_at_place name desc i [] k f e = absurd cc
field_at_place name desc i (g ∷ fs) k f e = by_test (same g.name name && same g.desc desc) (field_at_place name desc (suc i) fs k f) e
  where
    by_test : (b : Bool) → (field_from name desc (suc i) fs ≡ Some (k, f) → FieldAtPlace (suc i) fs k f) → (if b then Some (i, g) else field_from name desc (suc i) fs) ≡ Some (k, f) → FieldAtPlace i (g ∷ fs) k f
    by_test true rest h = let q = some_same (i, g) (k, f) h in let s : i ≡ k = ap (λ x. x.0) q in (0, omega (arith, s), ap (λ x. Some (x.1)) q)
    by_test false rest h = let r = rest h in (suc r.0, (let s = r.1 in omega (arith, s)), r.2)

-- where a field that is declared stands
pub field_there : (name desc : Name) (o : Option Outline) (place : ℕ) (f : LinkedField) → field_in name desc o ≡ Some (place, f) → slice_get (fields_in o) place ≡ Some f
field_there name desc o place f e =
    let r = field_at_place name desc 0 (fields_in o) place f e in
    let s : place ≡ r.0 = (let t = r.1 in omega (arith, t)) in
    ap (slice_get (fields_in o)) s ∙ r.2

-- ---- methods

abbrev MethodFound : Name → Name → ℕ → List LinkedMethod → ℕ → Type 0
MethodFound name desc i ms k = (j : ℕ) × (h : Head) × (k ≡ i + j) × (slice_get (map head_of ms) j ≡ Some h) × (head_from name desc i (map head_of ms) ≡ Some (k, h))

method_found : (name desc : Name) (i k : ℕ) (ms : List LinkedMethod) → method_from name desc i ms ≡ Some k → MethodFound name desc i ms k
method_found name desc i k [] e = absurd cc
method_found name desc i k (m ∷ ms) e = by_test (same m.name name && same m.desc desc) refl (method_found name desc (suc i) k ms) e
  where
    by_test : (b : Bool) → (same m.name name && same m.desc desc) ≡ b → (method_from name desc (suc i) ms ≡ Some k → MethodFound name desc (suc i) ms k) → (if b then Some i else method_from name desc (suc i) ms) ≡ Some k → MethodFound name desc i (m ∷ ms) k
    by_test true t rest h = let s : i ≡ k = cc in (0, head_of m, omega (arith, s), refl, ap (λ b. if b then Some (i, head_of m) else head_from name desc (suc i) (map head_of ms)) t ∙ ap (λ n. Some (n, head_of m)) s)
    by_test false t rest h = let r = rest h in (suc r.0, r.1, (let s = r.2 in omega (arith, s)), r.3, ap (λ b. if b then Some (i, head_of m) else head_from name desc (suc i) (map head_of ms)) t ∙ r.4)

method_absent : (name desc : Name) (i : ℕ) (ms : List LinkedMethod) → method_from name desc i ms ≡ None → head_from name desc i (map head_of ms) ≡ None
method_absent name desc i [] e = refl
method_absent name desc i (m ∷ ms) e = by_test (same m.name name && same m.desc desc) (method_absent name desc (suc i) ms) e
  where
    by_test : (b : Bool) → (method_from name desc (suc i) ms ≡ None → head_from name desc (suc i) (map head_of ms) ≡ None) → (if b then Some i else method_from name desc (suc i) ms) ≡ None → (if b then Some (i, head_of m) else head_from name desc (suc i) (map head_of ms)) ≡ None
    by_test true rest h = absurd cc
    by_test false rest h = rest h

pub declares_method : (p : List Info) (a : ℕ) (name desc : Name) (place : ℕ) (c : Linked) → look p (name_at p a) ≡ Some c → method_place name desc c.methods ≡ Some place → DeclaresMethod p a name desc place
declares_method p a name desc place c e h =
    let r = method_found name desc 0 place c.methods h in
    let s : place ≡ r.0 = (let t = r.2 in omega (arith, t)) in
    record {
      head = r.1;
      there = ap (λ o. head_in name desc (outline_of o)) e ∙ r.4;
      within = ap (λ o. slice_get (heads_in (outline_of o)) place) e ∙ ap (slice_get (map head_of c.methods)) s ∙ r.3;
    }

pub declares_no_method : (p : List Info) (a : ℕ) (name desc : Name) (c : Linked) → look p (name_at p a) ≡ Some c → method_place name desc c.methods ≡ None → head_in name desc (outline_at p a) ≡ None
declares_no_method p a name desc c e h = ap (λ o. head_in name desc (outline_of o)) e ∙ method_absent name desc 0 c.methods h

-- ---- as look-ups give them

pub some_field : (p : List Info) (a : ℕ) (name desc : Name) (c : Linked) (o : Option ℕ) → look p (name_at p a) ≡ Some c → o ≡ field_place name desc 0 c.fields → IfSome o (λ place. DeclaresField p a name desc place)
some_field p a name desc c None e h = tt
some_field p a name desc c (Some k) e h = declares_field p a name desc k c e (sym h)

pub no_field : (p : List Info) (a : ℕ) (name desc : Name) (c : Linked) (o : Option ℕ) → look p (name_at p a) ≡ Some c → o ≡ field_place name desc 0 c.fields → IfNone o (field_in name desc (outline_at p a) ≡ None)
no_field p a name desc c None e h = declares_none p a name desc c e (sym h)
no_field p a name desc c (Some k) e h = tt

pub some_method : (p : List Info) (a : ℕ) (name desc : Name) (c : Linked) (o : Option ℕ) → look p (name_at p a) ≡ Some c → IfSome o (λ place. method_place name desc c.methods ≡ Some place) → IfSome o (λ place. DeclaresMethod p a name desc place)
some_method p a name desc c None e h = tt
some_method p a name desc c (Some k) e h = declares_method p a name desc k c e h

pub no_method : (p : List Info) (a : ℕ) (name desc : Name) (c : Linked) (o : Option ℕ) → look p (name_at p a) ≡ Some c → IfNone o (method_place name desc c.methods ≡ None) → IfNone o (head_in name desc (outline_at p a) ≡ None)
no_method p a name desc c None e h = declares_no_method p a name desc c e h
no_method p a name desc c (Some k) e h = tt
