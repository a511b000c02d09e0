-- The slot of a field.
use Rattle.std.proofs.Common.{◌≡◌, ◌∙◌, sym, ap, refl, subst, slice_get, arith, ℕ, ◌+◌, ◌<◌, ◌≤◌, ◌^◌, nat_eq, zero, suc, Bool, true, false, List, [], ◌∷◌, take, length, map, Option, Some, None, IfSome}
use Rattle.std.specs.Prelude.{IfNone, ◌||◌, if◌then◌else◌}
use Rattle.std.proofs.lemmas.List.{length-append, length-map, take-map}
use Rattle.class_model.specs.declared.class.ClassId.{ClassId}
use Rattle.program_rules.specs.declared.value.Value.{Value}
use Rattle.program_rules.specs.Kinds.{default_of}
use Rattle.program_rules.specs.Layout.{values_of, instance_values}
use Rattle.program_rules.specs.Linked.{Linked, LinkedField, is_static, is_interface}
use Rattle.program_rules.specs.Names.{Name, same}
use Rattle.program_rules.specs.Outlines.{Outline, outline_of, fields_in}
use Rattle.program_rules.specs.Programs.{Node}
use Rattle.program_rules.specs.Resolution.{superclasses_behind, slot_of}
use Rattle.class_link.specs.declared.linked.LinkedField as code
use Rattle.class_link.specs.declared.linked.LinkedClass.{LinkedClass}
use Rattle.class_link.specs.View.{field_of, linked_of}
use Rattle.class_link.specs.Info.{Info}
use Rattle.class_table.specs.Table.{look, name_at, IsProgram}
use Rattle.class_family.specs.Families.{node_of, rising_at, GoesOn, EndsAt}
use Rattle.class_family.proofs.Numbered.{among_named}
use Rattle.jvm_layout.specs.Layouts.{own_values, own_at, own_before, rising_from}
use Rattle.jvm_layout.proofs.Climbing.{own_same, rises}

-- ---- fields of a class

front_by : (b : Bool) (d : Value) (vs : List Value) → length (if b then vs else d ∷ vs) ≡ length vs + length (if b then [] else d ∷ [])
front_by true d vs = omega arith
front_by false d vs = omega arith

pub count_front : (all : Bool) (f : LinkedField) (fs : List LinkedField) → length (own_values all (f ∷ fs)) ≡ length (own_values all fs) + length (own_values all (f ∷ []))
count_front all f fs = front_by (all || is_static f.flags) (default_of f.kind) (own_values all fs)

none_before : (c : Option Outline) (k : ℕ) → instance_values c (take k []) ≡ []
none_before c zero = refl
none_before c (suc k) = refl

at_same : (c : Option Outline) → own_at c ≡ instance_values c (fields_in c)
at_same None = refl
at_same (Some c) = own_same (Some c) c.fields

before_same : (k : ℕ) (c : Option Outline) → own_before k c ≡ instance_values c (take k (fields_in c))
before_same k None = sym (none_before None k)
before_same k (Some c) = own_same (Some c) (take k c.fields)

fields_are : (o : Option Linked) (l : LinkedClass) → o ≡ Some (linked_of l) → fields_in (outline_of o) ≡ map field_of l.fields
unfolding linked_of
fields_are o l e = ap (λ c. fields_in (outline_of c)) e

pub before_within : (p : List Info) (a place : ℕ) (l : LinkedClass) (fs : List code.LinkedField) → place < length (fields_in (outline_of (look p (name_at p a)))) → look p (name_at p a) ≡ Some (linked_of l) → fs ≡ l.fields → place ≤ length fs
before_within p a place l fs lt is same =
    let e : length (fields_in (outline_of (look p (name_at p a)))) ≡ length l.fields = ap length (fields_are (look p (name_at p a)) l is) ∙ length-map l.fields field_of in
    let k : length fs ≡ length l.fields = ap length same in
    omega (arith, e, k, lt)

before_of : (o : Option Linked) (l : LinkedClass) (place : ℕ) → o ≡ Some (linked_of l) → own_before place (outline_of o) ≡ own_values (is_interface l.flags) (take place (map field_of l.fields))
unfolding linked_of
before_of o l place e = ap (λ c. own_before place (outline_of c)) e

pub before_count : (p : List Info) (a place n : ℕ) (all : Bool) (l : LinkedClass) (fs part : List code.LinkedField) → look p (name_at p a) ≡ Some (linked_of l) → fs ≡ l.fields → part ≡ take place fs → all ≡ is_interface l.flags → n ≡ length (own_values all (map field_of part)) → n ≡ length (own_before place (outline_of (look p (name_at p a))))
before_count p a place n all l fs part is same cut_is interface count =
    count
    ∙ ap (λ b. length (own_values b (map field_of part))) interface
    ∙ ap (λ xs. length (own_values (is_interface l.flags) (map field_of xs))) (cut_is ∙ ap (take place) same)
    ∙ ap (λ xs. length (own_values (is_interface l.flags) xs)) (sym (take-map field_of place l.fields))
    ∙ ap length (sym (before_of (look p (name_at p a)) l place is))

-- ---- the walk upwards

behind_by : (b : Bool) (x : Node) (xs : List Node) (n : Name) → same x.name n ≡ b → superclasses_behind n (x ∷ xs) ≡ (if b then xs else superclasses_behind n xs)
behind_by b x xs n e = ap (λ t. if t then xs else superclasses_behind n xs) e

one_within : (p : List Info) (a k c : ℕ) → a < length p → slice_get (a ∷ []) k ≡ Some c → c < length p
one_within p a zero c la e = let s : a ≡ c = cc in subst (λ x. x < length p) s la
one_within p a (suc k) c la e = absurd cc

or_no : (b : Bool) → (b || false) ≡ b
or_no true = refl
or_no false = refl

names_tell : (p : List Info) (a b : ℕ) → IsProgram p → a < length p → b < length p → same (name_at p a) (name_at p b) ≡ nat_eq a b
names_tell p a b is la lb =
    let e : (nat_eq a b || false) ≡ (same (name_at p a) (name_at p b) || false) = among_named p b (a ∷ []) is.distinct lb (λ k c h. one_within p a k c la h) in
    sym (or_no (same (name_at p a) (name_at p b))) ∙ sym e ∙ or_no (nat_eq a b)

pub behind_on : (p : List Info) (here class : ClassId) (next : Option ClassId) (b : Bool) → IsProgram p → here.0 < length p → class.0 < length p → rising_at p here.0 ≡ node_of (look p) (name_at p here.0) ∷ rising_from p next → nat_eq here.0 class.0 ≡ b → superclasses_behind (name_at p class.0) (rising_at p here.0) ≡ (if b then rising_from p next else superclasses_behind (name_at p class.0) (rising_from p next))
behind_on p here class next b is lh lc up e =
    ap (superclasses_behind (name_at p class.0)) up
    ∙ behind_by b (node_of (look p) (name_at p here.0)) (rising_from p next) (name_at p class.0) (names_tell p here.0 class.0 is lh lc ∙ e)

within_some : (p : List Info) (next : Option ClassId) (here : ClassId) → IfSome next (λ a. a.0 < length p) → next ≡ Some here → here.0 < length p
within_some p next here h e = subst (λ o. IfSome o (λ (a : ClassId). a.0 < length p)) e h

-- A step of the walk.
step : (p : List Info) (class here : ClassId) (next over : Option ClassId) (same : Bool) → IsProgram p → class.0 < length p → IfSome next (λ a. a.0 < length p) → next ≡ Some here → IfSome over (λ up. GoesOn p here.0 up.0) → IfNone over (EndsAt p here.0) → nat_eq here.0 class.0 ≡ same → superclasses_behind (name_at p class.0) (rising_from p next) ≡ (if same then rising_from p over else superclasses_behind (name_at p class.0) (rising_from p over))
step p class here next over same is lc lh e some none test =
    ap (λ o. superclasses_behind (name_at p class.0) (rising_from p o)) e
    ∙ behind_on p here class over same is (within_some p next here lh e) lc (rises p here.0 over some none) test

pub behind_found : (p : List Info) (whole : List Node) (class here : ClassId) (next over : Option ClassId) (same : Bool) → IsProgram p → class.0 < length p → IfSome next (λ a. a.0 < length p) → next ≡ Some here → IfSome over (λ up. GoesOn p here.0 up.0) → IfNone over (EndsAt p here.0) → same ≡ nat_eq here.0 class.0 → same ≡ true → whole ≡ superclasses_behind (name_at p class.0) (rising_from p next) → whole ≡ rising_from p over
behind_found p whole class here next over same is lc lh e some none test true_is h =
    h ∙ step p class here next over true is lc lh e some none (sym test ∙ true_is)

pub behind_passed : (p : List Info) (whole : List Node) (class here : ClassId) (next over : Option ClassId) (same : Bool) → IsProgram p → class.0 < length p → IfSome next (λ a. a.0 < length p) → next ≡ Some here → IfSome over (λ up. GoesOn p here.0 up.0) → IfNone over (EndsAt p here.0) → same ≡ nat_eq here.0 class.0 → same ≡ false → whole ≡ superclasses_behind (name_at p class.0) (rising_from p next) → whole ≡ superclasses_behind (name_at p class.0) (rising_from p over)
behind_passed p whole class here next over same is lc lh e some none test false_is h =
    h ∙ step p class here next over false is lc lh e some none (sym test ∙ false_is)

pub behind_nowhere : (p : List Info) (whole : List Node) (n : Name) (next : Option ClassId) → next ≡ None → whole ≡ superclasses_behind n (rising_from p next) → whole ≡ rising_from p None
behind_nowhere p whole n next e h = h ∙ ap (λ o. superclasses_behind n (rising_from p o)) e

-- ---- the count

pub count_on : (p : List Info) (a : ℕ) (here next : Option ClassId) (count more sum : ℕ) → rising_from p here ≡ node_of (look p) (name_at p a) ∷ rising_from p next → more ≡ length (own_at (outline_of (look p (name_at p a)))) → sum ≡ count + more → count + length (values_of (rising_from p here)) ≡ sum + length (values_of (rising_from p next))
count_on p a here next count more sum up own total =
    let c = outline_of (look p (name_at p a)) in
    let n : ℕ = length (values_of (rising_from p next)) in
    let whole : length (values_of (rising_from p here)) ≡ n + length (instance_values c (fields_in c)) = ap (λ t. length (values_of t)) up ∙ length-append (values_of (rising_from p next)) (instance_values c (fields_in c)) in
    let same_count : more ≡ length (instance_values c (fields_in c)) = own ∙ ap length (at_same c) in
    omega (arith, whole, same_count, total)

pub count_done : (p : List Info) (next : Option ClassId) (count total : ℕ) → next ≡ None → count + length (values_of (rising_from p next)) ≡ total → count ≡ total
count_done p next count total e h =
    let k : length (values_of (rising_from p next)) ≡ 0 = ap (λ o. length (values_of (rising_from p o))) e in omega (arith, k, h)

pub count_full : (p : List Info) (here : ClassId) (next over : Option ClassId) (count more total : ℕ) → next ≡ Some here → IfSome over (λ up. GoesOn p here.0 up.0) → IfNone over (EndsAt p here.0) → more ≡ length (own_at (outline_of (look p (name_at p here.0)))) → 2 ^ 64 ≤ count + more → count + length (values_of (rising_from p next)) ≡ total → 2 ^ 64 ≤ total
count_full p here next over count more total e some none own full h =
    let up = ap (rising_from p) e ∙ rises p here.0 over some none in
    let k = count_on p here.0 next over count more (count + more) up own refl in
    omega (arith, k, full, h)

-- ---- the slot

abbrev slot_at : List Info → ClassId → ClassId → ℕ → ℕ
slot_at p root class place = slot_of (rising_at p root.0) (node_of (look p) (name_at p class.0)) place

slot_by : (p : List Info) (root class : ClassId) (place own : ℕ) (over : Option ClassId) → own ≡ length (own_before place (outline_of (look p (name_at p class.0)))) → superclasses_behind (name_at p class.0) (rising_at p root.0) ≡ rising_from p over → own + length (values_of (rising_from p over)) ≡ slot_at p root class place
slot_by p root class place own over count behind =
    let c = outline_of (look p (name_at p class.0)) in
    let one : own ≡ length (instance_values c (take place (fields_in c))) = count ∙ ap length (before_same place c) in
    let two : length (values_of (superclasses_behind (name_at p class.0) (rising_at p root.0))) ≡ length (values_of (rising_from p over)) = ap (λ t. length (values_of t)) behind in
    omega (arith, one, two)

pub slot_some : (p : List Info) (root class : ClassId) (place own count : ℕ) (over : Option ClassId) (slot : Option ℕ) → own ≡ length (own_before place (outline_of (look p (name_at p class.0)))) → superclasses_behind (name_at p class.0) (rising_at p root.0) ≡ rising_from p over → count ≡ own + length (values_of (rising_from p over)) → IfSome slot (λ n. n ≡ count) → IfSome slot (λ n. n ≡ slot_at p root class place)
slot_some p root class place own count over None is behind total h = tt
slot_some p root class place own count over (Some slot) is behind total h =
    h ∙ total ∙ slot_by p root class place own over is behind

pub slot_none : (p : List Info) (root class : ClassId) (place own count : ℕ) (over : Option ClassId) (slot : Option ℕ) → own ≡ length (own_before place (outline_of (look p (name_at p class.0)))) → superclasses_behind (name_at p class.0) (rising_at p root.0) ≡ rising_from p over → count ≡ own + length (values_of (rising_from p over)) → IfNone slot (2 ^ 32 ≤ count) → IfNone slot (2 ^ 32 ≤ slot_at p root class place)
slot_none p root class place own count over None is behind total far =
    let e = slot_by p root class place own over is behind in omega (arith, e, total, far)
slot_none p root class place own count over (Some slot) is behind total far = tt

pub slot_over : (p : List Info) (root class : ClassId) (place own : ℕ) (over : Option ClassId) → own ≡ length (own_before place (outline_of (look p (name_at p class.0)))) → superclasses_behind (name_at p class.0) (rising_at p root.0) ≡ rising_from p over → 2 ^ 64 ≤ own + length (values_of (rising_from p over)) → 2 ^ 32 ≤ slot_at p root class place
slot_over p root class place own over is behind far =
    let e = slot_by p root class place own over is behind in omega (arith, e, far)
