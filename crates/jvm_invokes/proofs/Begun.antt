-- A class that has begun is ready.
use Rattle.std.proofs.Common.{◌≡◌, ◌∙◌, refl, ap, ℕ, zero, suc, Bool, true, false, List, [], ◌∷◌, ◌++◌, Some}
use Rattle.std.specs.Prelude.{if◌then◌else◌, ◌||◌, ◌&&◌}
use Rattle.std.specs.List.{list_any, filter}
use Rattle.program_rules.specs.Names.{Name}
use Rattle.program_rules.specs.Outlines.{outline_of, is_of_library, is_interface_class, interfaces_in}
use Rattle.program_rules.specs.Programs.{Look, Node, Rising, Beginning, node, nodes, nodes_within, supers_within, concat_over, superclass_in, family}
use Rattle.machine_rules.specs.declared.machine.InitState.{InitState}
use Rattle.machine_rules.specs.declared.machine.InitState.TheVariants.{Fresh, Running, Done, Failed}
use Rattle.machine_rules.specs.State as def
use Rattle.machine_rules.specs.Initialisation.{Need, Ready, init_in, is_begun, is_begun_class, behind_begun, need_with, first_need, first_of, is_initialised_before, need_of}
use Rattle.class_link.specs.declared.linked.LinkedClass.{LinkedClass}
use Rattle.class_link.specs.View.{linked_of}
use Rattle.class_link.specs.Info.{Info}
use Rattle.class_table.specs.Table.{look, name_at}
use Rattle.jvm_world.specs.declared.world.World.{World}
use Rattle.jvm_world.specs.View.{Means}
use Rattle.jvm_invokes.specs.Rows.{IsReady}

abbrev Inits : Type 0
Inits = List (Name × InitState)

-- How far a class of the program has come.
abbrev state_in : Inits → Look → Name → InitState
state_in is p n = if is_of_library (outline_of (p n)) then Done else init_in n is

need_begun : (s : InitState) (n : Node) (rest : Need) → is_begun s ≡ true → need_with s n rest ≡ rest
need_begun Fresh n rest e = absurd cc
need_begun Running n rest e = refl
need_begun Done n rest e = refl
need_begun Failed n rest e = absurd cc

-- ---- an interface

rising_ready : (k : ℕ) (is : Inits) (p : Look) (n : Name) → is_begun (state_in is p n) ≡ true → first_need is (first_of (nodes_within Rising k p n)) ≡ Ready
rising_ready zero is p n e = need_begun (state_in is p n) (node n (outline_of (p n)) (n ∷ [])) Ready e
rising_ready (suc k) is p n e =
    need_begun (state_in is p n) (node n (outline_of (p n)) (supers_within (suc k) p n)) Ready e

-- ---- a class

or_true : (b : Bool) → (b || true) ≡ true
or_true true = refl
or_true false = refl

any_behind : (is : Inits) (xs ys : List Node) → list_any (is_begun_class is) ys ≡ true → list_any (is_begun_class is) (xs ++ ys) ≡ true
any_behind is [] ys e = e
any_behind is (x ∷ xs) ys e =
    ap (λ b. is_begun_class is x || b) (any_behind is xs ys e) ∙ or_true (is_begun_class is x)

none_behind : (is : Inits) (xs ys : List Node) → list_any (is_begun_class is) ys ≡ true → behind_begun is ys ≡ [] → behind_begun is (xs ++ ys) ≡ []
none_behind is [] ys any e = e
none_behind is (x ∷ xs) ys any e =
    ap (λ b. if b then behind_begun is (xs ++ ys) else x ∷ (xs ++ ys)) (any_behind is (x ∷ xs) ys any)
    ∙ none_behind is xs ys any e

begun_class : (is : Inits) (p : Look) (n : Name) (over : List Name) → is_interface_class (outline_of (p n)) ≡ false → is_begun (state_in is p n) ≡ true → is_begun_class is (node n (outline_of (p n)) over) ≡ true
begun_class is p n over e h = ap (λ b. (if b then false else true) && is_begun (state_in is p n)) e ∙ h

alone_any : (is : Inits) (x : Node) → is_begun_class is x ≡ true → list_any (is_begun_class is) (x ∷ []) ≡ true
alone_any is x e = ap (λ b. b || false) e

alone_none : (is : Inits) (x : Node) → is_begun_class is x ≡ true → behind_begun is (x ∷ []) ≡ []
alone_none is x e = ap (λ b. if b then behind_begun is [] else x ∷ []) (alone_any is x e)

beginning_none : (k : ℕ) (is : Inits) (p : Look) (n : Name) → is_interface_class (outline_of (p n)) ≡ false → is_begun (state_in is p n) ≡ true → behind_begun is (nodes_within Beginning k p n) ≡ []
beginning_none zero is p n e h =
    alone_none is (node n (outline_of (p n)) (n ∷ [])) (begun_class is p n (n ∷ []) e h)
beginning_none (suc k) is p n e h =
    let x : Node = node n (outline_of (p n)) (supers_within (suc k) p n) in
    let up : List Node = concat_over (nodes_within Beginning k p) (superclass_in (outline_of (p n))) in
    let across : List Node = concat_over (nodes_within Beginning k p) (interfaces_in (outline_of (p n))) in
    let is_x = begun_class is p n (supers_within (suc k) p n) e h in
    none_behind is (if is_interface_class (outline_of (p n)) then [] else up) (across ++ x ∷ [])
    (any_behind is across (x ∷ []) (alone_any is x is_x))
    (none_behind is across (x ∷ []) (alone_any is x is_x) (alone_none is x is_x))

ready_by : (b : Bool) (is : Inits) (p : Look) (n : Name) → is_interface_class (outline_of (p n)) ≡ b → is_begun (state_in is p n) ≡ true → (if b then first_need is (first_of (nodes_within Rising 4294967296 p n)) else first_need is (filter is_initialised_before (behind_begun is (nodes_within Beginning 4294967296 p n)))) ≡ Ready
ready_by true is p n e h = rising_ready 4294967296 is p n h
ready_by false is p n e h =
    ap (λ ns. first_need is (filter is_initialised_before ns)) (beginning_none 4294967296 is p n e h)

begun_is_ready : (is : Inits) (p : Look) (n : Name) → is_begun (state_in is p n) ≡ true → need_of is (family p n) ≡ Ready
unfolding need_of family nodes
begun_is_ready is p n h = ready_by (is_interface_class (outline_of (p n))) is p n refl h

-- ---- by number

pub library_ready : (p : List Info) (a : ℕ) (l : LinkedClass) (w : World) → look p (name_at p a) ≡ Some (linked_of l) → l.library ≡ true → IsReady p w a
unfolding linked_of
library_ready p a l w e h v m =
    begun_is_ready v.inits (look p) (name_at p a)
    (ap (λ b. is_begun (if b then Done else init_in (name_at p a) v.inits))
    (ap (λ c. is_of_library (outline_of c)) e ∙ h))

by_library : (b : Bool) (s : InitState) → is_begun s ≡ true → is_begun (if b then Done else s) ≡ true
by_library true s e = refl
by_library false s e = e

pub begun_ready : (p : List Info) (a : ℕ) (w : World) (s : InitState) → ((v : def.World) → Means p w v → init_in (name_at p a) v.inits ≡ s) → is_begun s ≡ true → IsReady p w a
begun_ready p a w s is h v m =
    begun_is_ready v.inits (look p) (name_at p a)
    (by_library (is_of_library (outline_of (look p (name_at p a)))) (init_in (name_at p a) v.inits) (ap is_begun (is v m) ∙ h))
