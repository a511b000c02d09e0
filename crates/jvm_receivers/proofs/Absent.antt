-- What objects select, also where the program hasn't their class.
use Rattle.std.proofs.Common.{◌≡◌, ◌∙◌, sym, refl, ap, ℕ, suc, Bool, true, false, List, [], ◌∷◌, ◌++◌, map, drop, Option, None, Some, IfSome}
use Rattle.std.specs.Prelude.{◌||◌, if◌then◌else◌, Result}
use Rattle.program_rules.specs.declared.fault.Fault.{Fault}
use Rattle.program_rules.specs.declared.fault.Fault.TheVariants.{AbstractMethodError}
use Rattle.program_rules.specs.Faults.{Answer, Found, Fails}
use Rattle.program_rules.specs.Instructions.{MethodRef}
use Rattle.program_rules.specs.Linked.{LinkedMethod, LinkedBody, HasCode, IsNative, NoBody, is_abstract, is_private}
use Rattle.program_rules.specs.Names.{Name}
use Rattle.program_rules.specs.Objects.{ObjectKind}
use Rattle.program_rules.specs.Outlines.{Abstractly, callable_of, interfaces_in, outline_of}
use Rattle.program_rules.specs.Programs.{Look, Node, Family, Rising, Searching, node, nodes, nodes_within, supers_within, concat_over, superclass_in, family, as_array_if, top_of}
use Rattle.program_rules.specs.Resolution.{MethodAt, candidates, found_or, most_specific_concrete}
use Rattle.program_rules.specs.Selection.{first_through, if_among, if_virtual, is_own, overriding_methods, select_named, select_virtual, the_one}
use Rattle.machine_rules.specs.State as def
use Rattle.machine_rules.specs.Lookups.{Known, known_of}
use Rattle.machine_rules.specs.Effects.{on_found, on_some}
use Rattle.machine_rules.specs.Calls.{calls_method}
use Rattle.class_link.specs.Info.{Info}
use Rattle.class_table.specs.Table.{look}
use Rattle.jvm_frames.specs.Frames.{NumberedFrames, args_on}
use Rattle.jvm_rows.proofs.Ends.{each}
use Rattle.jvm_link.specs.Answers.{AnswersCall, IsCallee}
use Rattle.jvm_link.specs.Candidates.{family_at}
use Rattle.jvm_link.specs.Sites.{IsMethod}
use Rattle.jvm_link.specs.declared.site.Callee.{Callee}
use Rattle.jvm_link.specs.declared.site.Callee.TheVariants as callee
use Rattle.jvm_link.specs.declared.site.Site.{Site}
use Rattle.jvm_link.specs.declared.rows.Receiver.{Receiver}
use Rattle.jvm_unwind.specs.declared.turn.Turn.TheVariants as turn
use Rattle.jvm_unwind.specs.Turns.{frame_of, row_at}
use Rattle.jvm_values.specs.declared.object.Object as code
use Rattle.jvm_world.specs.declared.world.World.{World}
use Rattle.jvm_world.specs.View.{IsObjectIn, Means, object_of}
use Rattle.jvm_invokes.specs.declared.invoked.Invoked.{Invoked}
use Rattle.jvm_invokes.specs.declared.invoked.Invoked.TheVariants as invoked
use Rattle.jvm_invokes.specs.Heads.{StandsAt}
use Rattle.jvm_invokes.specs.Invoked.{InvokedTo, Invokes, Leaves}
use Rattle.jvm_receivers.specs.Objects.{IsReceiver, IsSelected, SelectsFor, methods_in}
use Rattle.jvm_receivers.specs.Receivers.{selecting, selecting_on}
use Rattle.jvm_receivers.specs.Selected.{IsAnswer, is_fixed, own_or_none}
use Rattle.jvm_receivers.specs.Targets.{received}
use Rattle.jvm_invokes.proofs.Outcomes.{LeftTo, after}
use Rattle.jvm_invokes.proofs.Standing.{stands}
use Rattle.jvm_receivers.proofs.Selecting.{method_flags}

-- ---- what each object selects

or_false : (b c : Bool) → c ≡ false → (b || c) ≡ b
or_false true c e = refl
or_false false c e = e

body_own : (b : LinkedBody) → is_own (callable_of b) ≡ false
body_own (HasCode code) = refl
body_own (IsNative n) = refl
body_own NoBody = refl

own_by : (abstract : Bool) (b : LinkedBody) → is_own (if abstract then Abstractly else callable_of b) ≡ false
own_by true b = refl
own_by false b = body_own b

pub method_fixed : (p : List Info) (m : MethodAt) (s : Site) (flags : ℕ) (b : Bool) → IsMethod p (Some m) s → ((l : LinkedMethod) → StandsAt p s l → flags ≡ l.flags) → b ≡ is_private flags → is_fixed m ≡ b
method_fixed p m s flags b is are e =
    let k = stands p m s is in
    or_false (is_private m.flags) (is_own m.callable)
    (ap (λ (x : MethodAt). is_own x.callable) k.is ∙ own_by (is_abstract k.method.flags) k.method.body)
    ∙ ap is_private (method_flags p m s flags is are) ∙ sym e

pub clone_fixed : (p : List Info) (m : MethodAt) → IsCallee p m callee.ArrayClone → is_fixed m ≡ true
clone_fixed p m is = ap is_fixed is

-- ---- a class that the program hasn't

-- Selection goes by two walks.
abbrev virtual_in : MethodRef → MethodAt → List Node → List Node → Answer MethodAt
virtual_in r m rising searching =
    if is_fixed m then Found m
    else found_or (first_through (if_among (overriding_methods r m searching)) r rising)
    (the_one (most_specific_concrete (candidates r.name r.desc searching)))

abbrev named_in : MethodRef → List Node → List Node → Answer MethodAt
named_in r rising searching =
    found_or (first_through if_virtual r rising)
    (the_one (most_specific_concrete (candidates r.name r.desc searching)))

rising_none : (k : ℕ) (p : Look) (n : Name) → p n ≡ None → nodes_within Rising (suc k) p n ≡ node n None (supers_within (suc k) p n) ∷ []
rising_none k p n e =
    ap (λ o. node n (outline_of o) (supers_within (suc k) p n) ∷ concat_over (nodes_within Rising k p) (superclass_in (outline_of o))) e

searching_none : (k : ℕ) (p : Look) (n : Name) → p n ≡ None → nodes_within Searching (suc k) p n ≡ node n None (supers_within (suc k) p n) ∷ []
searching_none k p n e =
    ap (λ o. node n (outline_of o) (supers_within (suc k) p n) ∷ (concat_over (nodes_within Searching k p) (interfaces_in (outline_of o)) ++ concat_over (nodes_within Searching k p) (superclass_in (outline_of o)))) e

abbrev alone : Look → Name → Node
alone p n = node n None (supers_within 4294967296 p n)

-- Both walks of the family, or of that of arrays, are the class alone.
pub record IsAlone (p : Look) (n : Name) (c : Family) : Type 0 where
  pub rising : c.rising ≡ alone p n ∷ []
  pub searching : c.searching ≡ alone p n ∷ []

alone_family : (b : Bool) (p : Look) (n : Name) → p n ≡ None → IsAlone p n (as_array_if b (family p n))
unfolding family nodes
alone_family false p n e = record { rising = rising_none 4294967295 p n e; searching = searching_none 4294967295 p n e }
alone_family true p n e = record {
  rising = ap top_of (rising_none 4294967295 p n e);
  searching = ap top_of (rising_none 4294967295 p n e);
}

virtual_by : (r : MethodRef) (m : MethodAt) (c : Family) → select_virtual r m c ≡ virtual_in r m c.rising c.searching
unfolding select_virtual
virtual_by r m c = refl

named_by : (r : MethodRef) (c : Family) → select_named r c ≡ named_in r c.rising c.searching
unfolding select_named
named_by r c = refl

pub virtual_absent : (p : Look) (n : Name) (r : MethodRef) (m : MethodAt) (b : Bool) → p n ≡ None → select_virtual r m (as_array_if b (family p n)) ≡ own_or_none m
virtual_absent p n r m b e =
    let h = alone_family b p n e in
    virtual_by r m (as_array_if b (family p n)) ∙ (λ i. virtual_in r m (h.rising i) (h.searching i))

pub named_absent : (p : Look) (n : Name) (r : MethodRef) (b : Bool) → p n ≡ None → select_named r (as_array_if b (family p n)) ≡ Fails AbstractMethodError
named_absent p n r b e =
    let h = alone_family b p n e in
    named_by r (as_array_if b (family p n)) ∙ (λ i. named_in r (h.rising i) (h.searching i))

-- ---- a class of the program

pub same_methods : (p : List Info) (k : ObjectKind) (to : Receiver) → IsReceiver p k to → methods_in p k ≡ family_at p to.class.0 to.array
same_methods p k to h = (λ i. as_array_if (h.array i) (family (look p) (sym h.class.named i)))

-- ---- an object that is there

pub found_selects : (p : List Info) (w : World) (x : ℕ) (o : code.Object) (search : Known → Answer MethodAt) (answer : Result Callee Fault) → IsObjectIn p w x (Some o) → AnswersCall p (search (known_of (look p) (object_of p o))) answer → SelectsFor p w x search (Some answer)
found_selects p w x o search answer there answers = record { object = object_of p o; there = there; answers = answers }

pub answered : (p : List Info) (w : World) (x : ℕ) (search : Known → Answer MethodAt) (answer : Result Callee Fault) → SelectsFor p w x search (Some answer) → IsAnswer p answer
answered p w x search answer h = record { found = search (known_of (look p) h.object); answers = h.answers }

-- ---- rows

pub nothing_selected : (p : List Info) (w : World) (r : MethodRef) (x count : ℕ) (search : Known → Answer MethodAt) (old : NumberedFrames) → SelectsFor p w x search None → Invokes p r (received x count (selecting_on p search)) (invoked.Turned turn.NoRow) old old w w
nothing_selected p w r x count search old h =
    each old.frame (λ f. (v : def.World) → Means p w v → InvokedTo p w.limits r (invoked.Turned turn.NoRow) f old old w (row_at p (received x count (selecting_on p search) w.limits f.room) f old v))
    (λ f v m. (ap (λ o. on_some o (λ b. on_found w.limits v (frame_of p f ∷ map (frame_of p) old.callers) (search (known_of (look p) b)) (calls_method (look p) w.limits v (frame_of p f) (map (frame_of p) old.callers) f.room (args_on count f.stack) (drop count f.stack)))) (h v m), refl))

selected_left : (p : List Info) (w : World) (x count : ℕ) (search : Known → Answer MethodAt) (answer : Result Callee Fault) (old : NumberedFrames) (h : IsSelected p w x search answer) → LeftTo p (received x count (selecting_on p search)) (selecting p count (search (known_of (look p) h.object))) old w w
selected_left p w x count search answer old h =
    each old.frame (λ f. (v : def.World) → Means p w v → Leaves p (selecting p count (search (known_of (look p) h.object)) w.limits f.room) f old w (row_at p (received x count (selecting_on p search) w.limits f.room) f old v))
    (λ f v m. record {
      world = v;
      means = m;
      left = ap (λ o. on_some o (λ b. on_found w.limits v (frame_of p f ∷ map (frame_of p) old.callers) (search (known_of (look p) b)) (calls_method (look p) w.limits v (frame_of p f) (map (frame_of p) old.callers) f.room (args_on count f.stack) (drop count f.stack)))) (h.there v m);
    })

pub selected_row : (p : List Info) (r : MethodRef) (x count : ℕ) (search : Known → Answer MethodAt) (answer : Result Callee Fault) (t : Invoked) (old new : NumberedFrames) (w u : World) → ((a : Answer MethodAt) (r : MethodRef) → AnswersCall p a answer → Invokes p r (selecting p count a) t old new w u) → SelectsFor p w x search (Some answer) → Invokes p r (received x count (selecting_on p search)) t old new w u
selected_row p r x count search answer t old new w u k h =
    after p r (received x count (selecting_on p search)) (selecting p count (search (known_of (look p) h.object))) t old new w w u refl
    (selected_left p w x count search answer old h) (k (search (known_of (look p) h.object)) r h.answers)

pub answered_if : (p : List Info) (w : World) (x : ℕ) (search : Known → Answer MethodAt) (s : Option (Result Callee Fault)) → SelectsFor p w x search s → IfSome s (IsAnswer p)
answered_if p w x search None h = tt
answered_if p w x search (Some answer) h = answered p w x search answer h
