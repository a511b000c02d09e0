-- The class and the method of a call are found by name.
use Rattle.std.proofs.Common.{◌≡◌, ◌∙◌, sym, refl, ap, subst, ℕ, ◌<◌, ◌+◌, Bool, true, false, List, [], ◌∷◌, ◌++◌, map, length, take, Option, None, Some, IfSome, slice_get}
use Rattle.std.specs.Prelude.{All, IsSome, if◌then◌else◌, nat_le}
use Rattle.std.specs.Option.{option_copied}
use Rattle.std.proofs.lemmas.List.Elements.{All-nil}
use Rattle.program_rules.specs.declared.call_kind.CallKind.{CallKind}
use Rattle.program_rules.specs.declared.call_kind.CallKind.TheVariants as kind
use Rattle.program_rules.specs.declared.value.Value.{Value}
use Rattle.program_rules.specs.declared.value.Value.TheVariants.{Ref}
use Rattle.program_rules.specs.Layout.{words_of}
use Rattle.program_rules.specs.Linked.{Linked, is_static}
use Rattle.program_rules.specs.Names.{Name, plain_descriptor}
use Rattle.program_rules.specs.Outlines.{Callable, Written, Natively, Copies, Abstractly, Head, head_in, outline_of}
use Rattle.program_rules.specs.Programs.{Look, Node, Family, Rising, nodes, family, concat_over, superclass_in}
use Rattle.program_rules.specs.Resolution.{MethodAt, same_bool, first_declared, method_at, or_else, with_node}
use Rattle.program_rules.specs.Objects as objects
use Rattle.program_rules.specs.Tests.{Call}
use Rattle.machine_rules.specs.declared.machine.Limits.{Limits}
use Rattle.machine_rules.specs.State as def
use Rattle.machine_rules.specs.Effects.{Effect, NoRow, on_some, allocate, unless_full, enters}
use Rattle.machine_rules.specs.Initialisation.{need_of, when_needed, when_ready}
use Rattle.machine_rules.specs.Lookups.{consult}
use Rattle.machine_rules.specs.NewObjects.{new_object}
use Rattle.machine_rules.specs.Script as rules
use Rattle.class_model.specs.declared.class.ClassId.{ClassId}
use Rattle.class_link.specs.Info.{Info}
use Rattle.class_table.specs.declared.scripted.Call as code
use Rattle.class_table.specs.Table.{look, name_at, IsProgram}
use Rattle.class_family.specs.Families.{node_of, rising_at}
use Rattle.class_family.proofs.Levels.{rising_step}
use Rattle.jvm_frames.specs.Frames.{NumberedFrame, NumberedFrames}
use Rattle.jvm_world.specs.declared.world.World.{World}
use Rattle.jvm_world.specs.View.{Means, Moves, IsWorldOf, call_of}
use Rattle.jvm_lines.specs.Below.{Turn}
use Rattle.jvm_lines.specs.Below.jvm_unwind_declared_turn_Turn_TheVariants as turn
use Rattle.jvm_lines.specs.Below.{AreWhole, StaysOrBegins}
use Rattle.jvm_link.specs.declared.site.Site.{Site}
use Rattle.jvm_link.specs.Sites.{IsMethod, OwnDeclared}
use Rattle.jvm_lines.specs.Below.{IsSite}
use Rattle.jvm_lines.specs.Below.jvm_invokes_Invoked as invoked
use Rattle.jvm_lines.proofs.Below.{stands}
use Rattle.jvm_lines.specs.Below.{TurnedTo}
use Rattle.jvm_lines.specs.Below.{HasNext, Waits, AreFramesOf}
use Rattle.jvm_lines.proofs.Below.{begins_keep_frames}
use Rattle.jvm_step.specs.Steps.{on_next, enters_as, enters_method, calls_on, calls_static, with_made, makes, calls_by, calls_fit, calls_named, calling, CallsOwn, StepsTo, StepsAt}
use Rattle.jvm_step.proofs.Worlds.{script_is, after, along}
use Rattle.jvm_step.proofs.Entered.{no_callers}

-- ---- the method that a class itself declares

own : (p : List Info) (n name desc : Name) → IsProgram p → first_declared name desc (take 1 (nodes Rising (look p) n)) ≡ or_else (with_node (node_of (look p) n) (head_in name desc (outline_of (look p n)))) None
own p n name desc ok = ap (λ l. first_declared name desc (take 1 l)) (rising_step (look p) ok.ranks n)

own_none : (p : List Info) (n name desc : Name) → IsProgram p → look p n ≡ None → first_declared name desc (take 1 (nodes Rising (look p) n)) ≡ None
own_none p n name desc ok none =
    own p n name desc ok
    ∙ ap (λ (c : Option Linked). or_else (with_node (node_of (look p) n) (head_in name desc (outline_of c))) None) none

class_in : (n : Node) (o : Option (ℕ × Head)) (m : MethodAt) → or_else (with_node n o) None ≡ Some m → m.class ≡ n.name
class_in n None m e = absurd cc
class_in n (Some h) m e =
    let same : method_at n h ≡ m = cc in sym (ap (λ (k : MethodAt). k.class) same)

own_class : (p : List Info) (n name desc : Name) (m : MethodAt) → IsProgram p → first_declared name desc (take 1 (nodes Rising (look p) n)) ≡ Some m → m.class ≡ n
own_class p n name desc m ok e =
    class_in (node_of (look p) n) (head_in name desc (outline_of (look p n))) m (sym (own p n name desc ok) ∙ e)

pub site_of : (p : List Info) (o : Option MethodAt) (s : Site) → IsMethod p o s → IsSite p s
site_of p o s h =
    let found = stands p (method_at (node_of (look p) (name_at p s.class.0)) (s.place, h.head)) s (record { within = h.within; head = h.head; there = h.there; found = refl }) in
    record { class = h.within; method = found.method; there = found.there }

pub own_plain : (p : List Info) (a : ℕ) (name desc : Name) (o : Option Site) → desc ≡ plain_descriptor → OwnDeclared p a name desc o → OwnDeclared p a name plain_descriptor o
own_plain p a name desc o is h = subst (λ (d : Name). OwnDeclared p a name d o) is h

pub own_site : (p : List Info) (a : ℕ) (name : Name) (o : Option Site) → OwnDeclared p a name plain_descriptor o → IfSome o (IsSite p)
own_site p a name None h = tt
own_site p a name (Some s) h = site_of p (first_declared name plain_descriptor (take 1 (rising_at p a))) s h

module _ (p : List Info) (k : CallKind) where
  pub named_none : (o : Option Site) (new : NumberedFrames) (w u : World) → o ≡ None → CallsOwn p o k turn.NoRow new w u
  named_none o new w u is a name own q limits v m =
      let h : first_declared name plain_descriptor (take 1 (rising_at p a)) ≡ None = subst (OwnDeclared p a name plain_descriptor) is own in
      ap (λ o. on_some o (λ m. calls_fit p k m q v)) h

  pub named_some : (o : Option Site) (s : Site) (t : Turn) (new : NumberedFrames) (w u : World) → o ≡ Some s → StepsAt p s (calls_fit p k) t new w u → CallsOwn p o k t new w u
  named_some o s t new w u is steps a name own q limits =
      let h : IsMethod p (first_declared name plain_descriptor (take 1 (rising_at p a))) s = subst (OwnDeclared p a name plain_descriptor) is own in
      let m : MethodAt = method_at (node_of (look p) (name_at p s.class.0)) (s.place, h.head) in
      along p (calls_named p a name k q) (calls_fit p k m q) t new w u
      (λ v n. ap (λ o. on_some o (λ m. calls_fit p k m q v)) h.found)
      (steps m (record { within = h.within; head = h.head; there = h.there; found = refl }) q limits)

-- ---- the rows of the definitions, by what is next in the script

begins_by : (q : Limits) (u : def.World) (c : Call) (rest : List Call) (m : MethodAt) (args : List Value) (k : Callable) → u.script ≡ c ∷ rest → m.class ≡ c.class → rules.begins_call q u c rest m.place args k ≡ enters_as k m.class m.place args q u
begins_by q u c rest m args (Written l) e class =
    ap (λ (n : Name). enters q (record u { running = Some c; script = rest }) [] n m.place l args) (sym class)
    ∙ sym (ap (λ xs. on_next xs (λ d ds. enters q (record u { running = Some d; script = ds }) [] m.class m.place l args)) e)
begins_by q u c rest m args (Natively x) e class = refl
begins_by q u c rest m args Copies e class = refl
begins_by q u c rest m args Abstractly e class = refl

begins_is : (q : Limits) (u : def.World) (c : Call) (rest : List Call) (m : MethodAt) (args : List Value) → u.script ≡ c ∷ rest → m.class ≡ c.class → rules.begins_call q u c rest m.place args m.callable ≡ enters_method args m q u
begins_is q u c rest m args e class = begins_by q u c rest m args m.callable e class

module _ (p : Look) (q : Limits) (c : Call) (rest : List Call) (m : MethodAt) (class : m.class ≡ c.class) where
  static_is : (u : def.World) (d : Family) → u.script ≡ c ∷ rest → rules.calls_once_ready q c rest m u d ≡ calls_static m q u d
  static_is u d e = begins_is q u c rest m [] e class

  made_by : (u : def.World) (o : objects.Object) (words : ℕ) (b : Bool) → u.script ≡ c ∷ rest → nat_le (u.used + words) q.heap ≡ b → unless_full u [] (allocate q u o words) (rules.with_instance q c rest m) ≡ unless_full u [] (allocate q u o words) (with_made m q)
  made_by u o words true e room =
      let a : Option (def.World × ℕ) = Some (record u { heap = u.heap ++ o ∷ []; used = u.used + words }, length u.heap + 1) in
      ap (λ (b : Bool). unless_full u [] (if b then a else None) (rules.with_instance q c rest m)) room
      ∙ begins_is q (record u { heap = u.heap ++ o ∷ []; used = u.used + words; instance = Some (length u.heap + 1) }) c rest m (Ref (length u.heap + 1) ∷ []) e class
      ∙ sym (ap (λ (b : Bool). unless_full u [] (if b then a else None) (with_made m q)) room)
  made_by u o words false e room =
      let a : Option (def.World × ℕ) = Some (record u { heap = u.heap ++ o ∷ []; used = u.used + words }, length u.heap + 1) in
      ap (λ (b : Bool). unless_full u [] (if b then a else None) (rules.with_instance q c rest m)) room
      ∙ sym (ap (λ (b : Bool). unless_full u [] (if b then a else None) (with_made m q)) room)

  makes_is : (u : def.World) (d : Family) → u.script ≡ c ∷ rest → rules.makes_once_ready q c rest m u d ≡ makes m q u d
  makes_is u d e =
      ap (λ (n : Name). unless_full u [] (allocate q u (new_object n d.rising) (words_of d.rising)) (rules.with_instance q c rest m)) (sym class)
      ∙ made_by u (new_object m.class d.rising) (words_of d.rising) (nat_le (u.used + words_of d.rising) q.heap) e refl

  on_is : (u : def.World) (o : Option ℕ) → u.script ≡ c ∷ rest → on_some o (λ x. rules.begins_call q u c rest m.place (Ref x ∷ []) m.callable) ≡ on_some o (λ x. enters_method (Ref x ∷ []) m q u)
  on_is u None e = refl
  on_is u (Some x) e = begins_is q u c rest m (Ref x ∷ []) e class

  ready_is : (z : def.World) (f g : def.World → Family → Effect) → ((u : def.World) (d : Family) → u.script ≡ c ∷ rest → f u d ≡ g u d) → z.script ≡ c ∷ rest → when_ready p q z [] c.class f ≡ when_ready p q z [] m.class g
  ready_is z f g same e =
      let u = consult p c.class z in
      let d = family p c.class in
      ap (when_needed q u [] (need_of u.inits d)) (same u d e)
      ∙ ap (λ (n : Name). when_ready p q z [] n g) (sym class)

kind_is : (p : List Info) (q : Limits) (z : def.World) (c : Call) (rest : List Call) (m : MethodAt) (k : CallKind) → m.class ≡ c.class → z.script ≡ c ∷ rest → rules.calls_kind (look p) q z c rest m k ≡ calls_by p k m q z
kind_is p q z c rest m kind.ClassWide class e =
    ready_is (look p) q c rest m class z (rules.calls_once_ready q c rest m) (calls_static m q) (static_is (look p) q c rest m class) e
kind_is p q z c rest m kind.Make class e =
    ready_is (look p) q c rest m class z (rules.makes_once_ready q c rest m) (makes m q) (makes_is (look p) q c rest m class) e
kind_is p q z c rest m kind.Around class e = on_is (look p) q c rest m class z z.instance e
kind_is p q z c rest m kind.TestMethod class e = on_is (look p) q c rest m class z z.instance e

fit_is : (p : List Info) (q : Limits) (z : def.World) (c : Call) (rest : List Call) (m : MethodAt) → m.class ≡ c.class → z.script ≡ c ∷ rest → (if same_bool (is_static m.flags) (rules.needs_static c.kind) then rules.calls_kind (look p) q z c rest m c.kind else NoRow) ≡ calls_fit p c.kind m q z
fit_is p q z c rest m class e =
    ap (λ (d : Effect). if same_bool (is_static m.flags) (rules.needs_static c.kind) then d else NoRow) (kind_is p q z c rest m c.kind class e)

-- The row of a call, once its class is consulted.
abbrev found_in : List Info → Limits → def.World → Call → List Call → List Node → Effect
found_in p q z c rest rising =
    on_some (first_declared c.method plain_descriptor (take 1 rising)) (λ m.
    if same_bool (is_static m.flags) (rules.needs_static c.kind) then rules.calls_kind (look p) q z c rest m c.kind else NoRow)

consulted : (p : List Info) (q : Limits) (v : def.World) (c : Call) (rest : List Call) → rules.calls_next (look p) q v (c ∷ rest) ≡ found_in p q (consult (look p) c.class v) c rest (nodes Rising (look p) c.class)
unfolding family
consulted p q v c rest = refl

on_each : (o : Option MethodAt) (f g : MethodAt → Effect) → ((m : MethodAt) → o ≡ Some m → f m ≡ g m) → on_some o f ≡ on_some o g
on_each None f g same = refl
on_each (Some m) f g same = same m refl

next_is : (p : List Info) (q : Limits) (v : def.World) (c : Call) (rest : List Call) → IsProgram p → v.script ≡ c ∷ rest → calling p q v ≡ on_some (first_declared c.method plain_descriptor (take 1 (nodes Rising (look p) c.class))) (λ m. calls_fit p c.kind m q (consult (look p) c.class v))
next_is p q v c rest ok e =
    let z = consult (look p) c.class v in
    ap (rules.calls_next (look p) q v) e ∙ consulted p q v c rest
    ∙ on_each (first_declared c.method plain_descriptor (take 1 (nodes Rising (look p) c.class)))
    (λ m. if same_bool (is_static m.flags) (rules.needs_static c.kind) then rules.calls_kind (look p) q z c rest m c.kind else NoRow)
    (λ m. calls_fit p c.kind m q z)
    (λ m there. fit_is p q z c rest m (own_class p c.class c.method plain_descriptor m ok there) e)

-- ---- the next call

pub record Script (cs : List Call) (c : code.Call) : Type 0 where
  pub rest : List Call
  pub is : cs ≡ call_of c ∷ rest

script_by : (xs : List Call) (cs : List code.Call) (c : code.Call) → slice_get cs 0 ≡ Some c → xs ≡ map call_of cs → Script xs c
script_by xs [] c there e = absurd cc
script_by xs (d ∷ cs) c there e =
    let same : d ≡ c = cc in
    record { rest = map call_of cs; is = e ∙ ap (λ (k : code.Call). call_of k ∷ map call_of cs) same }

pub no_script : (p : List Info) (w u : World) (new : NumberedFrames) → w.script.rest ≡ [] → TurnedTo p (calling p w.limits) turn.NoRow new w u
no_script p w u new none v m =
    ap (rules.calls_next (look p) w.limits v) (script_is p w v m ∙ ap (map call_of) none)

module _ (p : List Info) (c : code.Call) (w : World) (ok : IsWorldOf p w) (there : slice_get w.script.rest 0 ≡ Some c) where
  script_at : (v : def.World) → Means p w v → Script v.script c
  script_at v m = script_by v.script w.script.rest c there (script_is p w v m)

  pub no_class : (u : World) (new : NumberedFrames) → look p c.class ≡ None → TurnedTo p (calling p w.limits) turn.NoRow new w u
  no_class u new none v m =
      let s = script_at v m in
      next_is p w.limits v (call_of c) s.rest ok.program s.is
      ∙ ap (λ o. on_some o (λ m. calls_fit p c.kind m w.limits (consult (look p) c.class v))) (own_none p c.class c.method plain_descriptor ok.program none)

  pub found : (mid : World) (a : ℕ) (o : Option Site) (t : Turn) (new : NumberedFrames) (u : World) → name_at p a ≡ c.class → Moves p w mid (consult (look p) (name_at p a)) → mid.limits ≡ w.limits → OwnDeclared p a c.method plain_descriptor o → CallsOwn p o c.kind t new mid u → TurnedTo p (calling p w.limits) t new w u
  found mid a o t new u named moves kept own calls =
      after p (calling p w.limits) (calls_named p a c.method c.kind w.limits) t new w mid u
      (λ v m.
      let s = script_at v m in
      let z = consult (look p) (name_at p a) v in
      record {
        world = z;
        means = moves v m;
        left = next_is p w.limits v (call_of c) s.rest ok.program s.is
            ∙ ap (λ (n : Name). on_some (first_declared c.method plain_descriptor (take 1 (nodes Rising (look p) n))) (λ m. calls_fit p c.kind m w.limits (consult (look p) n v))) (sym named);
      })
      (calls a c.method own w.limits kept)

-- ---- frames

pub first_frames : (p : List Info) (s : NumberedFrames) → s.frame ≡ None → AreWhole s → AreFramesOf p s
first_frames p s none whole = record {
  running = subst (λ (o : Option NumberedFrame). IfSome o (invoked.IsOfMethod p)) (sym none) tt;
  below = subst (All (Waits p)) (sym (no_callers s none whole)) (All-nil (Waits p));
  whole = whole;
}

pub frames_behind : (p : List Info) (old new : NumberedFrames) → old.frame ≡ None → AreWhole old → StaysOrBegins p old new → AreFramesOf p new
frames_behind p old new none whole h =
    begins_keep_frames p old new (subst (λ (o : Option NumberedFrame). IfSome o HasNext) (sym none) tt) h
    (first_frames p old none whole)
