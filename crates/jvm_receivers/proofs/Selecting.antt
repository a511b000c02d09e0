-- What was selected is called.
use Rattle.std.proofs.Common.{◌≡◌, ◌∙◌, sym, refl, ap, subst, ℕ, Bool, List, Some, Ok, Err}
use Rattle.program_rules.specs.declared.fault.Fault.{Fault}
use Rattle.program_rules.specs.Faults.{Answer, Found, Fails}
use Rattle.program_rules.specs.Instructions.{MethodRef}
use Rattle.program_rules.specs.Linked.{LinkedMethod}
use Rattle.program_rules.specs.Resolution.{MethodAt}
use Rattle.program_rules.specs.Names.{class_behind}
use Rattle.machine_rules.specs.State as def
use Rattle.machine_rules.specs.Lookups.{consult}
use Rattle.class_link.specs.Info.{Info}
use Rattle.class_link.specs.View.{method_ref_of}
use Rattle.class_link.specs.declared.linked.MethodRef as code
use Rattle.class_table.specs.Table.{look}
use Rattle.jvm_frames.specs.Frames.{NumberedFrames}
use Rattle.jvm_rows.specs.Effects.{RowOf}
use Rattle.jvm_rows.specs.Rows.{throwing}
use Rattle.jvm_rows.proofs.Ends.{each}
use Rattle.jvm_link.specs.declared.site.Site.{Site}
use Rattle.jvm_link.specs.declared.site.Callee.{Callee}
use Rattle.jvm_link.specs.declared.site.Callee.TheVariants as callee
use Rattle.jvm_link.specs.Answers.{AnswersCall, IsCallee}
use Rattle.jvm_link.specs.Named.{method_named}
use Rattle.jvm_link.specs.Sites.{IsMethod}
use Rattle.jvm_link.specs.References.{ResolvesMethodRef}
use Rattle.jvm_unwind.specs.Turns.{row_at}
use Rattle.jvm_world.specs.declared.world.World.{World}
use Rattle.jvm_world.specs.View.{Means, Moves}
use Rattle.jvm_invokes.specs.declared.invoked.Invoked.{Invoked}
use Rattle.jvm_invokes.specs.Calls.{IsThere}
use Rattle.jvm_invokes.specs.Heads.{StandsAt}
use Rattle.jvm_invokes.specs.Invoked.{Invokes, calls_with}
use Rattle.jvm_receivers.specs.Receivers.{choosing, selecting}
use Rattle.jvm_invokes.specs.Rows.{naming}
use Rattle.jvm_receivers.specs.Selected.{IsAnswer}
use Rattle.jvm_invokes.proofs.Outcomes.{LeftTo, after, left_same}
use Rattle.jvm_invokes.proofs.Resolved.{found_left, fault_left}
use Rattle.jvm_invokes.proofs.Standing.{stands}
use Rattle.jvm_invokes.proofs.StaticCalls.{there_of}

pub method_flags : (p : List Info) (m : MethodAt) (s : Site) (flags : ℕ) → IsMethod p (Some m) s → ((l : LinkedMethod) → StandsAt p s l → flags ≡ l.flags) → m.flags ≡ flags
method_flags p m s flags is are =
    let k = stands p m s is in
    ap (λ (x : MethodAt). x.flags) k.is ∙ sym (are k.method k.there)

pub clone_flags : (p : List Info) (m : MethodAt) → IsCallee p m callee.ArrayClone → m.flags ≡ 1
clone_flags p m is = ap (λ (x : MethodAt). x.flags) is

pub answer_there : (p : List Info) (c : Callee) → IsAnswer p (Ok c) → IsThere p c
answer_there p c h = there_of p h.answers.method c h.answers.callee

-- ---- what is left

selected_left : (p : List Info) (count : ℕ) (a b : Answer MethodAt) (old : NumberedFrames) (w : World) → a ≡ b → LeftTo p (selecting p count a) (selecting p count b) old w w
selected_left p count a b old w e =
    left_same p (selecting p count a) (selecting p count b) old w
    (each old.frame (λ f. (v : def.World) → Means p w v → row_at p (selecting p count a w.limits f.room) f old v ≡ row_at p (selecting p count b w.limits f.room) f old v)
    (λ f v k. ap (λ x. row_at p (selecting p count x w.limits f.room) f old v) e))

pub selected_calls : (p : List Info) (r : MethodRef) (count : ℕ) (c : Callee) (t : Invoked) (old new : NumberedFrames) (w u : World) → ((m : MethodAt) (r : MethodRef) → IsCallee p m c → Invokes p r (calls_with p count m) t old new w u) → (a : Answer MethodAt) → AnswersCall p a (Ok c) → Invokes p r (selecting p count a) t old new w u
selected_calls p r count c t old new w u k a h =
    after p r (selecting p count a) (calls_with p count h.method) t old new w w u refl
    (selected_left p count a (Found h.method) old w h.found) (k h.method r h.callee)

pub selected_throws : (p : List Info) (r : MethodRef) (count : ℕ) (fault : Fault) (t : Invoked) (old new : NumberedFrames) (w u : World) → Invokes p r (throwing fault) t old new w u → (a : Answer MethodAt) → AnswersCall p a (Err fault) → Invokes p r (selecting p count a) t old new w u
selected_throws p r count fault t old new w u k a h =
    after p r (selecting p count a) (throwing fault) t old new w w u refl
    (selected_left p count a (Fails fault) old w h) k

-- ---- one of two rows

pub chosen : (p : List Info) (r : MethodRef) (row other : RowOf) (b x : Bool) (t : Invoked) (old new : NumberedFrames) (w u : World) → b ≡ x → Invokes p r (choosing x row other) t old new w u → Invokes p r (choosing b row other) t old new w u
chosen p r row other b x t old new w u e k = subst (λ c. Invokes p r (choosing c row other) t old new w u) (sym e) k

-- ---- what was resolved

pub resolved_call : (p : List Info) (r : code.MethodRef) (found : MethodAt → RowOf) (c : Callee) (t : Invoked) (old new : NumberedFrames) (w mid u : World) → ResolvesMethodRef p r (Ok c) → Moves p w mid (consult (look p) (class_behind r.class)) → mid.limits ≡ w.limits → ((m : MethodAt) → IsCallee p m c → method_named (look p) (method_ref_of r) ≡ Found m → Invokes p (method_ref_of r) (found m) t old new mid u) → Invokes p (method_ref_of r) (naming p (method_ref_of r) found) t old new w u
resolved_call p r found c t old new w mid u h moves same k =
    let q : MethodRef = method_ref_of r in
    after p q (naming p q found) (found h.method) t old new w mid u same
    (found_left p q found h.method old w mid h.found moves) (k h.method h.callee h.found)

pub resolved_fault : (p : List Info) (r : code.MethodRef) (found : MethodAt → RowOf) (fault : Fault) (t : Invoked) (old new : NumberedFrames) (w mid u : World) → ResolvesMethodRef p r (Err fault) → Moves p w mid (consult (look p) (class_behind r.class)) → mid.limits ≡ w.limits → Invokes p (method_ref_of r) (throwing fault) t old new mid u → Invokes p (method_ref_of r) (naming p (method_ref_of r) found) t old new w u
resolved_fault p r found fault t old new w mid u h moves same k =
    let q : MethodRef = method_ref_of r in
    after p q (naming p q found) (throwing fault) t old new w mid u same
    (fault_left p q found fault old w mid h moves) k
