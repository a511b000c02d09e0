-- The place where a machine is stuck.
use Rattle.std.proofs.Common.{◌≡◌, ◌∙◌, sym, ap, subst, ℕ, ◌<◌, List, [], ◌∷◌, ◌++◌, map, length, None, Some, IfSome, IsSomeAnd}
use Rattle.std.specs.Prelude.{slice_get}
use Rattle.program_rules.specs.Linked.{method_in}
use Rattle.program_rules.specs.Names.{plain_descriptor}
use Rattle.machine_rules.specs.Runs.{StuckAt}
use Rattle.machine_rules.specs.State as def
use Rattle.machine_rules.specs.Steps.{Place, call_place, method_text, place_of, place_with}
use Rattle.class_link.specs.Info.{Info}
use Rattle.class_table.specs.declared.scripted.Call.{Call}
use Rattle.class_table.specs.Table.{look, name_at}
use Rattle.jvm_frames.specs.Frames.{IsAt}
use Rattle.jvm_world.specs.declared.world.World.{World}
use Rattle.jvm_world.specs.View.{History, call_of, world_of}
use Rattle.jvm_step.specs.Below.{frames_on, frames_of}
use Rattle.jvm_step.proofs.Below.{with_some}
use Rattle.jvm_step.specs.Below.{IsOfMethod}
use Rattle.jvm_step.specs.declared.machine.Machine.{Machine}
use Rattle.jvm_run.specs.declared.ending.Ending.{Ending}
use Rattle.jvm_run.specs.Ending.{ending_in}
use Rattle.jvm_step.specs.Machines.{IsMachineOf, StandsFor}

script_is : (p : List Info) (w : World) (h : History) (v : def.World) → v ≡ world_of p w h → v.script ≡ map call_of w.script.rest
unfolding world_of
script_is p w h v e = ap (λ (u : def.World). u.script) e

-- The place of a machine, by what it holds.
place_is : (p : List Info) (m : Machine) (s : def.MachineState) → StandsFor p m s → place_of (look p) s ≡ place_with (look p) (map call_of m.world.script.rest) (frames_of p m.frames)
place_is p m s is =
    ap (place_with (look p) s.world.script) is.frames
    ∙ ap (λ cs. place_with (look p) cs (frames_of p m.frames)) (script_is p m.world is.world.past s.world is.world.world)

-- The place of a call.
abbrev pub first_place : Call → Place
first_place c = record { class = c.class; method = c.method ++ plain_descriptor; at = 0 }

pub next_place : (cs : List Call) (c : Call) → Some c ≡ slice_get cs 0 → call_place (map call_of cs) ≡ first_place c
next_place [] c e = absurd cc
next_place (x ∷ cs) c e =
    let h : c ≡ x = cc in ap first_place (sym h)

-- The place of a frame, by its numbers.
abbrev place_at : List Info → ℕ → ℕ → ℕ → Place
place_at p class method at = record {
  class = name_at p class;
  method = method_text (method_in (look p (name_at p class)) method);
  at = at;
}

pub at_frame : (p : List Info) (m : Machine) (class method at : ℕ) (o : Ending) → IsSomeAnd m.frames.frame (IsAt class method at) → o ≡ ending_in (StuckAt (record { class = name_at p class; method = method_text (method_in (look p (name_at p class)) method); at = at })) → (s : def.MachineState) → StandsFor p m s → o ≡ ending_in (StuckAt (place_of (look p) s))
at_frame p m class method at o there told s is =
    let f = with_some m.frames.frame (IsAt class method at) there in
    let e : place_of (look p) s ≡ place_at p class method at =
    place_is p m s is
    ∙ ap (λ k. place_with (look p) (map call_of m.world.script.rest) (frames_on p k m.frames.callers)) f.1
    ∙ ap (λ k. place_at p k f.0.method f.0.at) f.2.class
    ∙ ap (λ k. place_at p class k f.0.at) f.2.method
    ∙ ap (place_at p class method) f.2.at in
    told ∙ ap (λ x. ending_in (StuckAt x)) (sym e)

pub at_call : (p : List Info) (m : Machine) (o : Ending) → m.frames.frame ≡ None → o ≡ ending_in (StuckAt (call_place (map call_of m.world.script.rest))) → (s : def.MachineState) → StandsFor p m s → o ≡ ending_in (StuckAt (place_of (look p) s))
at_call p m o none told s is =
    told ∙ ap (λ x. ending_in (StuckAt x)) (sym (place_is p m s is
    ∙ ap (λ k. place_with (look p) (map call_of m.world.script.rest) (frames_on p k m.frames.callers)) none))

pub class_within : (p : List Info) (m : Machine) (class method at : ℕ) → IsMachineOf p m → IsSomeAnd m.frames.frame (IsAt class method at) → class < length p
class_within p m class method at h there =
    let f = with_some m.frames.frame (IsAt class method at) there in
    let of : IsOfMethod p f.0 = subst (λ k. IfSome k (IsOfMethod p)) f.1 h.frames.running in
    subst (λ k. k < length p) f.2.class of.class
