-- The end of a machine.
use Rattle.std.proofs.Common.{◌≡◌, ◌∙◌, refl, sym, ap, ℕ, List, [], ◌∷◌, map, Option, None, Some}
use Rattle.std.specs.Option.{option_map}
use Rattle.machine_rules.specs.declared.machine.Stop.{Stop}
use Rattle.program_rules.specs.Objects.{Object}
use Rattle.machine_rules.specs.State as def
use Rattle.machine_rules.specs.Steps as steps
use Rattle.class_link.specs.Info.{Info}
use Rattle.class_table.specs.declared.scripted.Call.{Call}
use Rattle.jvm_frames.specs.Frames.{NumberedFrame}
use Rattle.jvm_world.specs.declared.world.World.{World}
use Rattle.jvm_world.specs.View.{History, call_of, world_of}
use Rattle.jvm_lines.specs.Below.{frames_on, frames_of}
use Rattle.jvm_step.specs.declared.machine.Machine.{Machine}
use Rattle.jvm_step.specs.declared.machine.StateEnd.{StateEnd}
use Rattle.jvm_step.specs.Machines.{StandsFor, TellsEnd, ended_with, end_of, outcome_by, over_or}

over_is : (p : List Info) (w : World) (h : History) (v : def.World) → v ≡ world_of p w h → v.over ≡ w.over
unfolding world_of
over_is p w h v e = ap (λ (u : def.World). u.over) e

script_is : (p : List Info) (w : World) (h : History) (v : def.World) → v ≡ world_of p w h → v.script ≡ map call_of w.script.rest
unfolding world_of
script_is p w h v e = ap (λ (u : def.World). u.script) e

ended_is : (p : List Info) (h : List Object) (x : Option ℕ) (o : Option NumberedFrame) (fs : List NumberedFrame) (cs : List Call) → steps.ended_with h x (frames_on p o fs) (map call_of cs) ≡ option_map (outcome_by h) (ended_with x o cs)
ended_is p h (Some x) None fs cs = refl
ended_is p h (Some x) (Some f) fs cs = refl
ended_is p h None None fs [] = refl
ended_is p h None None fs (c ∷ cs) = refl
ended_is p h None (Some f) fs cs = refl

or_is : (h : List Object) (o : Option Stop) (e : Option StateEnd) → steps.over_or o (option_map (outcome_by h) e) ≡ option_map (outcome_by h) (over_or o e)
or_is h None e = refl
or_is h (Some stop) e = refl

outcome_is : (p : List Info) (m : Machine) (s : def.MachineState) → StandsFor p m s → steps.outcome_of s ≡ option_map (outcome_by s.world.heap) (end_of m)
outcome_is p m s h =
    let w = h.world in
    let heap = s.world.heap in
    ap (λ o. steps.over_or o (steps.ended_with heap s.thrown s.frames s.world.script)) (over_is p m.world w.past s.world w.world)
    ∙ ap (λ x. steps.over_or m.world.over (steps.ended_with heap x s.frames s.world.script)) h.thrown
    ∙ ap (λ fs. steps.over_or m.world.over (steps.ended_with heap m.thrown fs s.world.script)) h.frames
    ∙ ap (λ cs. steps.over_or m.world.over (steps.ended_with heap m.thrown (frames_of p m.frames) cs)) (script_is p m.world w.past s.world w.world)
    ∙ ap (steps.over_or m.world.over) (ended_is p heap m.thrown m.frames.frame m.frames.callers m.world.script.rest)
    ∙ or_is heap m.world.over (ended_with m.thrown m.frames.frame m.world.script.rest)

pub tells_end : (p : List Info) (m : Machine) (e : Option StateEnd) → e ≡ end_of m → TellsEnd p m e
tells_end p m e is = λ s h. outcome_is p m s h ∙ ap (option_map (outcome_by s.world.heap)) (sym is)
