-- Worlds that are meant, and steps of which another one is left.
use Rattle.std.proofs.Common.{◌≡◌, ◌∙◌, sym, refl, ap, subst, ℕ, List, [], ◌∷◌, map, Option, None, Some, slice_get}
use Rattle.std.specs.Prelude.{IsSome, IfSome, IfNone}
use Rattle.program_rules.specs.Tests.{Call}
use Rattle.machine_rules.specs.State as def
use Rattle.machine_rules.specs.Effects.{Effect}
use Rattle.class_link.specs.Info.{Info}
use Rattle.class_table.specs.declared.scripted.Call as code
use Rattle.jvm_frames.specs.Frames.{NumberedFrame, NumberedFrames}
use Rattle.jvm_world.specs.declared.world.World.{World}
use Rattle.jvm_world.specs.View.{Means, call_of, world_of}
use Rattle.jvm_lines.specs.Below.{Turn}
use Rattle.jvm_lines.specs.Below.jvm_unwind_declared_turn_Turn_TheVariants as turn
use Rattle.jvm_lines.specs.Below.{frames_on, frames_of, ComesAt, TurnsTo}
use Rattle.jvm_lines.specs.Below.{TurnedTo}

-- ---- what a world means

pub script_is : (p : List Info) (w : World) (v : def.World) → Means p w v → v.script ≡ map call_of w.script.rest
unfolding world_of
script_is p w v m = ap (λ (x : def.World). x.script) m.world

pub instance_is : (p : List Info) (w : World) (v : def.World) → Means p w v → v.instance ≡ w.instance
unfolding world_of
instance_is p w v m = ap (λ (x : def.World). x.instance) m.world

-- The next call of a script.
pub record Next (cs : List Call) : Type 0 where
  pub call : Call
  pub rest : List Call
  pub is : cs ≡ call ∷ rest

next_in : (xs : List Call) (cs : List code.Call) → IsSome (slice_get cs 0) → xs ≡ map call_of cs → Next xs
next_in xs [] h e = absurd cc
next_in xs (c ∷ cs) h e = record { call = call_of c; rest = map call_of cs; is = e }

pub next_of : (p : List Info) (w : World) (v : def.World) → Means p w v → IsSome (slice_get w.script.rest 0) → Next v.script
next_of p w v m there = next_in v.script w.script.rest there (script_is p w v m)

pub no_frames : (p : List Info) (s : NumberedFrames) → s.frame ≡ None → frames_of p s ≡ []
no_frames p s none = ap (λ (o : Option NumberedFrame). frames_on p o s.callers) none

-- ---- steps

-- An effect is what a step comes to in a world that the code's world means.
pub record Leads (p : List Info) (u : World) (go : def.World → Effect) (d : Effect) : Type 0 where
  pub world : def.World
  pub means : Means p u world
  pub left : d ≡ go world

module _ (p : List Info) (d go : def.World → Effect) where
  pub after : (t : Turn) (new : NumberedFrames) (w mid u : World) → ((v : def.World) → Means p w v → Leads p mid go (d v)) → TurnedTo p go t new mid u → TurnedTo p d t new w u
  after turn.NoRow new w mid u leads h = λ v m.
      let l = leads v m in l.left ∙ h l.world l.means
  after turn.Goes new w mid u leads h = λ v m.
      let l = leads v m in
      let c = h l.world l.means in
      record { world = c.world; means = c.means; goes = l.left ∙ c.goes }
  after (turn.Throws x) new w mid u leads h = λ v m.
      let l = leads v m in
      let c = h l.world l.means in
      record { world = c.world; means = c.means; goes = l.left ∙ c.goes }

  pub along : (t : Turn) (new : NumberedFrames) (w u : World) → ((v : def.World) → Means p w v → d v ≡ go v) → TurnedTo p go t new w u → TurnedTo p d t new w u
  along t new w u same h =
      after t new w w u (λ v m. record { world = v; means = m; left = same v m }) h

pub turned : (p : List Info) (go : def.World → Effect) (x : Option ℕ) (t : Turn) (new : NumberedFrames) (w u : World) → IfSome x (λ y. t ≡ turn.Throws y) → IfNone x (t ≡ turn.Goes) → ComesAt p w u (frames_of p new) x go → TurnedTo p go t new w u
turned p go None t new w u some none h = subst (λ (k : Turn). TurnedTo p go k new w u) (sym none) h
turned p go (Some y) t new w u some none h = subst (λ (k : Turn). TurnedTo p go k new w u) (sym some) h

pub turns : (p : List Info) (go : def.World → Effect) (t : Turn) (old new : NumberedFrames) (w u : World) → TurnsTo p go t old new w u → TurnedTo p go t new w u
turns p go turn.NoRow old new w u h = h.0
turns p go turn.Goes old new w u h = h
turns p go (turn.Throws x) old new w u h = h
