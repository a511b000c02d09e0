-- A class is made ready before its use.
use Rattle.std.proofs.Common.{◌≡◌, ◌∙◌, sym, ap, subst, ℕ, List, Option, None, Some, IfSome, IfNone}
use Rattle.class_model.specs.declared.class.ClassId.{ClassId}
use Rattle.program_rules.specs.declared.fault.Fault.TheVariants.{NoClassDefFoundError}
use Rattle.program_rules.specs.Programs.{family}
use Rattle.machine_rules.specs.declared.machine.Limits.{Limits}
use Rattle.machine_rules.specs.State as def
use Rattle.machine_rules.specs.Effects.{Effect, throws}
use Rattle.machine_rules.specs.Lookups.{consult}
use Rattle.machine_rules.specs.Initialisation as rules
use Rattle.class_link.specs.Info.{Info}
use Rattle.class_table.specs.Table.{look, name_at}
use Rattle.jvm_frames.specs.Frames.{NumberedFrames}
use Rattle.jvm_world.specs.declared.world.World.{World}
use Rattle.jvm_world.specs.View.{Means, Moves, Throws}
use Rattle.jvm_unwind.specs.declared.turn.Turn.{Turn}
use Rattle.jvm_unwind.specs.declared.turn.Turn.TheVariants as turn
use Rattle.jvm_unwind.specs.Turns.{frames_of, ComesAt, TurnsTo}
use Rattle.jvm_initialization.specs.declared.need.Need.TheVariants as need
use Rattle.jvm_initialization.specs.Begins.{begin_at, beginning}
use Rattle.jvm_initialization.specs.Needs.{need_at, TellsNeed, Use, using, LeavesUse}

turned : (p : List Info) (go : def.World → Effect) (x : Option ℕ) (t : Turn) (old new : NumberedFrames) (w u : World) → IfSome x (λ y. t ≡ turn.Throws y) → IfNone x (t ≡ turn.Goes) → ComesAt p w u (frames_of p new) x go → TurnsTo p go t old new w u
turned p go None t old new w u some none h = subst (λ (k : Turn). TurnsTo p go k old new w u) (sym none) h
turned p go (Some y) t old new w u some none h = subst (λ (k : Turn). TurnsTo p go k old new w u) (sym some) h

module _ (p : List Info) (q : Limits) (a : ℕ) (s : NumberedFrames) (go : Use) (w mid : World) (moves : Moves p w mid (consult (look p) (name_at p a))) where
  abbrev moved : def.World → def.World
  moved v = consult (look p) (name_at p a) v

  -- the use by what the class needs in the world that has moved
  use_by : (v : def.World) (n : rules.Need) → need_at p a (moved v) ≡ n → using p q a s go v ≡ rules.when_needed q (moved v) (frames_of p s) n (go (moved v) (family (look p) (name_at p a)))
  use_by v n e =
      ap (λ (k : rules.Need). rules.when_needed q (moved v) (frames_of p s) k (go (moved v) (family (look p) (name_at p a)))) e

  pub ready_left : TellsNeed p mid a need.Ready → (v : def.World) → Means p w v → LeavesUse p a mid go (using p q a s go v)
  ready_left tells v m = record {
    world = moved v;
    means = moves v m;
    left = use_by v rules.Ready (tells (moved v) (moves v m));
  }

  pub begins_turn : (b : ClassId) (x : Option ℕ) (t : Turn) (new : NumberedFrames) (u : World) → mid.limits ≡ q → TellsNeed p mid a (need.Begins b) → ComesAt p mid u (frames_of p new) x (beginning p mid.limits b.0 s) → IfSome x (λ y. t ≡ turn.Throws y) → IfNone x (t ≡ turn.Goes) → TurnsTo p (using p q a s go) t s new w u
  begins_turn b x t new u same tells comes some none =
      turned p (using p q a s go) x t s new w u some none (λ v m.
      let c = subst (λ (l : Limits). ComesAt p mid u (frames_of p new) x (beginning p l b.0 s)) same comes (moved v) (moves v m) in
      record {
        world = c.world;
        means = c.means;
        goes = use_by v (rules.Begins (begin_at p b.0)) (tells (moved v) (moves v m)) ∙ c.goes;
      })

  pub fails_turn : (x : Option ℕ) (t : Turn) (u : World) → mid.limits ≡ q → TellsNeed p mid a need.Failing → Throws p mid u NoClassDefFoundError x → IfSome x (λ y. t ≡ turn.Throws y) → IfNone x (t ≡ turn.Goes) → TurnsTo p (using p q a s go) t s s w u
  fails_turn x t u same tells thrown some none =
      turned p (using p q a s go) x t s s w u some none (λ v m.
      let c = thrown (moved v) (frames_of p s) (moves v m) in
      record {
        world = c.world;
        means = c.means;
        goes = use_by v rules.Failing (tells (moved v) (moves v m))
            ∙ ap (λ (l : Limits). throws l (moved v) (frames_of p s) NoClassDefFoundError) (sym same) ∙ c.goes;
      })
