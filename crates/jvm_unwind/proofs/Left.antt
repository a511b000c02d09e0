-- An object leaves a frame.
use Rattle.std.proofs.Common.{◌≡◌, ◌∙◌, sym, refl, ap, ℕ, Bool, true, false, List, [], Option, Some, None, IsSomeAnd}
use Rattle.std.specs.Prelude.{if◌then◌else◌, codes}
use Rattle.program_rules.specs.Names.{Name, is_listed, class_behind}
use Rattle.program_rules.specs.Outlines.{outline_of}
use Rattle.program_rules.specs.Programs.{family}
use Rattle.program_rules.specs.declared.fault.Fault.TheVariants.{ExceptionInInitializerError}
use Rattle.machine_rules.specs.declared.machine.InitState.TheVariants.{Failed}
use Rattle.machine_rules.specs.declared.machine.Limits.{Limits}
use Rattle.machine_rules.specs.State as def
use Rattle.machine_rules.specs.Effects.{Effect, goes_with, throws, throws_from}
use Rattle.machine_rules.specs.Lookups.{consult}
use Rattle.machine_rules.specs.Initialisation.{marks}
use Rattle.machine_rules.specs.Calls.{is_awaited}
use Rattle.machine_rules.specs.Throwing.{Caught, catch_by, chooses, matches, expects}
use Rattle.class_link.specs.Info.{Info}
use Rattle.class_table.specs.Table.{look, name_at}
use Rattle.jvm_world.specs.declared.world.World.{World}
use Rattle.jvm_world.specs.View.{Moves, Throws}
use Rattle.jvm_unwind.specs.declared.row.Catch.{Catch}
use Rattle.jvm_unwind.specs.Rows.{catch_name}
use Rattle.jvm_unwind.specs.declared.thrown.Thrown.{Thrown}
use Rattle.jvm_unwind.specs.Thrown.{names_of}
use Rattle.jvm_unwind.specs.Turns.{ComesAt}
use Rattle.jvm_unwind.specs.Unwinding.{Leaves, Tests, IsAwaited, failing, leaving, tested}

pub with_some : {A : Type 0} (o : Option A) (P : A → Type 0) → IsSomeAnd o P → (x : A) × (o ≡ Some x) × P x
with_some None P h = absurd h
with_some (Some x) P h = (x, refl, h)

-- ---- the initializer of a class

abbrev error_name : Name
error_name = codes "java/lang/Error"

abbrev breaks_by : Limits → def.World → List def.Frame → ℕ → Bool → Effect
breaks_by q v fs x b = if b then throws_from fs v x else throws q v fs ExceptionInInitializerError

module _ (p : List Info) (w u : World) (q : Limits) (class x : ℕ) (t : Thrown) (moves : Moves p w u (marks (name_at p class) Failed)) where
  pub kept_error : true ≡ is_listed error_name (names_of p t) → Leaves p w u (Some x) (failing p q class x t)
  kept_error is v fs m = record {
    world = marks (name_at p class) Failed v;
    means = moves v m;
    goes = ap (breaks_by q (marks (name_at p class) Failed v) fs x) (sym is);
  }

  pub replaced : (y : Option ℕ) (z : World) → false ≡ is_listed error_name (names_of p t) → u.limits ≡ q → Throws p u z ExceptionInInitializerError y → Leaves p w z y (failing p q class x t)
  replaced y z is same h v fs m =
      let after = marks (name_at p class) Failed v in
      let c = h after fs (moves v m) in
      record {
        world = c.world;
        means = c.means;
        goes = ap (breaks_by q after fs x) (sym is) ∙ ap (λ l. throws l after fs ExceptionInInitializerError) (sym same) ∙ c.goes;
      }

-- ---- the last frame of a call of the script

abbrev finished : def.World → def.World
finished v = record v { running = None }

abbrev ends_by : ℕ → Bool → def.World → Effect
ends_by x b v = if b then goes_with (finished v) [] else throws_from [] v x

abbrev nowhere : def.World → Caught
nowhere v = record { world = v; target = None }

abbrev read_by : ℕ → def.World → Option ℕ → Effect
read_by x v None = throws_from [] v x
read_by x v (Some to) = goes_with (finished v) []

abbrev read : ℕ → Caught → Effect
read x c = read_by x c.world c.target

reads : (b : Bool) (x : ℕ) (v : def.World) → read x (chooses b v 0 nowhere) ≡ ends_by x b v
reads true x v = refl
reads false x v = refl

expects_is : (p : List Info) (x : ℕ) (ns : List Name) (n : Name) (v : def.World) → expects (look p) v x ns (Some n) ≡ read x (catch_by (look p) ns (Some n) 0 v nowhere)
unfolding family
expects_is p x ns n v = sym (reads (matches ns n (outline_of (look p (class_behind n)))) x (consult (look p) (class_behind n) v))

abbrev leaves_by : List Info → ℕ → Thrown → def.World → Bool → Effect
leaves_by p x t v b = if b then expects (look p) v x (names_of p t) v.expected else throws_from [] v x

expected_by : (p : List Info) (x : ℕ) (t : Thrown) (c : Catch) (b : Bool) (v z : def.World) → is_awaited v ≡ true → IsSomeAnd v.expected (λ n. catch_name p c ≡ Some n) → ((to : ℕ) (rest : def.World → Caught) → catch_by (look p) (names_of p t) (catch_name p c) to v rest ≡ chooses b z to rest) → leaving p x t v ≡ ends_by x b z
expected_by p x t c b v z awaited there tests =
    let ns = names_of p t in
    let o = with_some v.expected (λ n. catch_name p c ≡ Some n) there in
    ap (leaves_by p x t v) awaited
    ∙ ap (expects (look p) v x ns) o.1
    ∙ expects_is p x ns o.0 v
    ∙ ap (λ k. read x (catch_by (look p) ns k 0 v nowhere)) (sym o.2)
    ∙ ap (read x) (tests 0 nowhere)
    ∙ reads b x z

pub not_awaited : (p : List Info) (w : World) (x : ℕ) (t : Thrown) → IsAwaited p w None → ComesAt p w w [] (Some x) (leaving p x t)
not_awaited p w x t h v m = record {
  world = v;
  means = m;
  goes = ap (leaves_by p x t v) (h v m);
}

module _ (p : List Info) (w u : World) (x : ℕ) (t : Thrown) (c : Catch) (h : IsAwaited p w (Some c)) where
  pub other_leaves : Tests p t c w false u → ComesAt p w u [] (Some x) (leaving p x t)
  other_leaves tests v m = record {
    world = tested u v;
    means = (tests v m).0;
    goes = expected_by p x t c false v (tested u v) (h.1 v m).0 (h.1 v m).1 (tests v m).1;
  }

  pub expected_leaves : (z : World) → Tests p t c w true u → Moves p u z finished → ComesAt p w z [] None (leaving p x t)
  expected_leaves z tests moves v m = record {
    world = finished (tested u v);
    means = moves (tested u v) (tests v m).0;
    goes = expected_by p x t c true v (tested u v) (h.1 v m).0 (h.1 v m).1 (tests v m).1;
  }
