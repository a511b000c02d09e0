-- Worlds in which classes were tested.
use Rattle.std.proofs.Common.{◌≡◌, ◌∙◌, sym, refl, ap, ℕ, Bool, true, false, List, [], map, Option, None}
use Rattle.std.specs.Prelude.{◌&&◌, is_some}
use Rattle.std.specs.Option.{option_map}
use Rattle.class_model.specs.declared.class.ClassId.{ClassId}
use Rattle.machine_rules.specs.State as def
use Rattle.machine_rules.specs.Calls.{is_awaited, is_test_call}
use Rattle.machine_rules.specs.Throwing.{Caught, catch_by, find_handler}
use Rattle.class_link.specs.Info.{Info}
use Rattle.class_table.specs.Seen.{Seen, IsConsultedOf}
use Rattle.class_table.specs.Table.{look}
use Rattle.jvm_world.specs.declared.world.World.{World}
use Rattle.jvm_world.specs.View.{Means, IsWorldOf, IsKept, world_of, call_of}
use Rattle.jvm_unwind.specs.declared.row.Catch.{Catch}
use Rattle.jvm_unwind.specs.declared.row.CatchRow.{CatchRow}
use Rattle.jvm_unwind.specs.Rows.{catch_name, catch_row_of}
use Rattle.jvm_unwind.specs.Searches as searches
use Rattle.jvm_unwind.specs.Searches.{having, AreAbove, Finds}
use Rattle.jvm_unwind.specs.declared.thrown.Thrown.{Thrown}
use Rattle.jvm_unwind.specs.Thrown.{names_of}
use Rattle.jvm_unwind.specs.Unwinding.{Searches, Tests}

-- The world with just this consulted.
abbrev pub with_seen : World → Seen → World
with_seen w seen = record w { consulted = seen }

means_tested : (p : List Info) (w : World) (seen : Seen) (v : def.World) → Means p w v → Means p (with_seen w seen) (having v seen)
unfolding world_of
means_tested p w seen v m = record {
  past = m.past;
  history = record {
    statics = m.history.statics;
    literals = m.history.literals;
    class_objects = m.history.class_objects;
    monitors = m.history.monitors;
  };
  world = ap (λ (x : def.World). having x seen) m.world;
}

same_world : (p : List Info) (w : World) (v : def.World) → Means p w v → v ≡ having v w.consulted
unfolding world_of
same_world p w v m = m.world ∙ sym (ap (λ (x : def.World). having x w.consulted) m.world)

pub kept_tested : (p : List Info) (w : World) (seen : Seen) → IsWorldOf p w → IsConsultedOf p seen → IsKept p w (with_seen w seen)
kept_tested p w seen h is = record {
  world = record {
    program = h.program;
    limit = h.limit;
    small = h.small;
    lengths = h.lengths;
    begun = h.begun;
    consulted = is;
    reached = h.reached;
    classes = h.classes;
  };
  limits = refl;
}

pub searched : (p : List Info) (t : Thrown) (r : Option ClassId) (rows : List CatchRow) (at : ℕ) (w : World) (seen : Seen) (to : Option ℕ) → AreAbove p r (names_of p t) → Finds p r rows at w.consulted to seen → Searches p t rows at w to (with_seen w seen)
searched p t r rows at w seen to above found v m = (
  means_tested p w seen v m,
  ap (find_handler (look p) (names_of p t) at (map (catch_row_of p) rows)) (same_world p w v m) ∙ found (names_of p t) above v,
)

-- Without rows nothing is found.
pub none_found : (p : List Info) (t : Thrown) (r : Option ClassId) (rows : List CatchRow) (at : ℕ) (w : World) (seen : Seen) (to : Option ℕ) → AreAbove p r (names_of p t) → Finds p r rows at w.consulted to seen → rows ≡ [] → to ≡ None
none_found p t r rows at w seen to above found e =
    let some : def.World = world_of p w (record { statics = []; literals = []; class_objects = []; monitors = [] }) in
    sym (ap (λ (c : Caught). c.target) (ap (λ rs. find_handler (look p) (names_of p t) at (map (catch_row_of p) rs) (having some w.consulted)) (sym e) ∙ found (names_of p t) above some))

pub caught : (p : List Info) (t : Thrown) (r : Option ClassId) (c : Catch) (w : World) (seen : Seen) (b : Bool) → AreAbove p r (names_of p t) → searches.Tests p r c w.consulted b seen → Tests p t c w b (with_seen w seen)
caught p t r c w seen b above tests v m = (
  means_tested p w seen v m,
  λ to rest. ap (λ (x : def.World). catch_by (look p) (names_of p t) (catch_name p c) to x rest) (same_world p w v m) ∙ tests (names_of p t) above v to rest,
)

-- ---- what is awaited

pub awaited_is : (p : List Info) (w : World) (v : def.World) → Means p w v → is_awaited v ≡ (is_test_call (option_map call_of w.script.running) && is_some w.expected)
unfolding world_of
awaited_is p w v m = ap (λ (x : def.World). is_awaited x) m.world

pub expected_is : (p : List Info) (w : World) (v : def.World) → Means p w v → v.expected ≡ w.expected
unfolding world_of
expected_is p w v m = ap (λ (x : def.World). x.expected) m.world

pub and_nothing : (b : Bool) → (b && false) ≡ false
and_nothing true = refl
and_nothing false = refl

pub none_expected : (p : List Info) (w : World) (v : def.World) → w.expected ≡ None → Means p w v → is_awaited v ≡ false
none_expected p w v none m =
    let b : Bool = is_test_call (option_map call_of w.script.running) in
    awaited_is p w v m ∙ ap (λ e. b && is_some e) none ∙ and_nothing b
