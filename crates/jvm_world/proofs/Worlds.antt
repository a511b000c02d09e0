-- What operations make of a world, by the lists that the definitions keep.
use Rattle.std.proofs.Common.{◌≡◌, ◌∙◌, sym, ap, refl, subst, arith, ℕ, zero, suc, ◌<◌, ◌+◌, Bool, true, false, nat_eq, List, [], ◌∷◌, map, length, Option, None, Some, slice_get, get_or}
use Rattle.std.specs.Prelude.{◌&&◌, ◌-◌, if◌then◌else◌, unwrap_or, IfSome}
use Rattle.program_rules.specs.declared.value.Value.{Value}
use Rattle.program_rules.specs.declared.fault.Fault.{Fault}
use Rattle.program_rules.specs.declared.fault.Fault.TheVariants as fault
use Rattle.program_rules.specs.Faults.{fault_name}
use Rattle.program_rules.specs.Kinds.{Kind}
use Rattle.program_rules.specs.Kinds as kinds
use Rattle.program_rules.specs.Names.{Name, same, class_name}
use Rattle.program_rules.specs.Objects as objects
use Rattle.machine_rules.specs.State as def
use Rattle.machine_rules.specs.Effects.{allocate, unless_full, throws_from, fault_object}
use Rattle.machine_rules.specs.Fields.{static_value}
use Rattle.machine_rules.specs.NewObjects.{made_for, literal, literal_or, with_literal, text_object, object_of_class, class_or, with_class_object, class_object}
use Rattle.machine_rules.specs.TypeRows.{monitor_count, opens}
use Rattle.class_model.specs.declared.kind.Kind as plain
use Rattle.class_model.specs.declared.kind.Kind.TheVariants as plain_kind
use Rattle.jvm_values.specs.Words as words
use Rattle.class_link.specs.Info.{Info}
use Rattle.class_link.specs.Symbols.{kind_of}
use Rattle.class_table.specs.Table.{IsProgram, name_at}
use Rattle.std.specs.BTreeMap.{get}
use Rattle.std.specs.Cmp.Lexicographic.{slice_cmp}
use Rattle.std.specs.Ordering.{nat_cmp}
use Rattle.jvm_world.specs.declared.made.Made.{Made}
use Rattle.jvm_world.specs.declared.world.World.{World}
use Rattle.jvm_world.specs.Holding.{held, value_or, opened}
use Rattle.jvm_world.specs.Classes.{AreMachineClasses, fault_id, machine_names}
use Rattle.jvm_world.specs.View.{AreStatics, AreMonitors, Allocates, Throws, Exits, world_of}
use Rattle.jvm_world.proofs.Named.{same_named}

-- ---- statics

pick :
    (b : Bool) (value : Value) (k : Kind) (o : Option Value) (x : Value) → x ≡ value_or k o →
    (if b then value else x) ≡ value_or k (if b then Some value else o)
pick true value k o x e = refl
pick false value k o x e = e

pub statics_set :
    (p : List Info) (rows left : List (List (Option Value))) (class place : ℕ) (value : Value)
    (ss : List def.Static) → IsProgram p → class < length p →
    ((c l : ℕ) → held c l left
    ≡ (if nat_eq class c && nat_eq place l then Some value else held c l rows)) →
    AreStatics p rows ss →
    AreStatics p left (record { class = name_at p class; place = place; value = value } ∷ ss)
statics_set p rows left class place value ss d lt set are = λ c l k gt.
    rw (same_named p class c d lt gt)
    (pick (nat_eq class c && nat_eq place l) value k (held c l rows)
    (static_value (name_at p c) l k ss) (are c l k gt)
    ∙ ap (value_or k) (sym (set c l)))

-- ---- monitors

pub monitors_set :
    (x n m : ℕ) (counts left : List ℕ) (ms : List (ℕ × ℕ)) → n ≡ m →
    ((y : ℕ) → opened y left ≡ (if nat_eq x y then m else opened y counts)) →
    AreMonitors counts ms → AreMonitors left ((x, n) ∷ ms)
monitors_set x n m counts left ms e set are = λ y.
    ap (λ k. if nat_eq x y then k else monitor_count y ms) e
    ∙ ap (λ k. if nat_eq x y then m else k) (are y) ∙ sym (set y)

-- ---- classes of the machine

named_at :
    (p : List Info) (ids : List ℕ) (k : ℕ) (n : Name) →
    slice_get (map (name_at p) ids) k ≡ Some n → name_at p (get_or ids k 0) ≡ n
named_at p [] zero n e = absurd (subst (λ o. IfSome o (λ m. ⊥)) e tt)
named_at p [] (suc k) n e = absurd (subst (λ o. IfSome o (λ m. ⊥)) e tt)
named_at p (x ∷ xs) zero n e = ap (λ o. unwrap_or o n) e
named_at p (x ∷ xs) (suc k) n e = named_at p xs k n e

at_place :
    (p : List Info) (ids : List ℕ) (k : ℕ) (n : Name) → AreMachineClasses p ids →
    slice_get machine_names k ≡ Some n → name_at p (get_or ids k 0) ≡ n
at_place p ids k n h e = named_at p ids k n (ap (λ ns. slice_get ns k) h ∙ e)

pub class_named :
    (p : List Info) (ids : List ℕ) → AreMachineClasses p ids →
    name_at p (get_or ids 22 0) ≡ class_name
class_named p ids h = at_place p ids 22 class_name h refl

pub fault_named :
    (p : List Info) (ids : List ℕ) (f : Fault) → AreMachineClasses p ids →
    name_at p (fault_id f ids) ≡ fault_name f
fault_named p ids fault.StackOverflowError h = at_place p ids 0 _ h refl
fault_named p ids fault.AssertionError h = at_place p ids 1 _ h refl
fault_named p ids fault.NullPointerException h = at_place p ids 2 _ h refl
fault_named p ids fault.NoClassDefFoundError h = at_place p ids 3 _ h refl
fault_named p ids fault.NoSuchFieldError h = at_place p ids 4 _ h refl
fault_named p ids fault.NoSuchMethodError h = at_place p ids 5 _ h refl
fault_named p ids fault.IncompatibleClassChangeError h = at_place p ids 6 _ h refl
fault_named p ids fault.AbstractMethodError h = at_place p ids 7 _ h refl
fault_named p ids fault.InstantiationError h = at_place p ids 8 _ h refl
fault_named p ids fault.ExceptionInInitializerError h = at_place p ids 9 _ h refl
fault_named p ids fault.ArithmeticException h = at_place p ids 10 _ h refl
fault_named p ids fault.ArrayIndexOutOfBoundsException h = at_place p ids 11 _ h refl
fault_named p ids fault.NegativeArraySizeException h = at_place p ids 12 _ h refl
fault_named p ids fault.ArrayStoreException h = at_place p ids 13 _ h refl
fault_named p ids fault.ClassCastException h = at_place p ids 14 _ h refl
fault_named p ids fault.IllegalMonitorStateException h = at_place p ids 15 _ h refl
fault_named p ids fault.IndexOutOfBoundsException h = at_place p ids 16 _ h refl
fault_named p ids fault.StringIndexOutOfBoundsException h = at_place p ids 17 _ h refl
fault_named p ids fault.IllegalArgumentException h = at_place p ids 18 _ h refl
fault_named p ids fault.NumberFormatException h = at_place p ids 19 _ h refl
fault_named p ids fault.UnsupportedOperationException h = at_place p ids 20 _ h refl
fault_named p ids fault.NoSuchElementException h = at_place p ids 21 _ h refl

-- ---- new objects

pub default_same : (k : plain.Kind) → words.default_of k ≡ kinds.default_of (kind_of k)
default_same plain_kind.Boolean = refl
default_same plain_kind.Byte = refl
default_same plain_kind.Char = refl
default_same plain_kind.Short = refl
default_same plain_kind.Int = refl
default_same plain_kind.Long = refl
default_same (plain_kind.Ref n) = refl

pub thrown_comes :
    (p : List Info) (old new : World) (f : Fault) (o : objects.Object) (x : Option ℕ) →
    o ≡ fault_object f → Allocates p old new (λ v. allocate old.limits v o 3) x →
    Throws p old new f x
thrown_comes p old new f o (Some x) e a = λ v fs m.
    let g = a v m in
    record {
      world = g.world;
      means = g.means;
      goes = ap (λ b. unless_full v fs b (λ c. throws_from fs c.0 c.1))
          (ap (λ u. allocate old.limits v u 3) (sym e) ∙ g.given);
    }
thrown_comes p old new f o None e a = λ v fs m.
    let g = a v m in
    record {
      world = _;
      means = g.means;
      goes = ap (λ b. unless_full v fs b (λ c. throws_from fs c.0 c.1))
          (ap (λ u. allocate old.limits v u 3) (sym e) ∙ g.full);
    }

pub literal_made :
    (p : List Info) (old mid : World) (made : Made) (t : Name) (x : ℕ) →
    get (slice_cmp nat_cmp) old.literals.objects t ≡ None →
    Allocates p old mid (λ v. allocate old.limits v (text_object t) (2 + length t)) (Some x) →
    ((n : Name) → get (slice_cmp nat_cmp) made.objects n
    ≡ (if same t n then Some x else get (slice_cmp nat_cmp) mid.literals.objects n)) →
    Allocates p old (record mid { literals = made }) (λ v. literal old.limits v t) (Some x)
unfolding world_of
literal_made p old mid made t x none a set = λ v m.
    let g = a v m in
    let h = g.means.past in
    let first : made_for t v.literals ≡ None =
    ap (λ (u : def.World). made_for t u.literals) m.world ∙ sym (m.history.literals t) ∙ none in
    record {
      world = record g.world { literals = (t, x) ∷ g.world.literals };
      means = record {
        past = record h { literals = (t, x) ∷ h.literals };
        history = record {
          statics = g.means.history.statics;
          literals = λ n. set n
              ∙ ap (λ (o : Option ℕ). if same t n then Some x else o) (g.means.history.literals n);
          class_objects = g.means.history.class_objects;
          monitors = g.means.history.monitors;
        };
        world = ap (λ (u : def.World). record u { literals = (t, x) ∷ u.literals }) g.means.world;
      };
      given = ap (literal_or old.limits v t) first ∙ ap (with_literal t) g.given;
    }

pub class_made :
    (p : List Info) (old mid : World) (made : Made) (t : Name) (o : objects.Object) (x : ℕ) →
    get (slice_cmp nat_cmp) old.class_objects.objects t ≡ None → o ≡ class_object t →
    Allocates p old mid (λ v. allocate old.limits v o 3) (Some x) →
    ((n : Name) → get (slice_cmp nat_cmp) made.objects n
    ≡ (if same t n then Some x
    else get (slice_cmp nat_cmp) mid.class_objects.objects n)) →
    Allocates p old (record mid { class_objects = made }) (λ v. object_of_class old.limits v t) (Some x)
unfolding world_of
class_made p old mid made t o x none e a set = λ v m.
    let g = a v m in
    let h = g.means.past in
    let first : made_for t v.class_objects ≡ None =
    ap (λ (u : def.World). made_for t u.class_objects) m.world
    ∙ sym (m.history.class_objects t) ∙ none in
    record {
      world = record g.world { class_objects = (t, x) ∷ g.world.class_objects };
      means = record {
        past = record h { class_objects = (t, x) ∷ h.class_objects };
        history = record {
          statics = g.means.history.statics;
          literals = g.means.history.literals;
          class_objects = λ n. set n
              ∙ ap (λ (o : Option ℕ). if same t n then Some x else o)
              (g.means.history.class_objects n);
          monitors = g.means.history.monitors;
        };
        world = ap (λ (u : def.World). record u { class_objects = (t, x) ∷ u.class_objects })
            g.means.world;
      };
      given = ap (class_or old.limits v t) first
          ∙ ap (with_class_object t) (ap (λ u. allocate old.limits v u 3) (sym e) ∙ g.given);
    }

pub exits_by :
    (p : List Info) (old : World) (counts : List ℕ) (x : ℕ) (b : Bool) →
    (b ≡ true → (y : ℕ) → opened y counts
    ≡ (if nat_eq x y then opened x old.monitors - 1 else opened y old.monitors)) →
    (b ≡ true → 0 < opened x old.monitors) → (b ≡ false → opened x old.monitors ≡ 0) →
    (b ≡ false → counts ≡ old.monitors) →
    Exits p x old (record old { monitors = counts }) b
unfolding world_of
exits_by p old counts x true closed there none kept = λ v m.
    let left = opened x old.monitors - 1 in
    let some : 0 < opened x old.monitors = there refl in
    let more : opened x old.monitors ≡ suc (opened x old.monitors - 1) = omega arith in
    record {
      left = left;
      count = ap (λ (u : def.World). monitor_count x u.monitors) m.world ∙ m.history.monitors x ∙ more;
      means = record {
        past = record m.past { monitors = (x, left) ∷ m.past.monitors };
        history = record {
          statics = m.history.statics;
          literals = m.history.literals;
          class_objects = m.history.class_objects;
          monitors = monitors_set x left left old.monitors counts m.past.monitors refl (closed refl)
              m.history.monitors;
        };
        world = ap (opens x left) m.world;
      };
    }
exits_by p old counts x false closed there none kept = λ v m.
    record {
      count = ap (λ (u : def.World). monitor_count x u.monitors) m.world ∙ m.history.monitors x ∙ none refl;
      means = record {
        past = m.past;
        history = record {
          statics = m.history.statics;
          literals = m.history.literals;
          class_objects = m.history.class_objects;
          monitors = λ y. m.history.monitors y ∙ ap (opened y) (sym (kept refl));
        };
        world = m.world;
      };
    }
