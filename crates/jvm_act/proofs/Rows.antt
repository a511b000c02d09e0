-- The rows of instructions, by what these mean.
use Rattle.std.proofs.Common.{◌≡◌, ◌∙◌, sym, refl, ap, subst, ℕ, ℤ, Bool, List, Option, None, Some, Ok, Err}
use Rattle.std.specs.Prelude.{slice_get}
use Rattle.program_rules.specs.declared.fault.Fault.{Fault}
use Rattle.program_rules.specs.declared.operation.Element.{Element}
use Rattle.program_rules.specs.Instructions as def
use Rattle.program_rules.specs.Kinds.{Kind}
use Rattle.program_rules.specs.Names.{Name, class_behind}
use Rattle.program_rules.specs.Programs.{Family}
use Rattle.machine_rules.specs.Effects.{NoRow}
use Rattle.machine_rules.specs.Lookups.{consult}
use Rattle.machine_rules.specs.Steps.{act}
use Rattle.class_model.specs.declared.class.ClassId.{ClassId}
use Rattle.class_link.specs.declared.linked.Entry.TheVariants as entry
use Rattle.class_link.specs.declared.linked.Switch.{Switch}
use Rattle.class_link.specs.Info.{Info}
use Rattle.class_link.specs.Opcodes.{on_text, on_class, array_of}
use Rattle.class_link.specs.View.{entry_symbol, table_of, lookup_of}
use Rattle.class_table.specs.Table.{look, entries_at}
use Rattle.jvm_state.specs.declared.op.Op.{Op}
use Rattle.jvm_state.specs.Ops.{instruction_of}
use Rattle.jvm_code.specs.Decoded.{named_by}
use Rattle.jvm_frames.specs.Frames.{NumberedFrame, NumberedFrames}
use Rattle.jvm_world.specs.declared.world.World.{World}
use Rattle.jvm_world.specs.View.{Moves}
use Rattle.jvm_rows.specs.declared.effect.Effect.{Effect}
use Rattle.jvm_rows.specs.declared.effect.Effect.TheVariants as effect
use Rattle.jvm_rows.specs.Effects.{ComesTo, RowOf, Runs}
use Rattle.jvm_rows.specs.Rows.{taking_element, entering, exiting, throwing_object, throwing}
use Rattle.jvm_rows.specs.Storing.{storing_element}
use Rattle.jvm_rows.proofs.Ends.{each}
use Rattle.jvm_rows.specs.Plain.{means_row, RunsAs, RunsOp}
use Rattle.jvm_rows.specs.Making.{length_row, primitive_array_row, text_row}
use Rattle.jvm_array_rows.specs.Rows.{arrays_row}
use Rattle.jvm_link.specs.Named.{ResolvesClass}
use Rattle.jvm_link.specs.References.{IsEntry}
use Rattle.jvm_members.specs.ClassRows.{array_whole, class_whole, cast_whole, test_whole}
use Rattle.jvm_members.specs.Whole.{RunsWhole}
use Rattle.jvm_members.proofs.Resolved.{found_class, lost_class}
use Rattle.jvm_members.proofs.Wholes.{whole}
use Rattle.jvm_act.specs.declared.groups.ClassUse.{ClassUse}
use Rattle.jvm_act.specs.declared.groups.ClassUse.TheVariants as using
use Rattle.jvm_act.specs.declared.groups.ClassOp.TheVariants as class_op
use Rattle.jvm_act.specs.Groups.{Names, MeansIn, class_in, use_of}
use Rattle.jvm_act.specs.Acts.{NamesNoText, NamesNoClass, RunsWholeAs, symbol_at, use_named, arrays_whole}

-- ---- no row

unlinked_row : (p : List Info) (old : NumberedFrames) (w : World) → RunsAs p def.Unlinked effect.NoRow old old w w
unfolding act
unlinked_row p old w = λ kind starts.
    each old.frame (λ f. ComesTo p (means_row p kind starts def.Unlinked w.limits f.room) effect.NoRow f old old w w)
    (λ f. (λ class v fs m. refl, refl, refl))

pub unlinked : (p : List Info) (i : def.Instruction) (old : NumberedFrames) (w : World) → i ≡ def.Unlinked → RunsAs p i effect.NoRow old old w w
unlinked p i old w e = subst (λ k. RunsAs p k effect.NoRow old old w w) (sym e) (unlinked_row p old w)

pub no_table : (p : List Info) (ss : List Switch) (k : ℕ) (o : Option Switch) (old : NumberedFrames) (w : World) → o ≡ slice_get ss k → table_of o ≡ def.Unlinked → RunsAs p (table_of (slice_get ss k)) effect.NoRow old old w w
no_table p ss k o old w is none = unlinked p (table_of (slice_get ss k)) old w (ap table_of (sym is) ∙ none)

pub no_keys : (p : List Info) (ss : List Switch) (k : ℕ) (o : Option Switch) (old : NumberedFrames) (w : World) → o ≡ slice_get ss k → lookup_of o ≡ def.Unlinked → RunsAs p (lookup_of (slice_get ss k)) effect.NoRow old old w w
no_keys p ss k o old w is none = unlinked p (lookup_of (slice_get ss k)) old w (ap lookup_of (sym is) ∙ none)

pub as_whole : (p : List Info) (i : def.Instruction) (e : Effect) (old new : NumberedFrames) (w u : World) → RunsAs p i e old new w u → RunsWholeAs p i e old new w u
as_whole p i e old new w u h = λ kind starts. whole p (means_row p kind starts i) e old new w u (h kind starts)

-- ---- elements and objects

pub loads : (p : List Info) (el : Element) (e : Effect) (old new : NumberedFrames) (w u : World) → Runs p (taking_element el) e old new w u → RunsAs p (def.ArrayLoad el) e old new w u
unfolding act
loads p el e old new w u h = λ kind starts. h

pub stores : (p : List Info) (el : Element) (e : Effect) (old new : NumberedFrames) (w u : World) → Runs p (storing_element (look p) el) e old new w u → RunsAs p (def.ArrayStore el) e old new w u
unfolding act
stores p el e old new w u h = λ kind starts. h

pub measures : (p : List Info) (e : Effect) (old new : NumberedFrames) (w u : World) → Runs p length_row e old new w u → RunsAs p def.ArrayLength e old new w u
unfolding act
measures p e old new w u h = λ kind starts. h

pub throws : (p : List Info) (e : Effect) (old new : NumberedFrames) (w u : World) → Runs p throwing_object e old new w u → RunsAs p def.Throw e old new w u
unfolding act
throws p e old new w u h = λ kind starts. h

pub enters : (p : List Info) (e : Effect) (old new : NumberedFrames) (w u : World) → Runs p entering e old new w u → RunsAs p def.MonitorEnter e old new w u
unfolding act
enters p e old new w u h = λ kind starts. h

pub exits : (p : List Info) (e : Effect) (old new : NumberedFrames) (w u : World) → Runs p exiting e old new w u → RunsAs p def.MonitorExit e old new w u
unfolding act
exits p e old new w u h = λ kind starts. h

-- ---- texts, and elements of a kind by its number

text_row_as : (p : List Info) (t : Name) (e : Effect) (old new : NumberedFrames) (w u : World) → Runs p (text_row t) e old new w u → RunsAs p (def.TextConstant t) e old new w u
unfolding act
text_row_as p t e old new w u h = λ kind starts. h

pub loads_text : (p : List Info) (class index : ℕ) (t : Name) (e : Effect) (old new : NumberedFrames) (w u : World) → IsEntry p class index (entry.Text t) → Runs p (text_row t) e old new w u → RunsWholeAs p (on_text def.TextConstant (symbol_at p class index)) e old new w u
loads_text p class index t e old new w u is h =
    subst (λ i. RunsWholeAs p i e old new w u) (sym (ap (λ o. on_text def.TextConstant (entry_symbol o)) is))
    (as_whole p (def.TextConstant t) e old new w u (text_row_as p t e old new w u h))

pub no_text : (p : List Info) (class index : ℕ) (old : NumberedFrames) (w : World) → NamesNoText p class index → RunsWholeAs p (on_text def.TextConstant (symbol_at p class index)) effect.NoRow old old w w
no_text p class index old w none =
    let i = on_text def.TextConstant (symbol_at p class index) in
    as_whole p i effect.NoRow old old w w (unlinked p i old w (none def.TextConstant))

primitive_row_as : (p : List Info) (k : Kind) (e : Effect) (old new : NumberedFrames) (w u : World) → Runs p (primitive_array_row k) e old new w u → RunsAs p (def.NewArray k) e old new w u
unfolding act
primitive_row_as p k e old new w u h = λ kind starts. h

pub makes_primitives : (p : List Info) (n : ℕ) (k : Kind) (e : Effect) (old new : NumberedFrames) (w u : World) → array_of n ≡ def.NewArray k → Runs p (primitive_array_row k) e old new w u → RunsAs p (array_of n) e old new w u
makes_primitives p n k e old new w u is h =
    subst (λ i. RunsAs p i e old new w u) (sym is) (primitive_row_as p k e old new w u h)

-- ---- classes that are named

pub uses_load : (p : List Info) (n : Name) (e : Effect) (old new : NumberedFrames) (w u : World) → RunsWhole p (class_whole p n) e old new w u → RunsWholeAs p (use_named using.Load n) e old new w u
unfolding act
uses_load p n e old new w u h = λ kind starts. h

pub uses_array : (p : List Info) (n : Name) (e : Effect) (old new : NumberedFrames) (w u : World) → RunsWhole p (array_whole p n) e old new w u → RunsWholeAs p (use_named using.MakeArray n) e old new w u
unfolding act
uses_array p n e old new w u h = λ kind starts. h

pub uses_arrays : (p : List Info) (n : Name) (count : ℕ) (e : Effect) (old new : NumberedFrames) (w u : World) → RunsWhole p (arrays_whole p n count) e old new w u → RunsWholeAs p (def.NewMultiArray n count) e old new w u
unfolding act
uses_arrays p n count e old new w u h = λ kind starts. h

pub uses_cast : (p : List Info) (n : Name) (e : Effect) (old new : NumberedFrames) (w u : World) → RunsWhole p (cast_whole p n) e old new w u → RunsWholeAs p (use_named using.Cast n) e old new w u
unfolding act
uses_cast p n e old new w u h = λ kind starts. h

pub uses_test : (p : List Info) (n : Name) (e : Effect) (old new : NumberedFrames) (w u : World) → RunsWhole p (test_whole p n) e old new w u → RunsWholeAs p (use_named using.Test n) e old new w u
unfolding act
uses_test p n e old new w u h = λ kind starts. h

pub uses_class : (p : List Info) (class index : ℕ) (how : ClassUse) (n : Name) (e : Effect) (old new : NumberedFrames) (w u : World) → IsEntry p class index (entry.Class n) → RunsWholeAs p (use_named how n) e old new w u → RunsWholeAs p (on_class (use_named how) (symbol_at p class index)) e old new w u
uses_class p class index how n e old new w u is h =
    subst (λ i. RunsWholeAs p i e old new w u) (sym (ap (λ o. on_class (use_named how) (entry_symbol o)) is)) h

pub no_class : (p : List Info) (class index : ℕ) (how : ClassUse) (old : NumberedFrames) (w : World) → NamesNoClass p class index → RunsWholeAs p (on_class (use_named how) (symbol_at p class index)) effect.NoRow old old w w
no_class p class index how old w none =
    let i = on_class (use_named how) (symbol_at p class index) in
    as_whole p i effect.NoRow old old w w (unlinked p i old w (none (use_named how)))

-- ---- multianewarray

abbrev making : Name → ℕ → Family → RowOf
making n count c = arrays_row n count

pub arrays_made : (p : List Info) (n : Name) (count : ℕ) (id : ClassId) (e : Effect) (old new : NumberedFrames) (w m u : World) → ResolvesClass p n (Ok id) → Moves p w m (consult (look p) (class_behind n)) → m.limits ≡ w.limits → Runs p (arrays_row n count) e old new m u → RunsWhole p (arrays_whole p n count) e old new w u
arrays_made p n count id e old new w m u is moves limits h = found_class p n id (making n count) e old new w m u is moves limits h

pub arrays_lost : (p : List Info) (n : Name) (count : ℕ) (fault : Fault) (e : Effect) (old new : NumberedFrames) (w m u : World) → ResolvesClass p n (Err fault) → Moves p w m (consult (look p) (class_behind n)) → m.limits ≡ w.limits → Runs p (throwing fault) e old new m u → RunsWhole p (arrays_whole p n count) e old new w u
arrays_lost p n count fault e old new w m u is moves limits h = lost_class p n fault (making n count) e old new w m u is moves limits h

-- ---- by what the number of an instruction names

abbrev names : List Info → ℕ → List Switch → Names
names p class ss = named_by (entries_at p class) ss

pub texts : (p : List Info) (class index : ℕ) (ss : List Switch) (e : Effect) (old new : NumberedFrames) (w u : World) → RunsWholeAs p (on_text def.TextConstant (symbol_at p class index)) e old new w u → RunsWholeAs p (class_in (names p class ss) (class_op.Text index)) e old new w u
texts p class index ss e old new w u h = h

pub primitives : (p : List Info) (class n : ℕ) (ss : List Switch) (e : Effect) (old new : NumberedFrames) (w u : World) → RunsAs p (array_of n) e old new w u → RunsWholeAs p (class_in (names p class ss) (class_op.Primitives n)) e old new w u
primitives p class n ss e old new w u h = as_whole p (array_of n) e old new w u h

uses_are : (p : List Info) (class index : ℕ) (ss : List Switch) (how : ClassUse) → on_class (use_named how) (symbol_at p class index) ≡ class_in (names p class ss) (class_op.Use how index)
uses_are p class index ss using.Load = refl
uses_are p class index ss using.MakeArray = refl
uses_are p class index ss (using.MakeArrays k) = refl
uses_are p class index ss using.Cast = refl
uses_are p class index ss using.Test = refl

pub classes : (p : List Info) (class index : ℕ) (ss : List Switch) (how : ClassUse) (e : Effect) (old new : NumberedFrames) (w u : World) → RunsWholeAs p (on_class (use_named how) (symbol_at p class index)) e old new w u → RunsWholeAs p (class_in (names p class ss) (class_op.Use how index)) e old new w u
classes p class index ss how e old new w u h = subst (λ i. RunsWholeAs p i e old new w u) (uses_are p class index ss how) h

-- ---- of an instruction in eight bytes

pub alone : (p : List Info) (longs : List ℤ) (named : Names) (op : Op) (e : Effect) (old new : NumberedFrames) (w u : World) → RunsOp p longs op e old new w u → RunsWholeAs p (instruction_of longs named op) e old new w u
alone p longs named op e old new w u h = as_whole p (instruction_of longs named op) e old new w u (h named)

pub means_whole : (p : List Info) (longs : List ℤ) (named : Names) (op : Op) (means : Names → def.Instruction) (e : Effect) (old new : NumberedFrames) (w u : World) → MeansIn op means → RunsWholeAs p (means named) e old new w u → RunsWholeAs p (instruction_of longs named op) e old new w u
means_whole p longs named op means e old new w u is h = subst (λ i. RunsWholeAs p i e old new w u) (sym (is longs named)) h

pub means_runs : (p : List Info) (longs : List ℤ) (named : Names) (op : Op) (means : Names → def.Instruction) (e : Effect) (old new : NumberedFrames) (w u : World) → MeansIn op means → RunsAs p (means named) e old new w u → RunsWholeAs p (instruction_of longs named op) e old new w u
means_runs p longs named op means e old new w u is h =
    means_whole p longs named op means e old new w u is (as_whole p (means named) e old new w u h)
