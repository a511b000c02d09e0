-- Whether the heap has room for the constants of a class.
use Rattle.std.proofs.Common.{◌≡◌, ◌∙◌, sym, refl, ap, arith, ℕ, suc, ◌+◌, Bool, true, false, List, [], ◌∷◌, ◌++◌, map, drop, length, Option, None, Some, slice_get}
use Rattle.std.specs.Prelude.{nat_le, is_some, if◌then◌else◌}
use Rattle.std.specs.BTreeMap.{get}
use Rattle.std.specs.Cmp.Lexicographic.{slice_cmp}
use Rattle.std.specs.Ordering.{nat_cmp}
use Rattle.std.specs.Cmp.Lexicographic.{same_text}
use Rattle.program_rules.specs.declared.value.Value.TheVariants.{Int, Long, Ref}
use Rattle.program_rules.specs.Names.{Name, same}
use Rattle.program_rules.specs.Kinds.{Kind, narrow}
use Rattle.program_rules.specs.Linked.{LinkedField, FieldConstant, IntField, LongField, TextField, fits_kind, is_interface}
use Rattle.program_rules.specs.Outlines.{Outline, is_interface_class, fields_in, outline_of, is_static_field}
use Rattle.machine_rules.specs.declared.machine.Limits.{Limits}
use Rattle.machine_rules.specs.State as def
use Rattle.machine_rules.specs.NewObjects.{made_for, literal_or, with_literal, text_object}
use Rattle.machine_rules.specs.Initialisation.{Constant, constant_with, constants_from, sets_constant, sets_constants, then_world, with_text, sets_static}
use Rattle.class_link.specs.declared.linked.LinkedClass.{LinkedClass}
use Rattle.class_link.specs.declared.linked.LinkedField as linked
use Rattle.class_link.specs.Info.{Info}
use Rattle.class_link.specs.View.{linked_of, field_of}
use Rattle.class_table.specs.Table.{look, name_at}
use Rattle.jvm_world.specs.declared.made.Made.{Made}
use Rattle.jvm_world.specs.declared.world.World.{World}
use Rattle.jvm_world.specs.View.{world_of, Means}
use Rattle.jvm_initialization.specs.Constants.{static_constant, constant_at, constant_before, constants_in, Texts, words_with_text, words_with, words_after, texts_with, texts_after, rest_has_room, have_room, texts_in, texts_of, TellsSet}
use Rattle.jvm_initialization.specs.Begins.{setting_at}
use Rattle.jvm_initialization.proofs.Found.{dropped}

-- ---- which fields

one_constant : (b : Bool) (i : ℕ) (f : LinkedField) (rest : List Constant) → (if b then constant_with i f f.constant rest else rest) ≡ constant_before i f.kind (if b then if fits_kind f.constant f.kind then f.constant else None else None) rest
one_constant true i f rest = with_kind f.constant
  where
    with_kind : (o : Option FieldConstant) → constant_with i f o rest ≡ constant_before i f.kind (if fits_kind o f.kind then o else None) rest
    with_kind None = refl
    with_kind (Some x) = by_test (fits_kind (Some x) f.kind)
      where
        by_test : (c : Bool) → (if c then constant_at i f.kind x ∷ rest else rest) ≡ constant_before i f.kind (if c then Some x else None) rest
        by_test true = refl
        by_test false = refl
one_constant false i f rest = refl

pub constants_same : (c : Option Outline) (i : ℕ) (fs : List LinkedField) → constants_from c i fs ≡ constants_in (is_interface_class c) i fs
constants_same c i [] = refl
constants_same c i (f ∷ fs) =
    ap (λ rest. if is_static_field c f then constant_with i f f.constant rest else rest) (constants_same c (suc i) fs)
    ∙ one_constant (is_static_field c f) i f (constants_in (is_interface_class c) (suc i) fs)

pub constants_of : (p : List Info) (a : ℕ) (l : LinkedClass) (fs : List linked.LinkedField) (all : Bool) → look p (name_at p a) ≡ Some (linked_of l) → all ≡ is_interface l.flags → fs ≡ l.fields → constants_from (outline_of (look p (name_at p a))) 0 (fields_in (outline_of (look p (name_at p a)))) ≡ constants_in all 0 (map field_of fs)
unfolding linked_of
constants_of p a l fs all e same are =
    ap (λ o. constants_from (outline_of o) 0 (fields_in (outline_of o))) e
    ∙ constants_same (outline_of (Some (linked_of l))) 0 (map field_of l.fields)
    ∙ ap (λ b. constants_in b 0 (map field_of l.fields)) (sym same)
    ∙ ap (λ xs. constants_in all 0 (map field_of xs)) (sym are)

-- ---- the texts that have their object

pub stays : (has : Texts) (t : Name) → has t ≡ true → (n : Name) → has n ≡ texts_with has (TextField t) n
stays has t e n = by_test (same t n) refl
  where
    by_test : (b : Bool) → same t n ≡ b → has n ≡ (if b then true else has n)
    by_test true h = ap has (sym (same_text t n (sym h))) ∙ e
    by_test false h = refl

pub with_same : (f g : Texts) → ((n : Name) → f n ≡ g n) → (x : FieldConstant) (n : Name) → texts_with f x n ≡ texts_with g x n
with_same f g h (IntField z) n = h n
with_same f g h (LongField z) n = h n
with_same f g h (TextField t) n = ap (λ b. if same t n then true else b) (h n)

words_same : (f g : Texts) → ((n : Name) → f n ≡ g n) → (limit used : ℕ) (x : FieldConstant) → words_with f limit used x ≡ words_with g limit used x
words_same f g h limit used (IntField z) = refl
words_same f g h limit used (LongField z) = refl
words_same f g h limit used (TextField t) = ap (λ b. words_with_text b limit used t) (h t)

rest_same : (o : Option ℕ) (f g : ℕ → Bool) → ((u : ℕ) → f u ≡ g u) → rest_has_room o f ≡ rest_has_room o g
rest_same None f g h = refl
rest_same (Some u) f g h = h u

pub room_same : (f g : Texts) → ((n : Name) → f n ≡ g n) → (limit used : ℕ) (cs : List Constant) → have_room f limit used cs ≡ have_room g limit used cs
room_same f g h limit used [] = refl
room_same f g h limit used (c ∷ cs) =
    ap (λ o. rest_has_room o (λ u. have_room (texts_with f c.value) limit u cs)) (words_same f g h limit used c.value)
    ∙ rest_same (words_with g limit used c.value) (λ u. have_room (texts_with f c.value) limit u cs) (λ u. have_room (texts_with g c.value) limit u cs)
    (λ u. room_same (texts_with f c.value) (texts_with g c.value) (with_same f g h c.value) limit u cs)

-- ---- what the definitions do

module _ (q : Limits) (class : Name) where
  abbrev IsTold : List Constant → def.World → Type 0
  IsTold cs v = is_some (sets_constants q class cs v) ≡ have_room (texts_of v) q.heap v.used cs

  -- a text is made in a world
  abbrev made_in : def.World → Name → def.World
  made_in v t = record (record v { heap = v.heap ++ text_object t ∷ []; used = v.used + (2 + length t) }) { literals = (t, length v.heap + 1) ∷ v.literals }

  text_told : (v : def.World) (c : Constant) (t : Name) (cs : List Constant) (o : Option ℕ) → made_for t v.literals ≡ o → ((u : def.World) → IsTold cs u) → is_some (then_world (with_text class c.place (literal_or q v t o)) (sets_constants q class cs)) ≡ rest_has_room (words_with_text (is_some o) q.heap v.used t) (λ u. have_room (texts_with (texts_of v) (TextField t)) q.heap u cs)
  text_told v c t cs (Some x) e rest =
      rest (sets_static class c.place (Ref x) v)
      ∙ room_same (texts_of v) (texts_with (texts_of v) (TextField t)) (stays (texts_of v) t (ap is_some e)) q.heap v.used cs
  text_told v c t cs None e rest = by_room (nat_le (v.used + (2 + length t)) q.heap)
    where
      texts_made : (n : Name) → texts_of (made_in v t) n ≡ texts_with (texts_of v) (TextField t) n
      texts_made n = by_test (same t n)
        where
          by_test : (b : Bool) → is_some (if b then Some (length v.heap + 1) else made_for n v.literals) ≡ (if b then true else is_some (made_for n v.literals))
          by_test true = refl
          by_test false = refl

      by_room : (b : Bool) → is_some (then_world (with_text class c.place (with_literal t (if b then Some (record v { heap = v.heap ++ text_object t ∷ []; used = v.used + (2 + length t) }, length v.heap + 1) else None))) (sets_constants q class cs)) ≡ rest_has_room (if b then Some (v.used + (2 + length t)) else None) (λ u. have_room (texts_with (texts_of v) (TextField t)) q.heap u cs)
      by_room true =
          rest (sets_static class c.place (Ref (length v.heap + 1)) (made_in v t))
          ∙ room_same (texts_of (made_in v t)) (texts_with (texts_of v) (TextField t)) texts_made q.heap (v.used + (2 + length t)) cs
      by_room false = refl

  value_told : (c : Constant) (cs : List Constant) (v : def.World) (x : FieldConstant) → ((u : def.World) → IsTold cs u) → is_some (then_world (sets_constant q class c v x) (sets_constants q class cs)) ≡ rest_has_room (words_with (texts_of v) q.heap v.used x) (λ u. have_room (texts_with (texts_of v) x) q.heap u cs)
  value_told c cs v (IntField z) rest = rest (sets_static class c.place (Int (narrow c.kind z)) v)
  value_told c cs v (LongField z) rest = rest (sets_static class c.place (Long z) v)
  value_told c cs v (TextField t) rest = text_told v c t cs (made_for t v.literals) refl rest

  pub told : (cs : List Constant) (v : def.World) → IsTold cs v
  told [] v = refl
  told (c ∷ cs) v = value_told c cs v c.value (λ u. told cs u)

-- ---- in the code's world

texts_meant : (p : List Info) (w : World) (v : def.World) (counted : Made) → ((n : Name) → get (slice_cmp nat_cmp) counted.objects n ≡ None) → Means p w v → (n : Name) → texts_in w counted n ≡ texts_of v n
unfolding world_of
texts_meant p w v counted none m n =
    ap (λ o. if is_some o then true else is_some (get (slice_cmp nat_cmp) w.literals.objects n)) (none n)
    ∙ ap is_some (m.history.literals n ∙ ap (λ (u : def.World). made_for n u.literals) (sym m.world))

used_meant : (p : List Info) (w : World) (v : def.World) → Means p w v → v.used ≡ w.heap.used
unfolding world_of
used_meant p w v m = ap (λ (u : def.World). u.used) m.world

pub tells : (p : List Info) (a : ℕ) (w : World) (counted : Made) (cs : List Constant) (b : Bool) → ((n : Name) → get (slice_cmp nat_cmp) counted.objects n ≡ None) → constants_from (outline_of (look p (name_at p a))) 0 (fields_in (outline_of (look p (name_at p a)))) ≡ cs → b ≡ have_room (texts_in w counted) w.limits.heap w.heap.used cs → TellsSet p w (setting_at p w.limits a) b
tells p a w counted cs b none same is v m =
    ap (λ l. is_some (sets_constants w.limits (name_at p a) l v)) same
    ∙ told w.limits (name_at p a) cs v
    ∙ ap (λ u. have_room (texts_of v) w.limits.heap u cs) (used_meant p w v m)
    ∙ sym (room_same (texts_in w counted) (texts_of v) (texts_meant p w v counted none m) w.limits.heap w.heap.used cs)
    ∙ sym is

-- ---- one field more

-- the constants of the fields from a place on
pub from_place : (k : ℕ) (all : Bool) (fs : List linked.LinkedField) (f : linked.LinkedField) → slice_get fs k ≡ Some f → constants_in all k (map field_of (drop k fs)) ≡ constant_before k (field_of f).kind (static_constant all (field_of f)) (constants_in all (suc k) (map field_of (drop (suc k) fs)))
from_place k all fs f there = ap (λ l. constants_in all k (map field_of l)) (dropped fs k f there)

one_room : (has new : Texts) (limit used words i : ℕ) (k : Kind) (o : Option FieldConstant) (cs : List Constant) → words_after has limit used o ≡ Some words → ((n : Name) → new n ≡ texts_after has o n) → have_room has limit used (constant_before i k o cs) ≡ have_room new limit words cs
one_room has new limit used words i k None cs e h =
    let s : used ≡ words = cc in
    sym (room_same new has h limit used cs) ∙ ap (λ u. have_room new limit u cs) s
one_room has new limit used words i k (Some x) cs e h =
    ap (λ o. rest_has_room o (λ u. have_room (texts_with has x) limit u cs)) e
    ∙ sym (room_same new (texts_with has x) h limit words cs)

pub next_room : (has new : Texts) (limit used words j k : ℕ) (all : Bool) (fs : List linked.LinkedField) (f : linked.LinkedField) → j ≡ k + 1 → slice_get fs k ≡ Some f → words_after has limit used (static_constant all (field_of f)) ≡ Some words → ((n : Name) → new n ≡ texts_after has (static_constant all (field_of f)) n) → have_room has limit used (constants_in all k (map field_of (drop k fs))) ≡ have_room new limit words (constants_in all j (map field_of (drop j fs)))
next_room has new limit used words j k all fs f next there e h =
    let s : suc k ≡ j = omega (arith, next) in
    ap (have_room has limit used) (from_place k all fs f there)
    ∙ one_room has new limit used words k (field_of f).kind (static_constant all (field_of f)) (constants_in all (suc k) (map field_of (drop (suc k) fs))) e h
    ∙ ap (λ i. have_room new limit words (constants_in all i (map field_of (drop i fs)))) s

none_room : (has : Texts) (limit used i : ℕ) (k : Kind) (o : Option FieldConstant) (cs : List Constant) → words_after has limit used o ≡ None → have_room has limit used (constant_before i k o cs) ≡ false
none_room has limit used i k None cs e = absurd cc
none_room has limit used i k (Some x) cs e =
    ap (λ o. rest_has_room o (λ u. have_room (texts_with has x) limit u cs)) e

pub no_room : (has : Texts) (limit used k : ℕ) (all : Bool) (fs : List linked.LinkedField) (f : linked.LinkedField) → slice_get fs k ≡ Some f → words_after has limit used (static_constant all (field_of f)) ≡ None → have_room has limit used (constants_in all k (map field_of (drop k fs))) ≡ false
no_room has limit used k all fs f there e =
    ap (have_room has limit used) (from_place k all fs f there)
    ∙ none_room has limit used k (field_of f).kind (static_constant all (field_of f)) (constants_in all (suc k) (map field_of (drop (suc k) fs))) e
