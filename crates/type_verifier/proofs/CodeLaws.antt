-- The tables of a class and the parts of a method, in the setting of the rules.
use Rattle.std.proofs.Common.{◌≡◌, ◌<◌, ◌≤◌, ℕ, false, List, [], ◌++◌, map, All, Option, Some, Result, Ok, Err, refl, sym, ap, ◌∙◌, subst, inl, inr, arith}
use Rattle.std.specs.Prelude.{nat_le, if◌then◌else◌, IfOk}
use Rattle.std.specs.BTreeMap.{get}
use Rattle.std.specs.Cmp.Lexicographic.{slice_cmp}
use Rattle.std.specs.Ordering.{nat_cmp}
use Rattle.std.specs.Option.{option_map}
use Rattle.std.proofs.lemmas.Bool.{le-leb}
use Rattle.std.proofs.lemmas.Bool.Decides.{leb_tells}
use Rattle.std.proofs.lemmas.List.{append-nil}
use Rattle.type_rules.specs.References.{classes_of}
use Rattle.type_rules.specs.Assignability.{height}
use Rattle.type_rules.specs.Frames.{FullFrame, first_items, first_frame, full_frame, expand, stated_at}
use Rattle.type_rules.specs.Rules.{fault_within, setting_of}
use Rattle.class_link.specs.Info.{Info}
use Rattle.class_link.specs.Symbols.{kind_of}
use Rattle.class_link.specs.View.{code_of, frame_of, linked_of, method_of, row_of}
use Rattle.class_link.specs.declared.linked.LinkedCode.{LinkedCode}
use Rattle.class_link.specs.declared.linked.LinkedMethod.{LinkedMethod}
use Rattle.class_table.specs.Table.{look}
use Rattle.vframes.specs.declared.named.Named.{Named}
use Rattle.vframes.specs.declared.frame.Frame.{Frame}
use Rattle.vframes.specs.declared.slot_type.SlotType.{SlotType}
use Rattle.vframes.specs.Named.{AreDistinct, AreNamed, HasComponent, HaveComponents, name_at}
use Rattle.vframes.specs.StatedFrames.{StatedTypes, stated_types, frame_at}
use Rattle.vframes.specs.View.{types_in, words_of}
use Rattle.vframes.specs.FrameView.{types_of}
use Rattle.vframes.proofs.Words.{words_are}
use Rattle.type_rows.specs.declared.item.Item.{Item}
use Rattle.type_rows.specs.declared.site.Site.{Site}
use Rattle.type_rows.specs.Items.{AreItemsOf}
use Rattle.type_rows.specs.Sites.{IsGiven, IsSettingOf}
use Rattle.type_rows.specs.Means.{AreCommon, IsSite}
use Rattle.vframes.specs.declared.handlers.Handler.{Handler}
use Rattle.type_verifier.specs.declared.pass.Fault.{Fault}
use Rattle.type_verifier.specs.Handlers.{AreHandlersOf}
use Rattle.type_verifier.specs.Passes.{FirstFaultIs, fault_of}
use Rattle.type_verifier.specs.declared.names.Names.{Names}
use Rattle.type_verifier.specs.declared.shapes.Difference.{Difference}
use Rattle.type_verifier.specs.declared.own.Own.{Own}
use Rattle.type_verifier.specs.Heads.{FirstIs, InitIs}
use Rattle.type_verifier.specs.Pool.{home_of}
use Rattle.type_verifier.specs.Shapes.{frame_in}
use Rattle.type_verifier.specs.Tables.{IsTable, Adds, NameLasts}
use Rattle.type_verifier.proofs.Lasting.{lasts, name_lasts}
use Rattle.type_verifier.specs.declared.method.MethodCode.{MethodCode}
use Rattle.type_verifier.specs.declared.frames.Expansion.{Expansion}
use Rattle.type_verifier.specs.Expansions.{AreInFull, ExpandsTo, IsMethodOf}
use Rattle.type_verifier.specs.Standing.{AreFirst}
use Rattle.type_verifier.specs.declared.tables.Tables.{Tables}
use Rattle.type_verifier.specs.declared.parts.Parts.{Parts}
use Rattle.type_verifier.specs.ProgramTables.{AreTables, AreParts, classes_around, CodeFaultIs, ExpansionIs, StatedFaultIs}

-- what lasts holds now
pub now : (P : List Named → Type 0) (old ns : List Named) → ns ≡ old → ((more : List Named) → P (old ++ more)) → P ns
now P old ns e h = subst P (sym e) (subst P (append-nil old) (h []))

-- the tables of a class last
pub tables_last : (o : Own) (t : Tables) (names : Names) → AreTables o t → Adds o.program.now t.names names → AreTables o (record t { names = names })
tables_last o t names a adds = record {
  table = adds.table;
  class = name_lasts o.program.now t.names names t.class o.name.now adds a.class;
  common = lasts (λ ns. AreCommon ns t.common) t.names.list.items names.list.items adds.more a.common;
  items = lasts (λ ns. AreItemsOf ns (home_of o) o.linked.now.entries t.items.items) t.names.list.items names.list.items adds.more a.items;
}

-- ---- names

distinct_now : (p : List Info) (t : Names) → IsTable p t → AreDistinct t.list.items
distinct_now p t is i j li lj e =
    let there : Some i ≡ Some j = sym (is.numbered i li) ∙ ap (get (slice_cmp nat_cmp) t.numbers) e ∙ is.numbered j lj in
    cc

pub distinct : (p : List Info) (t : Names) (ns : List Named) → ns ≡ t.list.items → IsTable p t → AreDistinct ns
distinct p t ns e is = subst AreDistinct (sym e) (distinct_now p t is)

pub components : (p : List Info) (t : Names) (ns : List Named) → ns ≡ t.list.items → IsTable p t → HaveComponents ns
components p t ns e is =
    subst HaveComponents (sym e) (subst (λ l. All (HasComponent l) t.list.items) (append-nil t.list.items) (is.components []))

-- ---- the site of a method

items_now : (o : Own) (t : Tables) (ns : List Named) (is : List Item) (class : ℕ) → ns ≡ t.names.list.items → is ≡ t.items.items → NameLasts t.names.list.items class o.name.now → AreTables o t → AreItemsOf ns (record { program = classes_around o; class = name_at ns class; linked = linked_of o.linked.now }) o.linked.now.entries is
items_now o t ns is class en ei name a =
    let at : name_at ns class ≡ o.name.now = now (λ l. name_at l class ≡ o.name.now) t.names.list.items ns en name in
    let have : AreItemsOf ns (home_of o) o.linked.now.entries t.items.items = now (λ l. AreItemsOf l (home_of o) o.linked.now.entries t.items.items) t.names.list.items ns en a.items in
    subst (λ n. AreItemsOf ns (record { program = classes_around o; class = n; linked = linked_of o.linked.now }) o.linked.now.entries is) (sym at)
    (subst (AreItemsOf ns (home_of o) o.linked.now.entries) (sym ei) have)

-- the frame that a method begins with
begins : (o : Own) (m : LinkedMethod) (c : LinkedCode) (old ns : List Named) (x : Parts) (f : Frame) → ns ≡ old → AreParts o m c old x → FirstIs c.max_locals x.first.items f → first_frame o.name.now (method_of o.linked.now.entries m) (code_of o.linked.now.entries c) ≡ types_of ns f
begins o m c old ns x f e p is =
    ap (λ ts. full_frame c.max_locals ts []) (sym (now (λ l. types_in l x.first.items ≡ first_items o.name.now (method_of o.linked.now.entries m)) old ns e (p.first o.linked.now.entries)))
    ∙ sym (is ns)

module _ (o : Own) (t : Tables) (m : LinkedMethod) (c : LinkedCode) (x : Parts) (site : Site) (tables : AreTables o t) (parts : AreParts o m c t.names.list.items x) (program : site.program.now ≡ o.program.now) (names : site.names.now ≡ t.names.list.items) (common : site.common ≡ t.common) (items : site.items.now ≡ t.items.items) (linked : site.linked.now ≡ o.linked.now) (class : site.class ≡ x.class) where
  own_name : NameLasts t.names.list.items site.class o.name.now
  own_name = subst (λ k. NameLasts t.names.list.items k o.name.now) (sym class) parts.class

  have_items : AreItemsOf site.names.now (record { program = classes_of (look site.program.now); class = name_at site.names.now site.class; linked = linked_of site.linked.now }) site.linked.now.entries site.items.now
  have_items =
      subst (λ l. AreItemsOf site.names.now (record { program = classes_of (look site.program.now); class = name_at site.names.now site.class; linked = linked_of l }) l.entries site.items.now) (sym linked)
      (subst (λ p. AreItemsOf site.names.now (record { program = classes_of (look p); class = name_at site.names.now site.class; linked = linked_of o.linked.now }) o.linked.now.entries site.items.now) (sym program)
      (items_now o t site.names.now site.items.now site.class names items own_name tables))

  pub is_site : IsSite site
  is_site = record {
    named = subst (λ p. AreNamed p site.names.now) (sym program) (subst (AreNamed o.program.now) (sym names) tables.table.named);
    distinct = distinct o.program.now t.names site.names.now names tables.table;
    components = components o.program.now t.names site.names.now names tables.table;
    common = subst (AreCommon site.names.now) (sym common) (now (λ l. AreCommon l t.common) t.names.list.items site.names.now names tables.common);
    items = have_items;
  }

  module _ (stated : List (Option StatedTypes)) (frames : site.stated.now ≡ stated) (code : site.code.now ≡ c) (given : site.given ≡ x.given) (init : InitIs m site.is_initializer) where
    is_setting : (fs : List FullFrame) → ((to : ℕ) → stated_at to fs ≡ option_map (stated_types t.names.list.items) (frame_at stated to)) → IsSettingOf (setting_of (classes_around o) o.name.now (linked_of o.linked.now) (method_of o.linked.now.entries m) (code_of o.linked.now.entries c) fs) site
    is_setting fs each = record {
      program = ap (λ p. classes_of (look p)) (sym program);
      class = sym (now (λ l. name_at l site.class ≡ o.name.now) t.names.list.items site.names.now names own_name);
      linked = ap linked_of (sym linked);
      code = ap (λ l. code_of l.entries c) (sym linked) ∙ ap (code_of site.linked.now.entries) (sym code);
      frames = λ to.
          each to ∙ ap (λ l. option_map (stated_types l) (frame_at stated to)) (sym names)
          ∙ ap (λ f. option_map (stated_types site.names.now) (frame_at f to)) (sym frames);
      initializer = sym (init o.linked.now.entries);
      given = subst (IsGiven (classes_of (look site.program.now)) site.names.now (option_map kind_of m.result)) (sym given)
          (now (λ l. IsGiven (classes_of (look site.program.now)) l (option_map kind_of m.result) x.given) t.names.list.items site.names.now names (parts.given (classes_of (look site.program.now))));
    }

    handlers_are : (hs : List Handler) → hs ≡ x.handlers.items → AreHandlersOf (classes_of (look site.program.now)) site.names.now hs (map row_of c.rows)
    handlers_are hs e =
        subst (λ p. AreHandlersOf (classes_of (look p)) site.names.now hs (map row_of c.rows)) (sym program)
        (subst (λ h. AreHandlersOf (classes_of (look o.program.now)) site.names.now h (map row_of c.rows)) (sym e)
        (now (λ l. AreHandlersOf (classes_of (look o.program.now)) l x.handlers.items (map row_of c.rows)) t.names.list.items site.names.now names parts.handlers))

    -- what the pass answers
    pub stated_fault : (hs : List Handler) (first : Frame) (r : Option Fault) → hs ≡ x.handlers.items → FirstIs c.max_locals x.first.items first → FirstFaultIs site hs first r → StatedFaultIs o m c t.names.list.items stated r
    stated_fault hs first r e is h fs each =
        h (setting_of (classes_around o) o.name.now (linked_of o.linked.now) (method_of o.linked.now.entries m) (code_of o.linked.now.entries c) fs)
        (record { setting = is_setting fs each; handlers = handlers_are hs e })
        (begins o m c t.names.list.items site.names.now x first names parts is)

pub for_ok : {A E : Type 0} (P Q : A → Type 0) (r : Result A E) → ((a : A) → P a → Q a) → IfOk r P → IfOk r Q
for_ok P Q (Ok a) f h = f a h
for_ok P Q (Err e) f h = tt

-- ---- frames that are expanded

pub method_is : (o : Own) (m : LinkedMethod) (c : LinkedCode) (ns : List Named) (x : Parts) (states : MethodCode) → states.linked.now ≡ o.linked.now → states.code.now ≡ c → InitIs m states.is_initializer → AreParts o m c ns x → IsMethodOf states x.first.items x.differences.items ns o.name.now (method_of o.linked.now.entries m) (code_of o.linked.now.entries c)
method_is o m c ns x states linked code init p = record {
  method = record {
    initializer = sym (init o.linked.now.entries);
    code = ap (λ l. code_of l.entries c) (sym linked) ∙ ap (code_of states.linked.now.entries) (sym code);
  };
  first = now (λ l. types_in l x.first.items ≡ first_items o.name.now (method_of o.linked.now.entries m)) ns ns refl (p.first o.linked.now.entries);
  frames = now (λ l. map (frame_in l) x.differences.items ≡ map frame_of c.frames) ns ns refl p.frames;
}

pub expansion_is : {E : Type 0} (o : Own) (m : LinkedMethod) (c : LinkedCode) (ns : List Named) (x : Parts) (states : MethodCode) (ts : List SlotType) (ds : List Difference) (r : Result Expansion E) → IfOk r (λ e. ExpandsTo states ts ds e) → states.linked.now ≡ o.linked.now → states.code.now ≡ c → InitIs m states.is_initializer → ts ≡ x.first.items → ds ≡ x.differences.items → AreParts o m c ns x → IfOk r (λ e. ExpansionIs o m c ns e)
expansion_is o m c ns x states ts ds r is linked code init et ed p =
    for_ok (λ e. ExpandsTo states ts ds e) (λ e. ExpansionIs o m c ns e) r
    (λ e h. h ns o.name.now (method_of o.linked.now.entries m) (code_of o.linked.now.entries c)
    (subst (λ l. IsMethodOf states l ds ns o.name.now (method_of o.linked.now.entries m) (code_of o.linked.now.entries c)) (sym et)
    (subst (λ l. IsMethodOf states x.first.items l ns o.name.now (method_of o.linked.now.entries m) (code_of o.linked.now.entries c)) (sym ed)
    (method_is o m c ns x states linked code init p)))) is

pub first_are : (o : Own) (m : LinkedMethod) (c : LinkedCode) (ns : List Named) (x : Parts) (states : MethodCode) → states.code.now ≡ c → InitIs m states.is_initializer → AreParts o m c ns x → words_of x.first.items ≤ c.max_locals → AreFirst states x.first.items
first_are o m c ns x states code init p few = record {
  names = ns;
  class = o.name.now;
  method = method_of o.linked.now.entries m;
  initializer = sym (init o.linked.now.entries);
  types = now (λ l. types_in l x.first.items ≡ first_items o.name.now (method_of o.linked.now.entries m)) ns ns refl (p.first o.linked.now.entries);
  few = subst (λ a. words_of x.first.items ≤ a.max_locals) (sym code) few;
}

-- ---- the fault of a code

words_first : (o : Own) (m : LinkedMethod) (c : LinkedCode) (ns : List Named) (x : Parts) → AreParts o m c ns x → height (first_items o.name.now (method_of o.linked.now.entries m)) ≡ words_of x.first.items
words_first o m c ns x p =
    ap height (sym (now (λ l. types_in l x.first.items ≡ first_items o.name.now (method_of o.linked.now.entries m)) ns ns refl (p.first o.linked.now.entries)))
    ∙ words_are ns x.first.items

more_than : (a b : ℕ) → b < a → nat_le a b ≡ false
more_than a b l =
    elim (leb_tells a b) [
      | inl h ↦ absurd (omega (arith, l, h.1))
      | inr h ↦ h.0
    ]

-- rule 2
pub past_locals : (o : Own) (m : LinkedMethod) (c : LinkedCode) (ns : List Named) (x : Parts) → AreParts o m c ns x → c.max_locals < words_of x.first.items → CodeFaultIs o m c (Some (record { at = 0; rule = 2 }))
past_locals o m c ns x p l =
    ap (λ h. if nat_le h c.max_locals then fault_within (classes_around o) o.name.now (linked_of o.linked.now) (method_of o.linked.now.entries m) (code_of o.linked.now.entries c) (expand o.name.now (method_of o.linked.now.entries m) (code_of o.linked.now.entries c)) else Some (record { at = 0; rule = 2 })) (words_first o m c ns x p)
    ∙ ap (λ b. if b then fault_within (classes_around o) o.name.now (linked_of o.linked.now) (method_of o.linked.now.entries m) (code_of o.linked.now.entries c) (expand o.name.now (method_of o.linked.now.entries m) (code_of o.linked.now.entries c)) else Some (record { at = 0; rule = 2 })) (more_than (words_of x.first.items) c.max_locals l)

-- the rules behind it
pub within_locals : (o : Own) (m : LinkedMethod) (c : LinkedCode) (ns : List Named) (x : Parts) (r : Option Fault) → AreParts o m c ns x → words_of x.first.items ≤ c.max_locals → fault_within (classes_around o) o.name.now (linked_of o.linked.now) (method_of o.linked.now.entries m) (code_of o.linked.now.entries c) (expand o.name.now (method_of o.linked.now.entries m) (code_of o.linked.now.entries c)) ≡ fault_of r → CodeFaultIs o m c r
within_locals o m c ns x r p l e =
    ap (λ h. if nat_le h c.max_locals then fault_within (classes_around o) o.name.now (linked_of o.linked.now) (method_of o.linked.now.entries m) (code_of o.linked.now.entries c) (expand o.name.now (method_of o.linked.now.entries m) (code_of o.linked.now.entries c)) else Some (record { at = 0; rule = 2 })) (words_first o m c ns x p)
    ∙ ap (λ b. if b then fault_within (classes_around o) o.name.now (linked_of o.linked.now) (method_of o.linked.now.entries m) (code_of o.linked.now.entries c) (expand o.name.now (method_of o.linked.now.entries m) (code_of o.linked.now.entries c)) else Some (record { at = 0; rule = 2 })) (le-leb (words_of x.first.items) c.max_locals l)
    ∙ e

-- the frames can be expanded, and this is the first fault then
pub in_full : (o : Own) (m : LinkedMethod) (c : LinkedCode) (ns : List Named) (x : Parts) (stated : List (Option StatedTypes)) (r : Option Fault) → AreParts o m c ns x → words_of x.first.items ≤ c.max_locals → AreInFull ns stated (expand o.name.now (method_of o.linked.now.entries m) (code_of o.linked.now.entries c)) → StatedFaultIs o m c ns stated r → CodeFaultIs o m c r
in_full o m c ns x stated r p few full is =
    within_locals o m c ns x r p few
    (ap (fault_within (classes_around o) o.name.now (linked_of o.linked.now) (method_of o.linked.now.entries m) (code_of o.linked.now.entries c)) full.is
    ∙ is full.frames full.each)

-- rule 3
pub bad_frame : (o : Own) (m : LinkedMethod) (c : LinkedCode) (ns : List Named) (x : Parts) (at : ℕ) → AreParts o m c ns x → words_of x.first.items ≤ c.max_locals → expand o.name.now (method_of o.linked.now.entries m) (code_of o.linked.now.entries c) ≡ Err at → CodeFaultIs o m c (Some (record { at = at; rule = 3 }))
bad_frame o m c ns x at p few e =
    within_locals o m c ns x (Some (record { at = at; rule = 3 })) p few
    (ap (fault_within (classes_around o) o.name.now (linked_of o.linked.now) (method_of o.linked.now.entries m) (code_of o.linked.now.entries c)) e)
