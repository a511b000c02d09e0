-- A class that has a spelling means the same where entries are put behind its constant pool.
use Rattle.std.proofs.Common.{◌≡◌, ◌∙◌, sym, refl, ap, ℕ, zero, suc, ◌-◌, Bool, true, false, List, [], ◌∷◌, ◌++◌, map, Option, None, Some, arith}
use Rattle.std.specs.Prelude.{◌==◌, if◌then◌else◌, slice_get}
use Rattle.std.specs.List.{AllByRecursion}
use Rattle.std.proofs.lemmas.Bool.{eqb-true}
use Rattle.std.proofs.lemmas.List.Elements.{recursion_from_All}
use Rattle.std.proofs.lemmas.Option.{slice_get_within}
use Rattle.class_model.specs.declared.class.Class.{Class}
use Rattle.class_model.specs.declared.class.Member.{Member}
use Rattle.class_model.specs.declared.constant.Const.{Const}
use Rattle.class_model.specs.DeclaredName.{is_field_name, is_method_name}
use Rattle.class_model.specs.DescriptorReading.{field_kind, method_kinds}
use Rattle.class_model.specs.Pool.{entry_of, class_name_of, IsPoolForm}
use Rattle.program_rules.specs.Names.{Name}
use Rattle.program_rules.specs.Linked.{Linked, LinkedField, LinkedMethod}
use Rattle.class_link.specs.declared.loaded.EditedFile.{EditedFile}
use Rattle.class_link.specs.Edits.{MeanTheSame, AddsAlone}
use Rattle.class_link.specs.Linking.{link, class_or_none, field_in, method_in}
use Rattle.class_link.specs.Symbols.{symbol_in, symbol_or_other, name_or_empty, class_named}
use Rattle.class_link.proofs.AppendedLaws.{meaning_kept}
use Rattle.class_reader.specs.Indices.{is_read}
use Rattle.class_reader.specs.Spells.{IsClass}
use Rattle.class_writer.specs.Writing.{HasClassForm, HasMemberForm, IsNamedField, IsNamedMethod, IsNamedClass}
use Rattle.mt_attrs.specs.declared.owner.Owner.TheVariants.{OfField, OfMethod}
use Rattle.mutant_apply.proofs.NamesKept.{same_names}
use Rattle.mutant_apply.proofs.PoolLaws.{entry_kept}
use Rattle.mutant_runs.proofs.Longer.{each_same, field_by, method_by}
use Rattle.mutant_apply.specs.Spelled.{SpelledIsNamed}

pub parent_case : (pool more : List Const) (i : ℕ) (b : Bool) → (b ≡ false → class_name_of (pool ++ more) i ≡ class_name_of pool i) → (if b then None else Some (class_named (pool ++ more) i)) ≡ (if b then None else Some (class_named pool i))
parent_case pool more i true same = refl
parent_case pool more i false same = ap (λ (o : Option Name). Some (name_or_empty o)) (same refl)

-- ---- members

module _ (c : Class) (more : List Const) (named : IsNamedClass c) where
  abbrev longer : List Const
  longer = c.pool ++ more

  abbrev is_desc : List ℕ → Bool
  is_desc desc = is_read (method_kinds desc)

  pub fields_same : map (field_in longer) c.fields ≡ map (field_in c.pool) c.fields
  fields_same = each_same (IsNamedField c.pool) (field_in longer) (field_in c.pool) (field_by c.pool more named.pool OfField is_field_name (λ desc. is_read (field_kind desc))) c.fields named.fields

  both_by : (ms : List Member) → AllByRecursion (IsNamedMethod c.pool) ms → AllByRecursion HasMemberForm ms → AllByRecursion (λ m. IsNamedMethod c.pool m × HasMemberForm m) ms
  both_by [] n f = tt
  both_by (m ∷ ms) n f = ((n.0, f.0), both_by ms n.1 f.1)

  pub methods_same : HasClassForm c → map (method_in longer) c.methods ≡ map (method_in c.pool) c.methods
  methods_same form =
      each_same (λ m. IsNamedMethod c.pool m × HasMemberForm m) (method_in longer) (method_in c.pool) (λ m q. method_by c.pool more named.pool OfMethod is_method_name is_desc m q.0 q.1) c.methods
      (both_by c.methods named.methods (recursion_from_All HasMemberForm c.methods form.methods))

-- ---- the class

abbrev with_members : Class → Option Name → List Name → List LinkedField → List LinkedMethod → Linked
with_members c parent interfaces fields methods = record { library = false; flags = c.flags; parent = parent; interfaces = interfaces; fields = fields; methods = methods }

pub rest_same : (c : Class) (more : List Const) → IsNamedClass c → HasClassForm c → IsClass c → link (record c { pool = c.pool ++ more }) ≡ link c
unfolding link
rest_same c more named form spelled =
    let longer = c.pool ++ more in
    let same = same_names c more spelled in
    let interfaces = map (class_named longer) c.interfaces in
    let fields = map (field_in longer) c.fields in
    let methods = map (method_in longer) c.methods in
    ap (λ p. with_members c p interfaces fields methods) (parent_case c.pool more c.parent (c.parent == 0) same.parent)
    ∙ ap (λ is. with_members c (class_or_none c.pool c.parent) is fields methods)
    (each_same (λ i. class_name_of longer i ≡ class_name_of c.pool i) (class_named longer) (class_named c.pool) (λ i e. ap name_or_empty e) c.interfaces same.interfaces)
    ∙ ap (λ fs. with_members c (class_or_none c.pool c.parent) (map (class_named c.pool) c.interfaces) fs methods) (fields_same c more named)
    ∙ ap (with_members c (class_or_none c.pool c.parent) (map (class_named c.pool) c.interfaces) (map (field_in c.pool) c.fields)) (methods_same c more named form)

-- ---- entries

by_place : {X Y : Type 0} (f g : X → Y) (xs : List X) → ((k : ℕ) (x : X) → slice_get xs k ≡ Some x → f x ≡ g x) → map f xs ≡ map g xs
by_place f g [] h = refl
by_place f g (x ∷ xs) h = ap (λ y. y ∷ map f xs) (h zero x refl) ∙ ap (λ ys. g x ∷ ys) (by_place f g xs (λ k y e. h (suc k) y e))

module _ (pool more : List Const) (form : IsPoolForm pool) where
  at_place : (b : Bool) (k : ℕ) → (suc k == 0) ≡ b → (if b then None else slice_get pool (suc k - 1)) ≡ slice_get pool k
  at_place true k e = let none = eqb-true (suc k) 0 e in absurd (omega (arith, none))
  at_place false k e = ap (slice_get pool) (let place : suc k - 1 ≡ k = omega arith in place)

  symbol_same : (k : ℕ) (c : Const) → slice_get pool k ≡ Some c → symbol_in (pool ++ more) c ≡ symbol_in pool c
  symbol_same k c there =
      let here : entry_of pool (suc k) ≡ Some c = at_place (suc k == 0) k refl ∙ there in
      let within = slice_get_within pool k c there in
      ap (symbol_or_other (pool ++ more)) (sym (entry_kept pool more (suc k) c here))
      ∙ meaning_kept pool more (suc k) form (omega (arith, within))
      ∙ ap (symbol_or_other pool) here

  symbols_same : MeanTheSame pool more
  symbols_same = by_place (symbol_in (pool ++ more)) (symbol_in pool) pool symbol_same

pub adds_alone : SpelledIsNamed → (e : EditedFile) → HasClassForm e.original.class → IsClass e.original.class → AddsAlone e
adds_alone names e form spelled =
    let c = e.original.class in
    record {
      name = ap name_or_empty (same_names c e.added spelled).this;
      entries = let pool = spelled.pool in symbols_same c.pool e.added pool.form;
      rest = rest_same c e.added (names c spelled) form spelled;
    }
