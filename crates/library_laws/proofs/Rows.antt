-- From the rows of the library's table to the methods of its classes.
use Rattle.std.proofs.Common.{◌≡◌, ℕ, zero, suc, Bool, true, false, List, [], ◌∷◌, ◌++◌, map, Option, Some, sym, ap, subst, ◌∙◌}
use Rattle.std.specs.Prelude.{slice_get}
use Rattle.std.specs.List.{AllByRecursion, list_all}
use Rattle.std.specs.Option.{option_map}
use Rattle.std.proofs.lemmas.Bool.{and_parts, true≢false}
use Rattle.std.proofs.lemmas.List.Elements.{All-from_recursion}
use Rattle.class_model.specs.declared.constant.Const.{Const}
use Rattle.program_rules.specs.Names.{Name}
use Rattle.program_rules.specs.Kinds.{Kind}
use Rattle.program_rules.specs.Linked.{LinkedMethod, LinkedBody, IsNative, is_static}
use Rattle.program_rules.specs.Programs.{Look}
use Rattle.program_rules.specs.Deeds.{Meaning}
use Rattle.class_link.specs.declared.loaded.LibBody.{LibBody}
use Rattle.class_link.specs.declared.loaded.LibBody.TheVariants as lib
use Rattle.class_link.specs.declared.loaded.LibMethod.{LibMethod}
use Rattle.class_link.specs.declared.loaded.LibClass.{LibClass}
use Rattle.class_link.specs.Symbols.{kind_of, type_stated}
use Rattle.class_link.specs.Linking.{library_body, library_method, link_library}
use Rattle.lib_table.specs.Steps.{written_behind}
use Rattle.lib_table.specs.Stated as stated
use Rattle.lib_table.specs.Stated.{Row, Plain, Coded, methods_from}
use Rattle.type_laws.specs.Soundness.{BodyFits}
use Rattle.library_laws.specs.Fits.{FitsAs, MethodsFit, AllFit}
use Rattle.library_laws.specs.Natives.{is_keeping}

infixr 20 ◌&◌
-- The first, and what is behind it.
pub ◌&◌ : {A B : Type 0} → A → B → A × B
x & y = (x, y)

-- ---- rows

-- What a row says of a method that has no code.
abbrev Said : Type 0
Said = Bool × List Kind × Option Kind × LinkedBody

abbrev said : List Const → LibMethod → Said
said pool m = (is_static m.flags, map kind_of (type_stated m.desc).args, option_map kind_of (type_stated m.desc).ret, library_body pool m.body)

module _ (p : Look) (n : Name) where
  -- A method without code fits, by whatever pool.
  pub record RowFits (m : LibMethod) : Type 0 where
    pub each : (pool : List Const) → BodyFits p n (library_method pool m) (library_body pool m.body)

  -- Of written methods nothing is asked.
  abbrev pub RowsFit : List Row → Type 0
  RowsFit [] = Unit {0}
  RowsFit (Plain m ∷ rows) = RowFits m × RowsFit rows
  RowsFit (Coded flags name desc m ∷ rows) = RowsFit rows

  pub native_fits : {m : LibMethod} {static : Bool} {ks : List Kind} {r : Option Kind} {meaning : Meaning} → FitsAs p n static ks r meaning → ((pool : List Const) → said pool m ≡ (static, ks, r, IsNative meaning)) → RowFits m
  unfolding FitsAs
  native_fits {m} f e = record { each = λ pool. subst (BodyFits p n (library_method pool m)) (sym (ap (λ x. x.3) (e pool))) (f (library_method pool m) (ap (λ x. x.0) (e pool)) (ap (λ x. x.1) (e pool)) (ap (λ x. x.2) (e pool))) }

  methods_fit : (pool before : List Const) (rows : List Row) (k : ℕ) (m : LinkedMethod) → RowsFit rows → slice_get (map (library_method pool) (methods_from before rows)) k ≡ Some m → BodyFits p n m m.body
  methods_fit pool before [] k m f e = cc
  methods_fit pool before (Plain x ∷ rows) zero m f e =
      let same : library_method pool x ≡ m = cc in
      subst (λ z. BodyFits p n z z.body) same (f.0.each pool)
  methods_fit pool before (Plain x ∷ rows) (suc k) m f e = methods_fit pool before rows k m f.1 e
  methods_fit pool before (Coded flags name desc x ∷ rows) zero m f e =
      let same : library_method pool (stated.method_with flags name desc (lib.Written (written_behind before x).code)) ≡ m = cc in
      subst (λ z. BodyFits p n z z.body) same tt
  methods_fit pool before (Coded flags name desc x ∷ rows) (suc k) m f e = methods_fit pool (written_behind before x).pool rows k m f e

  -- ---- rows of abstract methods

  abbrev is_abstract_body : LibBody → Bool
  is_abstract_body (lib.Native k) = false
  is_abstract_body (lib.Written code) = false
  is_abstract_body lib.Abstract = true

  abbrev pub is_abstract : Row → Bool
  is_abstract (Plain m) = is_abstract_body m.body
  is_abstract (Coded flags name desc m) = true

  nothing_fits : (m : LinkedMethod) (pool : List Const) (b : LibBody) → is_abstract_body b ≡ true → BodyFits p n m (library_body pool b)
  nothing_fits m pool (lib.Native k) e = cc
  nothing_fits m pool (lib.Written code) e = tt
  nothing_fits m pool lib.Abstract e = tt

  pub abstract_fit : (rows : List Row) → list_all is_abstract rows ≡ true → RowsFit rows
  abstract_fit [] e = tt
  abstract_fit (Plain m ∷ rows) e =
      let both = and_parts (is_abstract_body m.body) (list_all is_abstract rows) e in
      (record { each = λ pool. nothing_fits (library_method pool m) pool m.body both.0 }, abstract_fit rows both.1)
  abstract_fit (Coded flags name desc m ∷ rows) e = abstract_fit rows e

-- ---- classes

module _ (p : Look) where
  pub ClassFits : LibClass → Type 0
  ClassFits c = MethodsFit p c

  -- A class whose methods are those of rows.
  pub of_rows : (c : LibClass) (rows : List Row) → c.methods ≡ methods_from [] rows → RowsFit p c.name rows → ClassFits c
  unfolding ClassFits link_library
  of_rows c rows same f = λ k m e. methods_fit p c.name c.pool [] rows k m f (subst (λ ms. slice_get (map (library_method c.pool) ms) k ≡ Some m) same e)

  pub of_classes : (cs : List LibClass) → AllByRecursion ClassFits cs → AllFit p cs
  unfolding ClassFits
  of_classes cs f = All-from_recursion (MethodsFit p) cs f

  -- The methods of a class fit, unless it keeps references.
  pub record CaseFits (c : LibClass) : Type 0 where
    pub fit : is_keeping c ≡ false → MethodsFit p c

  pub by_rows : {c : LibClass} (rows : List Row) → c.methods ≡ methods_from [] rows → RowsFit p c.name rows → CaseFits c
  unfolding ClassFits
  by_rows {c} rows same f = record { fit = λ l. of_rows c rows same f }

  pub by_name : {c : LibClass} → is_keeping c ≡ true → CaseFits c
  by_name e = record { fit = λ l. absurd (true≢false (sym e ∙ l)) }

  abbrev pub CasesFit : List LibClass → Type 0
  CasesFit [] = Unit {0}
  CasesFit (c ∷ cs) = CaseFits c × CasesFit cs

  pub joined : (cs ds : List LibClass) → CasesFit cs → CasesFit ds → CasesFit (cs ++ ds)
  joined [] ds f g = g
  joined (c ∷ cs) ds f g = (f.0, joined cs ds f.1 g)

  pub case_at : (cs : List LibClass) (j : ℕ) (c : LibClass) → CasesFit cs → slice_get cs j ≡ Some c → CaseFits c
  case_at [] j c f e = cc
  case_at (x ∷ cs) zero c f e =
      let same : x ≡ c = cc in
      subst CaseFits same f.0
  case_at (x ∷ cs) (suc j) c f e = case_at cs j c f.1 e
