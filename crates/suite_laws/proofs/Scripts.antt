-- The script of each test that is found fits.
use Rattle.std.proofs.Common.{◌≡◌, ◌∙◌, refl, sym, ap, subst, ℕ, Bool, true, false, ◌&&◌, List, [], ◌∷◌, ◌++◌, map, Option, Some, None, Ok}
use Rattle.std.specs.Prelude.{◌||◌, not, if◌then◌else◌, reverse, codes}
use Rattle.std.specs.List.{flat_map, AllByRecursion}
use Rattle.std.proofs.lemmas.Bool.{and_parts, or_parts, or_left, or_right}
use Rattle.std.proofs.lemmas.List.{append_assoc}
use Rattle.std.proofs.lemmas.List.Elements.{All-from_recursion}
use Rattle.class_model.specs.Pool.{text_of}
use Rattle.class_model.specs.declared.class.Class.{Class}
use Rattle.program_rules.specs.Names.{Name, same, instance_initializer, plain_descriptor}
use Rattle.program_rules.specs.Linked.{is_static, is_abstract}
use Rattle.program_rules.specs.Programs.{Look}
use Rattle.program_rules.specs.declared.call_kind.CallKind.{CallKind}
use Rattle.program_rules.specs.declared.call_kind.CallKind.TheVariants.{ClassWide, Around, TestMethod}
use Rattle.type_rules.specs.Frames.{is_initializer}
use Rattle.type_rules.specs.Rules.{Accepted}
use Rattle.type_laws.specs.States.{IsMade, RightKind, CallFits, made_by, ScriptFits}
use Rattle.type_laws.proofs.Tests.{same_is}
use Rattle.class_link.specs.Info.{own_name}
use Rattle.class_link.specs.Linking.{link}
use Rattle.class_link.specs.Symbols.{name_or_empty}
use Rattle.class_order.specs.Ranks.{HasRanks}
use Rattle.class_table.specs.declared.scripted.Call.{Call}
use Rattle.class_table.specs.declared.scripted.Test.{Test}
use Rattle.jvm_world.specs.View as view
use Rattle.test_discovery.specs.declared.fault.TestFault.{TestFault}
use Rattle.test_discovery.specs.declared.listed.Listed.{Listed}
use Rattle.test_discovery.specs.declared.marks.Marks.{Marks}
use Rattle.test_discovery.specs.declared.marks.Part.{Part}
use Rattle.test_discovery.specs.declared.marks.Part.TheVariants as part
use Rattle.test_discovery.specs.Annotations.{is_of_instance, is_of_class}
use Rattle.test_discovery.specs.Discovery.{in_order, risings, unless_refused, tests_among, Tests}
use Rattle.test_discovery.specs.Listed.{Files, listed_of, downwards}
use Rattle.test_discovery.specs.Notes.{is_text, names_text}
use Rattle.test_discovery.specs.Rules.{is_special, is_plain_constructor, makes_instance, makes_instances, first_fault, is_test_class, uses_runner, methods_fault, listed_fault, class_fault}
use Rattle.test_discovery.specs.Scripts.{has_part, kind_of, call_of, call_as, calls_as, fixture_of, make_call, script_of, test_in, test_at, tests_listed, tests_in, tests_of}
use Rattle.suite_laws.specs.Found.{AreFilesOf, ScriptsFit}
use Rattle.suite_laws.proofs.ScriptLists.{all_flat, all_unflat, all_reversed, all_unreversed, all_more, all_both, Passing, any_passing}
use Rattle.suite_laws.proofs.Placed.{placed}
use Rattle.suite_laws.proofs.Usable.{fault_none, KeepsRules, all_keep_rules, IsDeclared, IsUsable, usable}
use Rattle.suite_laws.proofs.Above.{AreRising, rising_is, listed_declared}

-- ---- calls of one kind

static_of : (s i c : Bool) → ((s && i) || (not s && c)) ≡ false → c ≡ true → s ≡ true
static_of true i c e h = refl
static_of false i c e h = absurd cc

instance_of : (s i c : Bool) → ((s && i) || (not s && c)) ≡ false → i ≡ true → s ≡ false
instance_of true i c e h = absurd (let split = or_parts i false e in let x : true ≡ false = sym h ∙ split.0 in cc)
instance_of false i c e h = refl

-- what is special by its first letter isn't ordinary
ordinary_name : (n : Name) → is_special n ≡ false → same n instance_initializer ≡ false
ordinary_name [] e = refl
ordinary_name (u ∷ us) e = ap (λ b. b && same us (codes "init>")) e

calls_class : (part : Part) (marks : Marks) → kind_of part ≡ ClassWide → has_part part marks ≡ true → is_of_class marks ≡ true
calls_class part.Before marks e h = absurd cc
calls_class part.After marks e h = absurd cc
calls_class part.BeforeAll marks e h = or_left marks.before_all marks.after_all h
calls_class part.AfterAll marks e h = or_right marks.before_all marks.after_all h

calls_instance : (part : Part) (marks : Marks) → kind_of part ≡ Around → has_part part marks ≡ true → is_of_instance marks ≡ true
calls_instance part.Before marks e h = or_left (marks.test || marks.before) marks.after (or_right marks.test marks.before h)
calls_instance part.After marks e h = or_right (marks.test || marks.before) marks.after h
calls_instance part.BeforeAll marks e h = absurd cc
calls_instance part.AfterAll marks e h = absurd cc

-- The calls of a test find their methods.
abbrev Fits : Look → Test → Type 0
Fits p t = ScriptFits p None (view.test_of t).script

-- the calls of a script, one behind the other
script_is : (a : List Call) (m : Call) (b : List Call) (t : Call) (c d : List Call) → a ++ m ∷ [] ++ b ++ t ∷ [] ++ c ++ d ≡ a ++ (m ∷ (b ++ (t ∷ (c ++ d))))
script_is a m b t c d =
    append_assoc (a ++ m ∷ [] ++ b ++ t ∷ []) c d
    ∙ append_assoc (a ++ m ∷ [] ++ b) (t ∷ []) (c ++ d)
    ∙ append_assoc (a ++ m ∷ []) b (t ∷ (c ++ d))
    ∙ append_assoc a (m ∷ []) (b ++ (t ∷ (c ++ d)))

module _ (p : Look) (root : Name) (can : Bool) where
  fits_with : (made : Option Name) (kind : CallKind) (l : Listed) (u : IsUsable p root can l) → RightKind p made kind u.placed.method l.class → CallFits p made (view.call_of (call_of kind l))
  fits_with made kind l u right = record {
    class = u.placed.class;
    place = u.placed.place;
    method = u.placed.method;
    code = u.placed.code;
    has_class = u.placed.has_class;
    found = u.placed.found;
    has_method = u.placed.has_method;
    has_code = u.placed.has_code;
    concrete = u.placed.concrete;
    no_args = u.placed.no_args;
    right_kind = right;
  }

  flagged : (l : Listed) (u : IsUsable p root can l) (b : Bool) → is_static l.flags ≡ b → is_static u.placed.method.flags ≡ b
  flagged l u b e = ap is_static u.placed.flags_are ∙ e

  no_initializer : (l : Listed) (u : IsUsable p root can l) → is_initializer u.placed.method ≡ false
  no_initializer l u = ap (λ n. same n instance_initializer) u.placed.name_is ∙ ordinary_name l.name u.ordinary

  class_fits : (made : Option Name) (l : Listed) → IsUsable p root can l → is_of_class l.marks ≡ true → CallFits p made (view.call_of (call_of ClassWide l))
  class_fits made l u h = fits_with made ClassWide l u (flagged l u true (static_of (is_static l.flags) (is_of_instance l.marks) (is_of_class l.marks) u.static h), no_initializer l u)

  made_root : (l : Listed) → IsUsable p root can l → IsMade p (Some root) l.class
  made_root l u = record { class = root; is = refl; below = u.below }

  not_static : (l : Listed) (u : IsUsable p root can l) → is_of_instance l.marks ≡ true → is_static u.placed.method.flags ≡ false
  not_static l u h = flagged l u false (instance_of (is_static l.flags) (is_of_instance l.marks) (is_of_class l.marks) u.static h)

  around_fits : (l : Listed) → IsUsable p root can l → is_of_instance l.marks ≡ true → CallFits p (Some root) (view.call_of (call_of Around l))
  around_fits l u h = fits_with (Some root) Around l u (not_static l u h, no_initializer l u, made_root l u)

  test_fits : (l : Listed) → IsUsable p root can l → is_of_instance l.marks ≡ true → CallFits p (Some root) (view.call_of (call_of TestMethod l))
  test_fits l u h = fits_with (Some root) TestMethod l u (not_static l u h, no_initializer l u, made_root l u)

  -- ---- lists of calls

  -- A call fits, and makes nothing.
  abbrev Keeps : Option Name → Call → Type 0
  Keeps made c = CallFits p made (view.call_of c) × (made_by made c.class c.kind ≡ made)

  kept_then : (made : Option Name) (cs ds : List Call) → AllByRecursion (Keeps made) cs → ScriptFits p made (map view.call_of ds) → ScriptFits p made (map view.call_of (cs ++ ds))
  kept_then made [] ds h k = k
  kept_then made (c ∷ cs) ds h k = (h.0.0, subst (λ z. ScriptFits p z (map view.call_of (cs ++ ds))) (sym h.0.1) (kept_then made cs ds h.1 k))

  kept_all : (made : Option Name) (cs : List Call) → AllByRecursion (Keeps made) cs → ScriptFits p made (map view.call_of cs)
  kept_all made [] h = tt
  kept_all made (c ∷ cs) h = (h.0.0, subst (λ z. ScriptFits p z (map view.call_of cs)) (sym h.0.1) (kept_all made cs h.1))

  -- ---- the calls of a part

  abbrev FitsPart : Option Name → Part → Type 0
  FitsPart made part = (l : Listed) → IsUsable p root can l → has_part part l.marks ≡ true → Keeps made (call_of (kind_of part) l)

  part_call : (made : Option Name) (part : Part) → FitsPart made part → (l : Listed) → IsUsable p root can l → AllByRecursion (Keeps made) (call_as part l)
  part_call made part fits l u = by_test (has_part part l.marks) refl
    where
      by_test : (b : Bool) → has_part part l.marks ≡ b → AllByRecursion (Keeps made) (if b then call_of (kind_of part) l ∷ [] else [])
      by_test true e = (fits l u e, tt)
      by_test false e = tt

  part_calls : (made : Option Name) (part : Part) → FitsPart made part → (ls : List Listed) → AllByRecursion (IsUsable p root can) ls → AllByRecursion (Keeps made) (calls_as part ls)
  part_calls made part fits ls us = all_flat (call_as part) (Keeps made) ls (all_more (IsUsable p root can) (λ l. AllByRecursion (Keeps made) (call_as part l)) (part_call made part fits) ls us)

  behind_calls : (made : Option Name) (part : Part) → FitsPart made part → (ls : List (List Listed)) → AllByRecursion (AllByRecursion (IsUsable p root can)) ls → AllByRecursion (Keeps made) (flat_map (calls_as part) ls)
  behind_calls made part fits ls us = all_flat (calls_as part) (Keeps made) ls (all_more (AllByRecursion (IsUsable p root can)) (λ l. AllByRecursion (Keeps made) (calls_as part l)) (part_calls made part fits) ls us)

  before_all_fits : FitsPart None part.BeforeAll
  before_all_fits l u h = (class_fits None l u (calls_class part.BeforeAll l.marks refl h), refl)

  before_fits : FitsPart (Some root) part.Before
  before_fits l u h = (around_fits l u (calls_instance part.Before l.marks refl h), refl)

  after_fits : FitsPart (Some root) part.After
  after_fits l u h = (around_fits l u (calls_instance part.After l.marks refl h), refl)

  after_all_fits : FitsPart (Some root) part.AfterAll
  after_all_fits l u h = (class_fits (Some root) l u (calls_class part.AfterAll l.marks refl h), refl)

  -- ---- a script

  downwards_usable : (ls : List (List Listed)) → AllByRecursion (AllByRecursion (IsUsable p root can)) ls → AllByRecursion (IsUsable p root can) (downwards ls)
  unfolding downwards
  downwards_usable ls us = all_flat (λ l. l) (IsUsable p root can) (reverse ls) (all_reversed (AllByRecursion (IsUsable p root can)) ls us)

  module _ (maker : can ≡ true → CallFits p None (view.call_of (make_call root))) (ls : List (List Listed)) (us : AllByRecursion (AllByRecursion (IsUsable p root can)) ls) where
    script_fits_one : (l : Listed) → IsUsable p root can l → l.marks.test ≡ true → ScriptFits p None (map view.call_of (script_of root (fixture_of ls) l))
    script_fits_one l u h =
        let fixture = fixture_of ls in
        let down = downwards_usable ls us in
        let instance : is_of_instance l.marks ≡ true = or_left (l.marks.test || l.marks.before) l.marks.after (or_left l.marks.test l.marks.before h) in
        subst (λ cs. ScriptFits p None (map view.call_of cs)) (sym (script_is fixture.before_all (make_call root) fixture.before (call_of TestMethod l) fixture.after fixture.after_all))
        (kept_then None fixture.before_all (make_call root ∷ (fixture.before ++ (call_of TestMethod l ∷ (fixture.after ++ fixture.after_all)))) (part_calls None part.BeforeAll before_all_fits (downwards ls) down) (
          maker u.makes_is,
          kept_then (Some root) fixture.before (call_of TestMethod l ∷ (fixture.after ++ fixture.after_all)) (part_calls (Some root) part.Before before_fits (downwards ls) down) (
            test_fits l u instance,
            kept_then (Some root) fixture.after fixture.after_all (behind_calls (Some root) part.After after_fits ls us)
                (kept_all (Some root) fixture.after_all (behind_calls (Some root) part.AfterAll after_all_fits ls us)),
          ),
        ))

    one_test : (l : Listed) → IsUsable p root can l → AllByRecursion (Fits p) (test_at root (fixture_of ls) l)
    one_test l u = by_test l.marks.test refl
      where
        by_test : (b : Bool) → l.marks.test ≡ b → AllByRecursion (Fits p) (if b then test_in root (fixture_of ls) l ∷ [] else [])
        by_test true e = (script_fits_one l u e, tt)
        by_test false e = tt

    all_tests : AllByRecursion (Fits p) (tests_listed root (fixture_of ls) (downwards ls))
    all_tests = all_flat (test_at root (fixture_of ls)) (Fits p) (downwards ls) (all_more (IsUsable p root can) (λ l. AllByRecursion (Fits p) (test_at root (fixture_of ls) l)) one_test (downwards ls) (downwards_usable ls us))

-- ---- the new instance

text_is : (o : Option Name) (wanted : Name) → is_text wanted o ≡ true → name_or_empty o ≡ wanted
text_is None wanted e = absurd cc
text_is (Some text) wanted e = same_is text wanted e

not_true : (b : Bool) → not b ≡ true → b ≡ false
not_true true e = absurd cc
not_true false e = refl

module _ (p : Look) (accepted : Accepted p) where
  initializer_fits : (c : Class) → p (own_name c) ≡ Some (link c) → Passing (makes_instance c.pool) c.methods → CallFits p None (view.call_of (make_call (own_name c)))
  initializer_fits c meant x =
      let m = x.item in
      let first = and_parts (is_plain_constructor c.pool m && not (is_static m.flags)) (not (is_abstract m.flags)) x.passes in
      let second = and_parts (is_plain_constructor c.pool m) (not (is_static m.flags)) first.0 in
      let names = and_parts (names_text c.pool m.name instance_initializer) (names_text c.pool m.desc plain_descriptor) second.0 in
      let found = placed p accepted c (own_name c) meant x.place m instance_initializer x.there (text_is (text_of c.pool m.name) instance_initializer names.0) (text_is (text_of c.pool m.desc) plain_descriptor names.1) (not_true (is_abstract m.flags) first.1) in
      record {
        class = found.class;
        place = found.place;
        method = found.method;
        code = found.code;
        has_class = found.has_class;
        found = found.found;
        has_method = found.has_method;
        has_code = found.has_code;
        concrete = found.concrete;
        no_args = found.no_args;
        right_kind = (ap is_static found.flags_are ∙ not_true (is_static m.flags) second.1, ap (λ n. same n instance_initializer) found.name_is);
      }

  maker_of : (c : Class) → p (own_name c) ≡ Some (link c) → makes_instances c ≡ true → CallFits p None (view.call_of (make_call (own_name c)))
  unfolding makes_instances
  maker_of c meant e = initializer_fits c meant (any_passing (makes_instance c.pool) c.methods e)

  -- ---- the tests of a class

  no_runner : (b : Bool) (f : TestFault) (o : Option TestFault) → (if b then Some f else o) ≡ None → o ≡ None
  no_runner true f o e = absurd cc
  no_runner false f o e = e

  all_usable : (c : Class) (ls : List (List Listed)) → AllByRecursion (AllByRecursion (IsDeclared p (own_name c))) ls → methods_fault c (downwards ls) ≡ None → AllByRecursion (AllByRecursion (IsUsable p (own_name c) (makes_instances c))) ls
  unfolding downwards
  all_usable c ls declared e =
      let kept = all_keep_rules (own_name c) (makes_instances c) (downwards ls) e in
      let by_class = all_unreversed (AllByRecursion (KeepsRules (makes_instances c))) ls (all_unflat (λ l. l) (KeepsRules (makes_instances c)) (reverse ls) kept) in
      all_both (AllByRecursion (IsDeclared p (own_name c))) (AllByRecursion (KeepsRules (makes_instances c))) (AllByRecursion (IsUsable p (own_name c) (makes_instances c)))
      (λ l d k. all_both (IsDeclared p (own_name c)) (KeepsRules (makes_instances c)) (IsUsable p (own_name c) (makes_instances c)) (usable p accepted (own_name c) (makes_instances c)) l d k)
      ls declared by_class

  class_tests : (c : Class) (ls : List (List Listed)) → p (own_name c) ≡ Some (link c) → AllByRecursion (AllByRecursion (IsDeclared p (own_name c))) ls → listed_fault c (downwards ls) ≡ None → AllByRecursion (Fits p) (tests_in c ls)
  class_tests c ls meant declared e = by_test (is_test_class c (downwards ls)) e
    where
      by_test : (b : Bool) → (if b then methods_fault c (downwards ls) else None) ≡ None → AllByRecursion (Fits p) (if b then tests_listed (own_name c) (fixture_of ls) (downwards ls) else [])
      by_test true f = all_tests p (own_name c) (makes_instances c) (maker_of c meant) ls (all_usable c ls declared f)
      by_test false f = tt

  module _ (ranks : HasRanks p) where
    rising_tests : (cs : List Class) → AreRising p cs → class_fault cs ≡ None → AllByRecursion (Fits p) (tests_of cs)
    rising_tests [] h e = tt
    rising_tests (c ∷ above) h e =
        let ls = listed_of (c ∷ above) in
        class_tests c ls h.0.meant (listed_declared p ranks (own_name c) (c ∷ above) h)
        (no_runner (uses_runner c) _ (listed_fault c (downwards ls)) e)

    all_rising : (found : List (List Class)) → AllByRecursion (AreRising p) found → AllByRecursion (λ cs. class_fault cs ≡ None) found → AllByRecursion (Fits p) (flat_map tests_of found)
    all_rising found h e = all_flat tests_of (Fits p) found (all_both (AreRising p) (λ cs. class_fault cs ≡ None) (λ cs. AllByRecursion (Fits p) (tests_of cs)) rising_tests found h e)

    among_fit : (found : List (List Class)) (tests : List Test) → AllByRecursion (AreRising p) found → tests_among found ≡ Ok tests → AllByRecursion (Fits p) tests
    among_fit found tests h e = by_fault (first_fault class_fault found) refl e
      where
        whole : first_fault class_fault found ≡ None → AllByRecursion (Fits p) (flat_map tests_of found)
        whole f = all_rising found h (fault_none class_fault found f)

        by_fault : (o : Option TestFault) → first_fault class_fault found ≡ o → unless_refused o (flat_map tests_of found) ≡ Ok tests → AllByRecursion (Fits p) tests
        by_fault None f g = let one : flat_map tests_of found ≡ tests = cc in subst (AllByRecursion (Fits p)) one (whole f)
        by_fault (Some fault) f g = absurd cc

    module _ (files : Files) (ok : AreFilesOf p files) where
      are_rising : (most : ℕ) (ordered : List (List ℕ × Name)) → AllByRecursion (AreRising p) (risings most files ordered)
      are_rising most [] = tt
      are_rising most (e ∷ ordered) = (rising_is p files ok most e.1, are_rising most ordered)

pub scripts_fit : (p : Look) (files : Files) (most : ℕ) (names : List Name) (tests : List Test) → AreFilesOf p files → HasRanks p → Accepted p → Tests most files names ≡ Ok tests → ScriptsFit p tests
scripts_fit p files most names tests ok ranks accepted e =
    All-from_recursion (λ t. ScriptFits p None (view.test_of t).script) tests
    (among_fit p accepted ranks (risings most files (in_order names)) tests (are_rising p accepted ranks files ok most (in_order names)) e)
