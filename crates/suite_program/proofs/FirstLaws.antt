-- The first fault of all, by the steps to a program, and that a program without one is ready.
use Rattle.std.proofs.Common.{◌≡◌, ◌∙◌, List, Option, Some, None, sym, ap}
use Rattle.std.specs.Option.{option_or}
use Rattle.class_model.specs.declared.class.Class.{Class}
use Rattle.class_link.specs.declared.loaded.Loaded.{Loaded}
use Rattle.class_link.specs.Info.{Info}
use Rattle.class_table.specs.Table.{look, names}
use Rattle.type_rules.specs.Rules.{Accepted}
use Rattle.mutant_runs.specs.Ready.{IsReady}
use Rattle.suite_program.specs.Building.{table_fault, first_in, IsBuilt}
use Rattle.suite_program.specs.Faults.{duplicate_of, super_fault, first_fault, first_refused}
use Rattle.library_laws.specs.Beside.{program_of}
use Rattle.suite_program.specs.Programs.{classes_in, names_in}
use Rattle.suite_program.specs.declared.fault.ProgramFault.{ProgramFault}
use Rattle.suite_program.proofs.WholeLaws.{is_whole}

none_of_all : {X : Type 0} (a b c : Option X) → option_or a b ≡ None → c ≡ None → option_or a (option_or b c) ≡ None
none_of_all None None c e h = h
none_of_all None (Some y) c e h = absurd cc
none_of_all (Some x) b c e h = absurd cc

one_of_two : {X : Type 0} (a b c : Option X) (f : X) → option_or a b ≡ Some f → option_or a (option_or b c) ≡ Some f
one_of_two None None c f e = absurd cc
one_of_two None (Some y) c f e = e
one_of_two (Some x) b c f e = e

last_of_all : {X : Type 0} (a b c : Option X) (f : X) → option_or a b ≡ None → c ≡ Some f → option_or a (option_or b c) ≡ Some f
last_of_all None None c f e h = h
last_of_all None (Some y) c f e h = absurd cc
last_of_all (Some x) b c f e h = absurd cc

-- The first fault of names and supers is the first one.
pub first_of_table : (classes : List Class) (f : ProgramFault) → table_fault classes ≡ Some f → first_fault classes ≡ Some f
unfolding first_fault
first_of_table classes f e =
    let ns = names_in classes in
    let q = program_of classes in
    one_of_two (duplicate_of ns) (super_fault q ns) (first_refused q ns) f e

module _ (classes : List Loaded) (p : List Info) (built : IsBuilt classes p) where
  abbrev found : Option ProgramFault
  found = duplicate_of (names_in (classes_in classes))

  abbrev above : Option ProgramFault
  above = super_fault (program_of (classes_in classes)) (names_in (classes_in classes))

  abbrev code : Option ProgramFault
  code = first_refused (program_of (classes_in classes)) (names_in (classes_in classes))

  same_code : code ≡ first_in p
  same_code = sym (ap (λ q. first_refused q (names p)) built.program ∙ ap (first_refused (program_of (classes_in classes))) built.names)

  pub first_none : first_in p ≡ None → first_fault (classes_in classes) ≡ None
  unfolding first_fault
  first_none e = none_of_all found above code built.faultless (same_code ∙ e)

  pub first_of_code : (f : ProgramFault) → first_in p ≡ Some f → first_fault (classes_in classes) ≡ Some f
  unfolding first_fault
  first_of_code f e = last_of_all found above code f built.faultless (same_code ∙ e)

  pub is_ready : Accepted (look p) → IsReady p
  is_ready accepted =
      record {
        kinds = built.kinds;
        accepted = accepted;
        bounded = built.bounded;
        whole = is_whole p (classes_in classes) built.program;
      }
