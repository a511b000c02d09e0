-- The class that a mutant's edit makes is judged by the edited method alone.
use Rattle.std.proofs.Common.{◌≡◌, ◌∙◌, sym, refl, ap, subst, ℕ, Bool, true, false, List, Option, None, Some, slice_get, slice_set}
use Rattle.std.specs.Prelude.{if◌then◌else◌, is_none, is_some, option_and_then}
use Rattle.std.specs.Option.{option_map}
use Rattle.std.proofs.lemmas.Option.{slice_get-map}
use Rattle.class_model.specs.declared.class.Class.{Class}
use Rattle.class_model.specs.declared.edit.Edit.{Edit}
use Rattle.program_rules.specs.Linked.{Linked}
use Rattle.program_rules.specs.Linked as rules
use Rattle.program_rules.specs.Programs.{Look}
use Rattle.type_laws.specs.Alike.{HeadsAlike}
use Rattle.type_rules.specs.Faults.{Placed, class_fault}
use Rattle.type_rules.specs.References.{classes_of}
use Rattle.type_rules.specs.Rules.{MethodFault, method_fault}
use Rattle.class_link.specs.declared.linked.LinkedClass.{LinkedClass}
use Rattle.class_link.specs.declared.linked.LinkedMethod.{LinkedMethod}
use Rattle.class_link.specs.declared.loaded.EditedFile.{EditedFile}
use Rattle.class_link.specs.declared.loaded.Loaded.{Loaded}
use Rattle.class_link.specs.Info.{Info, IsInfo, link_body, class_of}
use Rattle.class_link.specs.Linking.{link}
use Rattle.class_link.specs.View.{linked_of, method_of}
use Rattle.class_table.specs.Table.{place_in, number_of, name_at, class_at, look, IsProgram}
use Rattle.class_table.proofs.Places.{name_of_class, number_named, names_kept, look_at}
use Rattle.method_laws.specs.Methods.{DiffersAt, fault_at, EditsAreJudgedByMethod, MethodsStayFirst}
use Rattle.mutant_apply.specs.BytesLaws.{PartsAreOfApplied}
use Rattle.mutant_apply.specs.Spliced.{parts_and_bytes}
use Rattle.mutant_apply.specs.declared.parts.Parts.{Parts}
use Rattle.mutator_ops.specs.declared.mutant.Mutant.{Mutant}
use Rattle.type_verifier.specs.declared.pass.Fault.{Fault}
use Rattle.type_verifier.specs.OneMethod.{FaultIfFirst, MethodFaultIs}
use Rattle.type_verifier.specs.Passes.{fault_of}
use Rattle.mutant_runs.specs.Edited.{IsEditBy}
use Rattle.mutant_runs.specs.Files.{edited_file, made_file}
use Rattle.mutant_runs.specs.Judged.{EditsDifferInOne, EditsAreJudged, IsJudgedByMethod}
use Rattle.mutant_runs.specs.Laws.{EntriesAddAlone}
use Rattle.mutant_runs.specs.Programs.{files_of, with_accepted, viable, IsMutantOf, Makes}
use Rattle.mutant_runs.specs.Promises.{TellsViable}
use Rattle.mutant_runs.specs.Put.{IsEditOf, IsPut, EditsArePut, PutStayAlike}
use Rattle.mutant_runs.specs.Ready.{IsReady}
use Rattle.mutant_runs.proofs.Codes.{method_seen}
use Rattle.mutant_runs.proofs.ProgramLaws.{edit_of, set_same}
use Rattle.mutant_runs.proofs.Putting.{all_at}

-- ---- the edited method

method_case : (l : Loaded) (edit : Edit) (o : Option (Parts × List ℕ)) (e : EditedFile) → option_map (edited_file l edit) o ≡ Some e → e.method ≡ edit.method
method_case l edit None e h = absurd cc
method_case l edit (Some made) e h = let same : edited_file l edit made ≡ e = cc in ap (λ (x : EditedFile). x.method) (sym same)

method_is : (l : Loaded) (edit : Edit) (e : EditedFile) → made_file l edit ≡ Some e → e.method ≡ edit.method
method_is l edit e h = method_case l edit (parts_and_bytes l.class edit) e h

of_file : (c : Class) → (link c).library ≡ false
unfolding link
of_file c = refl

-- ---- the class

module _ (law : EditsAreJudgedByMethod) (first : MethodsStayFirst) (alike : PutStayAlike) (put : EditsArePut) (differ : EditsDifferInOne) (parts : PartsAreOfApplied) (alone : EntriesAddAlone) where
  pub judged : EditsAreJudged
  judged p m id new ok ready fit by = record {
    fault = law (look p) (look (slice_set p id new)) m.class (class_of by.old) (class_of new) m.edit.method heads here there library differs (ready.accepted m.class);
    first = λ x at. first (look p) m.class (class_of by.old) (class_of new) m.edit.method x here library (ready.accepted m.class) differs.alike at;
  }
    where
      is : IsEditOf p id by.file by.old new
      is = edit_of parts alone p m id new fit by

      is_put : IsPut p id by.old new
      is_put = put p id by.file by.old new ok is

      heads : HeadsAlike (look p) (look (slice_set p id new))
      heads = (alike p id by.old new is_put).heads

      here : look p m.class ≡ Some (class_of by.old)
      here = ap (look p) (sym (number_named p m.class id by.number)) ∙ look_at p id by.old ok.distinct by.there

      there : look (slice_set p id new) m.class ≡ Some (class_of new)
      there =
          ap (λ ns. option_and_then (class_at (slice_set p id new)) (place_in ns m.class)) (names_kept p id by.old new by.there is_put.alike.name)
          ∙ ap (option_and_then (class_at (slice_set p id new))) by.number ∙ ap (option_map class_of) (set_same p id by.old new by.there)

      old_info : IsInfo by.old
      old_info = all_at IsInfo p id by.old ok.meant by.there

      library : (class_of by.old).library ≡ false
      library = ap (λ (c : Linked). c.library) (old_info.linked ∙ ap link_body by.original) ∙ of_file by.loaded.class

      differs : DiffersAt m.edit.method (class_of by.old) (class_of new)
      differs = subst (λ k. DiffersAt k (class_of by.old) (class_of new)) (method_is by.loaded m.edit by.file by.made) (differ p id by.file by.old new ok is)

-- ---- whether the mutant is viable

some_by : (o : Option Placed) (p : Look) → is_some (if is_some o then None else Some p) ≡ is_none o
some_by None p = refl
some_by (Some f) p = refl

none_placed : (k : ℕ) (o : Option MethodFault) → (let placed : Option Placed = option_map (λ f. (k, f)) o in is_none placed) ≡ is_none o
none_placed k None = refl
none_placed k (Some f) = refl

none_found : (r : Option Fault) → is_none (fault_of r) ≡ is_none r
none_found None = refl
none_found (Some f) = refl

none_seen : (c : LinkedClass) (k : ℕ) → slice_get c.methods k ≡ None → slice_get (linked_of c).methods k ≡ None
unfolding linked_of
none_seen c k at = slice_get-map (method_of c.entries) c.methods k ∙ ap (option_map (method_of c.entries)) at

module _ (p : List Info) (m : Mutant) (id : ℕ) (new : Info) (made : Makes p m id new) (is : IsJudgedByMethod p m id new) where
  pub named : new.name ≡ m.class
  named = made.put.alike.name ∙ sym (name_of_class p id made.old made.put.there) ∙ made.name

  abbrev fault : Option MethodFault
  fault = fault_at (classes_of (look p)) m.class (class_of new) m.edit.method

  viable_by : is_some (viable (files_of p) (look p) m) ≡ is_none fault
  viable_by =
      ap (λ (o : Option Look). is_some (option_and_then (with_accepted m.class) o)) made.program
      ∙ some_by (class_fault (look (slice_set p id new)) m.class) (look (slice_set p id new))
      ∙ ap (λ (o : Option Placed). is_none o) is.fault ∙ none_placed m.edit.method fault

  fault_by : (o : Option LinkedMethod) (r : Option Fault) → slice_get new.linked.methods m.edit.method ≡ o → FaultIfFirst p new.name new.linked m.edit.method o r → is_none fault ≡ is_none r
  fault_by None r at h =
      ap (λ (o : Option rules.LinkedMethod). is_none (option_and_then (method_fault (classes_of (look p)) m.class (class_of new) m.edit.method) o)) (none_seen new.linked m.edit.method at)
      ∙ sym (ap (λ (o : Option Fault). is_none o) h)
  fault_by (Some x) r at h =
      let seen = method_seen new.linked m.edit.method x at in
      ap (λ (o : Option rules.LinkedMethod). is_none (option_and_then (method_fault (classes_of (look p)) m.class (class_of new) m.edit.method) o)) seen
      ∙ ap (λ n. is_none (method_fault (classes_of (look p)) n (class_of new) m.edit.method (method_of new.linked.entries x))) (sym named)
      ∙ ap (λ (o : Option MethodFault). is_none o) (h (is.first (method_of new.linked.entries x) seen)) ∙ none_found r

  pub viable_told : (r : Option Fault) → MethodFaultIs p new m.edit.method r → TellsViable p m (is_none r)
  viable_told r h = sym (viable_by ∙ fault_by (slice_get new.linked.methods m.edit.method) r refl h)
