-- A run on the program in which a mutant's class stands edited is the one that the job asks for.
use Rattle.std.proofs.Common.{◌≡◌, ◌≢◌, ◌∙◌, sym, refl, ap, subst, ℕ, zero, suc, Bool, true, false, List, [], ◌∷◌, Option, None, Some, slice_get, slice_set}
use Rattle.std.specs.Prelude.{if◌then◌else◌, is_some, option_and_then}
use Rattle.std.specs.Option.{option_map}
use Rattle.std.specs.Cmp.Lexicographic.{same_text, other_text}
use Rattle.class_model.specs.declared.class.Class.{Class}
use Rattle.machine_rules.specs.declared.machine.Limits.{Limits}
use Rattle.program_rules.specs.Names.{Name, same}
use Rattle.program_rules.specs.Programs.{Look}
use Rattle.type_rules.specs.Faults.{Placed, class_fault}
use Rattle.class_link.specs.declared.loaded.ClassBody.TheVariants as body
use Rattle.class_link.specs.declared.loaded.Loaded.{Loaded}
use Rattle.class_link.specs.Edits.{class_edited}
use Rattle.class_link.specs.Info.{Info, body_name, own_name}
use Rattle.class_table.specs.declared.scripted.Test.{Test}
use Rattle.class_table.specs.Table.{look, names, number_of, place_in}
use Rattle.class_table.proofs.Places.{name_at_place, name_of_class, names_kept, number_named}
use Rattle.mutator_ops.specs.declared.mutant.Mutant.{Mutant}
use Rattle.mutant_apply.specs.BytesLaws.{PartsAreOfApplied}
use Rattle.mutant_apply.specs.Edited.{applied}
use Rattle.suite_jobs.specs.Below.{IsEditBy}
use Rattle.suite_jobs.specs.Below.{mutant_runs_files_of as files_of, mutant_runs_with_accepted as with_accepted, mutant_runs_with_class as with_class, mutant_runs_edited as edited, mutant_runs_viable as viable, Makes}
use Rattle.suite_jobs.specs.Below.{TellsViable}
use Rattle.suite_jobs.proofs.Below.{is_edit}
use Rattle.suite_jobs.proofs.Below.{edited_by, file_found}
use Rattle.record_rules.specs.Profiles.{Held}
use Rattle.record_rules.specs.Records.{Asked}
use Rattle.run_records.specs.Asking.{asked, bytes_of, held_by}
use Rattle.suite_jobs.specs.Below.{asked_on, put_file}
use Rattle.suite_jobs.specs.Jobs.{unless_refused, viable_file}

-- ---- one class among others

set_same : {A : Type 0} (xs : List A) (i : ℕ) (x y : A) → slice_get xs i ≡ Some x → slice_get (slice_set xs i y) i ≡ Some y
set_same [] i x y h = absurd cc
set_same (z ∷ xs) zero x y h = refl
set_same (z ∷ xs) (suc i) x y h = set_same xs i x y h

set_other : {A : Type 0} (xs : List A) (i j : ℕ) (y : A) → j ≢ i → slice_get (slice_set xs i y) j ≡ slice_get xs j
set_other [] i j y ne = refl
set_other (z ∷ xs) zero zero y ne = absurd (ne refl)
set_other (z ∷ xs) zero (suc j) y ne = refl
set_other (z ∷ xs) (suc i) zero y ne = refl
set_other (z ∷ xs) (suc i) (suc j) y ne = set_other xs i j y (λ e. ne (ap suc e))

other_number : (p : List Info) (n m : Name) (i j : ℕ) → n ≢ m → number_of p n ≡ Some j → number_of p m ≡ Some i → j ≢ i
other_number p n m i j ne at-j at-i e =
    let named : slice_get (names p) j ≡ Some n = name_at_place n j (names p) at-j in
    let there : slice_get (names p) i ≡ Some m = name_at_place m i (names p) at-i in
    let both : Some n ≡ Some m = sym named ∙ ap (slice_get (names p)) e ∙ there in
    ne (cc)

-- ---- the class files with that of the edit

other_case : (p : List Info) (id : ℕ) (new : Info) (o : Option ℕ) → ((j : ℕ) → o ≡ Some j → j ≢ id) → option_and_then (λ k. option_and_then bytes_of (slice_get (slice_set p id new) k)) o ≡ option_and_then (λ k. option_and_then bytes_of (slice_get p k)) o
other_case p id new None h = refl
other_case p id new (Some j) h = ap (option_and_then bytes_of) (set_other p id j new (h j refl))

held_case : (p : List Info) (id : ℕ) (old new : Info) (made : Class × List ℕ) (n : Name) (b : Bool) → b ≡ same n (own_name made.0) → slice_get p id ≡ Some old → number_of p (own_name made.0) ≡ Some id → bytes_of new ≡ Some made.1
    → option_and_then (λ k. option_and_then bytes_of (slice_get (slice_set p id new) k)) (number_of p n) ≡ (if b then Some made.1 else held_by p n)
held_case p id old new made n true is there number bytes =
    ap (λ m. option_and_then (λ k. option_and_then bytes_of (slice_get (slice_set p id new) k)) (number_of p m)) (same_text n (own_name made.0) is)
    ∙ ap (option_and_then (λ k. option_and_then bytes_of (slice_get (slice_set p id new) k))) number
    ∙ ap (option_and_then bytes_of) (set_same p id old new there)
    ∙ bytes
held_case p id old new made n false is there number bytes =
    other_case p id new (number_of p n) (λ j at. other_number p n (own_name made.0) id j (other_text n (own_name made.0) is) at number)

held_named : (p : List Info) (id : ℕ) (old new : Info) (made : Class × List ℕ) (n : Name) → slice_get p id ≡ Some old → number_of p (own_name made.0) ≡ Some id → new.name ≡ old.name → bytes_of new ≡ Some made.1 → held_by (slice_set p id new) n ≡ put_file made (held_by p) n
held_named p id old new made n there number name bytes =
    ap (λ ns. option_and_then (λ k. option_and_then bytes_of (slice_get (slice_set p id new) k)) (place_in ns n)) (names_kept p id old new there name)
    ∙ held_case p id old new made n (same n (own_name made.0)) refl there number bytes

held_with : (p : List Info) (id : ℕ) (old new : Info) (made : Class × List ℕ) → slice_get p id ≡ Some old → number_of p (own_name made.0) ≡ Some id → new.name ≡ old.name → bytes_of new ≡ Some made.1 → held_by (slice_set p id new) ≡ put_file made (held_by p)
held_with p id old new made there number name bytes = λ i n. held_named p id old new made n there number name bytes i

-- ---- the class file of a viable mutant

-- What the class file of a viable mutant is: its edit makes it, and no method of its class is refused.
pub record IsViable (p : List Info) (m : Mutant) (made : Class × List ℕ) : Type 0 where
  pub applies : option_and_then (λ c. applied c m.edit) (files_of p m.class) ≡ Some made
  pub accepted : class_fault (with_class made.0 (look p)) m.class ≡ None

refused_case : (p : List Info) (m : Mutant) (k made : Class × List ℕ) (o : Option Placed) → class_fault (with_class k.0 (look p)) m.class ≡ o → (if is_some o then None else Some k) ≡ Some made → (k ≡ made) × (class_fault (with_class k.0 (look p)) m.class ≡ None)
refused_case p m k made None e f = (cc, e)
refused_case p m k made (Some fault) e f = absurd cc

viable_case : (p : List Info) (m : Mutant) (made : Class × List ℕ) (o : Option (Class × List ℕ)) → option_and_then (λ c. applied c m.edit) (files_of p m.class) ≡ o → option_and_then (unless_refused p m) o ≡ Some made → IsViable p m made
viable_case p m made None e f = absurd cc
viable_case p m made (Some k) e f =
    let w = refused_case p m k made (class_fault (with_class k.0 (look p)) m.class) refl f in
    subst (IsViable p m) w.0 (record { applies = e; accepted = w.1 })

pub is_viable : (p : List Info) (m : Mutant) (made : Class × List ℕ) → viable_file p m ≡ Some made → IsViable p m made
is_viable p m made e = viable_case p m made (option_and_then (λ c. applied c m.edit) (files_of p m.class)) refl e

fault_case : (q : Look) (o : Option Placed) → o ≡ None → (if is_some o then None else Some q) ≡ Some q
fault_case q None e = refl
fault_case q (Some fault) e = absurd cc

-- So it is viable.
pub tells_viable : (p : List Info) (m : Mutant) (made : Class × List ℕ) → viable_file p m ≡ Some made → TellsViable p m true
tells_viable p m made e =
    let v = is_viable p m made e in
    let is : viable (files_of p) (look p) m ≡ Some (with_class made.0 (look p)) =
    ap (λ o. option_and_then (with_accepted m.class) (option_map (λ (k : Class × List ℕ). with_class k.0 (look p)) o)) v.applies
    ∙ fault_case (with_class made.0 (look p)) (class_fault (with_class made.0 (look p)) m.class) v.accepted in
    ap (λ (o : Option Look). is_some o) (sym is)

-- Its edit has a layout.
pub has_edit : (p : List Info) (m : Mutant) (made : Class × List ℕ) → viable_file p m ≡ Some made → is_some (edited (files_of p) (look p) m) ≡ true
has_edit p m made e = ap (λ o. is_some (option_map (λ (k : Class × List ℕ). with_class k.0 (look p)) o)) (is_viable p m made e).applies

-- ---- the run

-- What is asked for: the program and its class files.
pub record IsEditedProgram (p q : List Info) (m : Mutant) (made : Class × List ℕ) (new : Info) : Type 0 where
  pub look_is : look q ≡ with_class made.0 (look p)
  pub held_is : held_by q ≡ put_file made (held_by p)
  pub name : own_name made.0 ≡ m.class
  pub bytes : bytes_of new ≡ Some made.1

module _ (law : PartsAreOfApplied) (p : List Info) (m : Mutant) (made : Class × List ℕ) (id : ℕ) (new : Info) (makes : Makes p m id new) (by : IsEditBy p m id new) (viable : viable_file p m ≡ Some made) where
  file : files_of p m.class ≡ Some by.loaded.class
  file = file_found p m.class id by.old by.loaded by.number by.there by.original

  made_is : (class_edited by.file, by.file.bytes) ≡ made
  made_is =
      let edit = is_edit law by.loaded m.edit by.file by.made in
      let one : option_and_then (λ c. applied c m.edit) (files_of p m.class) ≡ Some (class_edited by.file, by.file.bytes) = ap (option_and_then (λ c. applied c m.edit)) file ∙ edit.applied in
      let two = (is_viable p m made viable).applies in
      let both : Some (class_edited by.file, by.file.bytes) ≡ Some made = sym one ∙ two in
      cc

  own : own_name made.0 ≡ m.class
  own =
      ap (λ (k : Class × List ℕ). own_name k.0) (sym made_is)
      ∙ sym (by.meant.name ∙ ap body_name by.edited)
      ∙ makes.put.alike.name
      ∙ old_name
    where
      old_name : makes.old.name ≡ m.class
      old_name = sym (name_of_class p id makes.old makes.put.there) ∙ number_named p m.class id by.number

  pub program_edited : IsEditedProgram p (slice_set p id new) m made new
  program_edited =
      let program : Some (look (slice_set p id new)) ≡ Some (with_class made.0 (look p)) =
      sym makes.program ∙ ap (option_map (λ (k : Class × List ℕ). with_class k.0 (look p))) (is_viable p m made viable).applies in
      let number : number_of p (own_name made.0) ≡ Some id = ap (number_of p) own ∙ by.number in
      let bytes : bytes_of new ≡ Some made.1 = ap (λ b. bytes_of (record new { body = b })) by.edited ∙ ap (λ (k : Class × List ℕ). Some k.1) made_is in
      let held = held_with p id makes.old new made makes.put.there number makes.put.alike.name bytes in
      record {
        look_is = cc;
        held_is = held;
        name = own;
        bytes = bytes;
      }

  pub asked_edited : (t : Test) (q : Limits) (limit : ℕ) → asked (slice_set p id new) t q limit ≡ asked_on (with_class made.0 (look p)) (put_file made (held_by p)) t q limit
  asked_edited t q limit =
      let e = program_edited in
      ap (λ (w : Look). asked_on w (held_by (slice_set p id new)) t q limit) e.look_is
      ∙ ap (λ (h : Held). asked_on (with_class made.0 (look p)) h t q limit) e.held_is
