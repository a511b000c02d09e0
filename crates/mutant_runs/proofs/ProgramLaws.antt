-- A program with an edited class in the place of the one that it was made of, and the way back.
use Rattle.std.proofs.Common.{◌≡◌, ◌≢◌, ◌∙◌, sym, refl, ap, subst, ℕ, zero, suc, Bool, true, false, List, [], ◌∷◌, Option, None, Some, slice_get, slice_set, IsSomeAnd, arith}
use Rattle.std.specs.Prelude.{if◌then◌else◌, option_and_then, IfSome}
use Rattle.std.specs.Option.{option_map}
use Rattle.std.specs.Cmp.Lexicographic.{same_text, other_text}
use Rattle.std.proofs.lemmas.List.{length-map}
use Rattle.std.proofs.lemmas.Option.{slice_get_within}
use Rattle.class_model.specs.declared.class.Class.{Class}
use Rattle.class_writer.specs.Writing.{HasClassForm}
use Rattle.program_rules.specs.Names.{Name, same}
use Rattle.class_link.specs.declared.loaded.Loaded.{Loaded}
use Rattle.class_link.specs.declared.loaded.ClassBody.TheVariants as body
use Rattle.class_link.specs.Edits.{class_edited}
use Rattle.class_link.specs.Info.{Info, own_name, body_name, link_body, class_of, file_in}
use Rattle.class_link.specs.Linking.{link}
use Rattle.class_table.specs.Table.{place_in, names, number_of, name_at, class_at, look, AreDistinct, IsAlike, CanSwap}
use Rattle.class_table.proofs.Places.{name_at_place, name_of_class, number_named, names_kept}
use Rattle.class_reader.specs.Spells.{IsClass, Spells, class_bytes}
use Rattle.mutant_runs.specs.Codes.{IsSpelledBody, SpelledAreBounded}
use Rattle.mutant_runs.specs.Put.{IsPut, IsEditOf, EditsArePut}
use Rattle.mutant_apply.specs.Spelled.{EditsAreSpelled}
use Rattle.mutant_apply.specs.BytesLaws.{PartsAreOfApplied}
use Rattle.mutant_apply.specs.Edited.{applied}
use Rattle.mutant_apply.specs.Fitting.{Fits}
use Rattle.mutator_ops.specs.declared.mutant.Mutant.{Mutant}
use Rattle.mutant_runs.specs.Edited.{IsEditBy, EditsMake}
use Rattle.mutant_runs.specs.Laws.{EntriesAddAlone}
use Rattle.mutant_runs.specs.Programs.{files_of, with_class, edited, IsMutantOf, Makes}
use Rattle.mutant_runs.proofs.EditLaws.{IsEdit, is_edit}

-- ---- an item of a list, exchanged

pub set_same : {A : Type 0} (xs : List A) (i : ℕ) (x y : A) → slice_get xs i ≡ Some x → slice_get (slice_set xs i y) i ≡ Some y
set_same [] i x y h = absurd cc
set_same (z ∷ xs) zero x y h = refl
set_same (z ∷ xs) (suc i) x y h = set_same xs i x y h

set_other : {A : Type 0} (xs : List A) (i j : ℕ) (y : A) → j ≢ i → slice_get (slice_set xs i y) j ≡ slice_get xs j
set_other [] i j y ne = refl
set_other (z ∷ xs) zero zero y ne = absurd (ne refl)
set_other (z ∷ xs) zero (suc j) y ne = refl
set_other (z ∷ xs) (suc i) zero y ne = refl
set_other (z ∷ xs) (suc i) (suc j) y ne = set_other xs i j y (λ e. ne (ap suc e))

pub set_back : {A : Type 0} (xs : List A) (i : ℕ) (x y : A) → slice_get xs i ≡ Some x → slice_set (slice_set xs i y) i x ≡ xs
set_back [] i x y h = refl
set_back (z ∷ xs) zero x y h = let same : x ≡ z = cc in ap (λ w. w ∷ xs) same
set_back (z ∷ xs) (suc i) x y h = ap (λ l. z ∷ l) (set_back xs i x y h)

-- ---- what a name means afterwards

-- Another number than that of the class has another name.
other_number : (p : List Info) (n m : Name) (i j : ℕ) → n ≢ m → number_of p n ≡ Some j → number_of p m ≡ Some i → j ≢ i
other_number p n m i j ne at-j at-i e =
    let named : slice_get (names p) j ≡ Some n = name_at_place n j (names p) at-j in
    let there : slice_get (names p) i ≡ Some m = name_at_place m i (names p) at-i in
    let both : Some n ≡ Some m = sym named ∙ ap (slice_get (names p)) e ∙ there in
    ne (cc)

other_case : (p : List Info) (id : ℕ) (new : Info) (o : Option ℕ) → ((j : ℕ) → o ≡ Some j → j ≢ id) → option_and_then (class_at (slice_set p id new)) o ≡ option_and_then (class_at p) o
other_case p id new None h = refl
other_case p id new (Some j) h = ap (option_map class_of) (set_other p id j new (h j refl))

named_case : (p : List Info) (id : ℕ) (old new : Info) (c : Class) (n : Name) (b : Bool) → b ≡ same n (own_name c) → slice_get p id ≡ Some old → number_of p (own_name c) ≡ Some id → class_of new ≡ link c
    → option_and_then (class_at (slice_set p id new)) (number_of p n) ≡ (if b then Some (link c) else look p n)
named_case p id old new c n true is h number class =
    ap (λ m. option_and_then (class_at (slice_set p id new)) (number_of p m)) (same_text n (own_name c) is) ∙ ap (option_and_then (class_at (slice_set p id new))) number ∙ ap (option_map class_of) (set_same p id old new h) ∙ ap Some class
named_case p id old new c n false is h number class = other_case p id new (number_of p n) (λ j at. other_number p n (own_name c) id j (other_text n (own_name c) is) at number)

look_named : (p : List Info) (id : ℕ) (old new : Info) (c : Class) (n : Name) → slice_get p id ≡ Some old → number_of p (own_name c) ≡ Some id → new.name ≡ old.name → class_of new ≡ link c → look (slice_set p id new) n ≡ with_class c (look p) n
look_named p id old new c n h number name class =
    ap (λ ns. option_and_then (class_at (slice_set p id new)) (place_in ns n)) (names_kept p id old new h name) ∙ named_case p id old new c n (same n (own_name c)) refl h number class

-- Each name means what it did but that of the class.
look_with : (p : List Info) (id : ℕ) (old new : Info) (c : Class) → slice_get p id ≡ Some old → number_of p (own_name c) ≡ Some id → new.name ≡ old.name → class_of new ≡ link c → look (slice_set p id new) ≡ with_class c (look p)
look_with p id old new c h number name class = λ i n. look_named p id old new c n h number name class i

-- ---- which class file a mutant's class has

pub number_at : (p : List Info) (i : ℕ) (x : Info) → AreDistinct (names p) → slice_get p i ≡ Some x → number_of p (name_at p i) ≡ Some i
number_at p i x distinct h = let lt = slice_get_within p i x h in distinct i (omega (arith, lt, length-map p (λ (y : Info). y.name)))

pub file_at : (p : List Info) (n : Name) (id : ℕ) (i : Info) → number_of p n ≡ Some id → slice_get p id ≡ Some i → files_of p n ≡ file_in i
file_at p n id i number place = ap (option_and_then (λ k. option_and_then file_in (slice_get p k))) number ∙ ap (option_and_then file_in) place

pub file_found : (p : List Info) (n : Name) (id : ℕ) (i : Info) (l : Loaded) → number_of p n ≡ Some id → slice_get p id ≡ Some i → i.body ≡ body.File l → files_of p n ≡ Some l.class
file_found p n id i l number place is = file_at p n id i number place ∙ ap (λ b. file_in (record i { body = b })) is

pub no_class : (p : List Info) (m : Mutant) → number_of p m.class ≡ None → edited (files_of p) (look p) m ≡ None
no_class p m h = ap (λ o. option_map (λ made. with_class made.0 (look p)) (option_and_then (λ c. applied c m.edit) (option_and_then (λ k. option_and_then file_in (slice_get p k)) o))) h

pub no_file : (p : List Info) (m : Mutant) → files_of p m.class ≡ None → edited (files_of p) (look p) m ≡ None
no_file p m h = ap (λ o. option_map (λ made. with_class made.0 (look p)) (option_and_then (λ c. applied c m.edit) o)) h

pub edited_by : (p : List Info) (m : Mutant) (c : Class) (o : Option (Class × List ℕ)) → files_of p m.class ≡ Some c → applied c m.edit ≡ o → edited (files_of p) (look p) m ≡ option_map (λ made. with_class made.0 (look p)) o
edited_by p m c o file is = ap (λ f. option_map (λ made. with_class made.0 (look p)) (option_and_then (λ c. applied c m.edit) f)) file ∙ ap (option_map (λ made. with_class made.0 (look p))) is

pub of_file : (p : List Info) (m : Mutant) (c : Class) → files_of p m.class ≡ Some c → IsMutantOf (files_of p) m → HasClassForm c × Fits c m.edit × IsClass c
of_file p m c file h = let P : Option Class → Type 0 = λ o. IfSome o (λ c. HasClassForm c × Fits c m.edit × IsClass c) in subst P file h

-- ---- the class that an edit makes

-- Its class file is of an edit that adds entries alone.
module _ (parts : PartsAreOfApplied) (alone : EntriesAddAlone) (p : List Info) (m : Mutant) (id : ℕ) (new : Info) (fit : IsMutantOf (files_of p) m) (by : IsEditBy p m id new) where
  pub file_known : HasClassForm by.loaded.class × Fits by.loaded.class m.edit × IsClass by.loaded.class
  file_known = of_file p m by.loaded.class (file_found p m.class id by.old by.loaded by.number by.there by.original) fit

  pub edit_known : IsEdit by.loaded m.edit by.file
  edit_known = is_edit parts by.loaded m.edit by.file by.made

  pub edit_of : IsEditOf p id by.file by.old new
  edit_of = record {
    there = by.there;
    file = by.original ∙ ap body.File (sym edit_known.original);
    edited = by.edited;
    alone = alone by.file (subst (λ (x : Loaded). HasClassForm x.class) (sym edit_known.original) file_known.0) (subst (λ (x : Loaded). IsClass x.class) (sym edit_known.original) file_known.2);
    meant = by.meant;
  }

module _ (parts : PartsAreOfApplied) (alone : EntriesAddAlone) (put : EditsArePut) (spelled : EditsAreSpelled) (bounded : SpelledAreBounded) where
  pub made_by : EditsMake
  made_by p m id new ok fit by = record {
    old = by.old;
    put = is_put;
    name = name_of_class p id by.old by.there ∙ old_name;
    bounded = bounded new.body (subst IsSpelledBody (sym by.edited) made_spelled.form);
    program = edited_by p m l.class (Some made) file edit.applied ∙ ap Some (sym looks);
  }
    where
      l : Loaded
      l = by.loaded

      made : Class × List ℕ
      made = (class_edited by.file, by.file.bytes)

      file : files_of p m.class ≡ Some l.class
      file = file_found p m.class id by.old l by.number by.there by.original

      known : HasClassForm l.class × Fits l.class m.edit × IsClass l.class
      known = file_known parts alone p m id new fit by

      edit : IsEdit l m.edit by.file
      edit = edit_known parts alone p m id new fit by

      is_put : IsPut p id by.old new
      is_put = put p id by.file by.old new ok (edit_of parts alone p m id new fit by)

      made_spelled : Spells by.file.bytes (class_edited by.file)
      made_spelled = spelled (class_bytes l.class) l.class m.edit made (record { form = known.2; text = refl }) known.1 edit.applied

      old_name : by.old.name ≡ m.class
      old_name = sym (name_of_class p id by.old by.there) ∙ number_named p m.class id by.number

      own : own_name (class_edited by.file) ≡ m.class
      own = sym (by.meant.name ∙ ap body_name by.edited) ∙ is_put.alike.name ∙ old_name

      looks : look (slice_set p id new) ≡ with_class (class_edited by.file) (look p)
      looks = look_with p id by.old new (class_edited by.file) by.there (ap (number_of p) own ∙ by.number) is_put.alike.name (by.meant.linked ∙ ap link_body by.edited)

-- ---- the way back

can_swap : (p : List Info) (id : ℕ) (old new : Info) → slice_get p id ≡ Some old → IsAlike old new → CanSwap p id new
can_swap p id old new place like =
    let P : Option Info → Type 0 = λ o. IsSomeAnd o (λ x. IsAlike x new) in
    subst P (sym place) like

pub makes_swap : (p : List Info) (m : Mutant) (id : ℕ) (new : Info) → Makes p m id new → CanSwap p id new
makes_swap p m id new made = can_swap p id made.old new made.put.there made.put.alike

pub makes_swap_back : (p : List Info) (m : Mutant) (id : ℕ) (old new : Info) → Makes p m id new → slice_get p id ≡ Some old → CanSwap (slice_set p id new) id old
makes_swap_back p m id old new made place =
    let both : Some old ≡ Some made.old = sym place ∙ made.put.there in
    let like : IsAlike old new = subst (λ x. IsAlike x new) (let same : made.old ≡ old = cc in same) made.put.alike in
    can_swap (slice_set p id new) id new old (set_same p id old new place)
    (record { old_file = like.new_file; new_file = like.old_file; name = sym like.name; parent = sym like.parent; interfaces = sym like.interfaces })
