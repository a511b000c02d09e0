-- One class of a program in the place of another one of its name, flags, superclass and interfaces.
use Rattle.std.proofs.Common.{◌≡◌, ◌≢◌, ◌∙◌, sym, refl, ap, subst, ℕ, zero, suc, false, List, [], ◌∷◌, Option, None, Some, slice_get, slice_set, All, IsSomeAnd, arith}
use Rattle.std.specs.Prelude.{option_and_then}
use Rattle.std.specs.Option.{option_map}
use Rattle.std.specs.Cmp.Lexicographic.{other_text}
use Rattle.std.proofs.lemmas.Option.{slice_get-map}
use Rattle.program_rules.specs.Names.{Name, same}
use Rattle.program_rules.specs.Linked.{Linked}
use Rattle.class_link.specs.declared.loaded.EditedFile.{EditedFile}
use Rattle.class_link.specs.Edits.{class_added, class_edited}
use Rattle.class_link.specs.Info.{Info, IsInfo, body_name, link_body, class_of}
use Rattle.class_link.specs.Linking.{link}
use Rattle.class_table.specs.Table.{place_in, names, number_of, class_at, look, IsFile, IsAlike}
use Rattle.class_table.proofs.Places.{name_at_place, names_kept}
use Rattle.type_laws.specs.Alike.{head_of}
use Rattle.mutant_runs.specs.Put.{IsPut, EditsArePut, PutStayAlike}

abbrev pub Head : Type 0
Head = Option (ℕ × Option Name × List Name)

abbrev head_with : ℕ → Option Name → List Name → Head
head_with flags parent interfaces = Some (flags, parent, interfaces)

pub all_at : {A : Type 0} (P : A → Type 0) (xs : List A) (k : ℕ) (x : A) → All P xs → slice_get xs k ≡ Some x → P x
all_at P [] k x a h = cc
all_at P (y ∷ ys) zero x a h =
    let same : y ≡ x = cc in
    subst P same (a 0 y (omega arith))
all_at P (y ∷ ys) (suc k) x a h = all_at P ys k x (λ j d l. a (suc j) d (omega (arith, l))) h

-- ---- the class of an edit

flags_kept : (e : EditedFile) → (link (class_edited e)).flags ≡ (link e.original.class).flags
unfolding link
flags_kept e = refl

parent_added : (e : EditedFile) → (link (class_edited e)).parent ≡ (link (class_added e)).parent
unfolding link
parent_added e = refl

interfaces_added : (e : EditedFile) → (link (class_edited e)).interfaces ≡ (link (class_added e)).interfaces
unfolding link
interfaces_added e = refl

pub edits_put : EditsArePut
edits_put p id e old new ok is =
    let old_info : IsInfo old = all_at IsInfo p id old ok.meant is.there in
    let old_class : class_of old ≡ link e.original.class = old_info.linked ∙ ap link_body is.file in
    let new_class : class_of new ≡ link (class_edited e) = is.meant.linked ∙ ap link_body is.edited in
    record {
      there = is.there;
      alike = record {
        old_file = subst IsFile (sym is.file) tt;
        new_file = subst IsFile (sym is.edited) tt;
        name = is.meant.name ∙ ap body_name is.edited ∙ is.alone.name ∙ sym (old_info.name ∙ ap body_name is.file);
        parent = ap (λ (c : Linked). c.parent) new_class ∙ parent_added e ∙ ap (λ (c : Linked). c.parent) is.alone.rest ∙ sym (ap (λ (c : Linked). c.parent) old_class);
        interfaces = ap (λ (c : Linked). c.interfaces) new_class ∙ interfaces_added e ∙ ap (λ (c : Linked). c.interfaces) is.alone.rest ∙ sym (ap (λ (c : Linked). c.interfaces) old_class);
      };
      flags = ap (λ (c : Linked). c.flags) new_class ∙ flags_kept e ∙ sym (ap (λ (c : Linked). c.flags) old_class);
      meant = is.meant;
    }

-- ---- an item of a list, exchanged

pub set_same : {A : Type 0} (xs : List A) (i : ℕ) (x y : A) → slice_get xs i ≡ Some x → slice_get (slice_set xs i y) i ≡ Some y
set_same [] i x y h = absurd cc
set_same (z ∷ xs) zero x y h = refl
set_same (z ∷ xs) (suc i) x y h = set_same xs i x y h

set_other : {A : Type 0} (xs : List A) (i j : ℕ) (y : A) → j ≢ i → slice_get (slice_set xs i y) j ≡ slice_get xs j
set_other [] i j y ne = refl
set_other (z ∷ xs) zero zero y ne = absurd (ne refl)
set_other (z ∷ xs) zero (suc j) y ne = refl
set_other (z ∷ xs) (suc i) zero y ne = refl
set_other (z ∷ xs) (suc i) (suc j) y ne = set_other xs i j y (λ e. ne (ap suc e))

-- ---- heads and other classes

module _ (p : List Info) (id : ℕ) (old new : Info) (put : IsPut p id old new) where
  abbrev changed : List Info
  changed = slice_set p id new

  pub names_same : names changed ≡ names p
  names_same = names_kept p id old new put.there put.alike.name

  same_head : head_of (Some (class_of new)) ≡ head_of (Some (class_of old))
  same_head =
      ap (λ f. head_with f (class_of new).parent (class_of new).interfaces) put.flags
      ∙ ap (λ o. head_with (class_of old).flags o (class_of new).interfaces) put.alike.parent
      ∙ ap (head_with (class_of old).flags (class_of old).parent) put.alike.interfaces

  head_at : (q : List Info) (i : ℕ) → slice_get q i ≡ Some old → (k : ℕ) → head_of (class_at (slice_set q i new) k) ≡ head_of (class_at q k)
  head_at [] i h k = refl
  head_at (x ∷ q) zero h zero = let one : x ≡ old = cc in same_head ∙ ap (λ (y : Info). head_of (Some (class_of y))) (sym one)
  head_at (x ∷ q) zero h (suc k) = refl
  head_at (x ∷ q) (suc i) h zero = refl
  head_at (x ∷ q) (suc i) h (suc k) = head_at q i h k

  by_number : (o : Option ℕ) → head_of (option_and_then (class_at changed) o) ≡ head_of (option_and_then (class_at p) o)
  by_number None = refl
  by_number (Some k) = head_at p id put.there k

  heads : (n : Name) → head_of (look changed n) ≡ head_of (look p n)
  heads n = ap (λ ns. head_of (option_and_then (class_at changed) (place_in ns n))) names_same ∙ by_number (number_of p n)

  -- Another name than that of the class has another number.
  other_number : (n : Name) (j : ℕ) → n ≢ old.name → number_of p n ≡ Some j → j ≢ id
  other_number n j ne at e =
      let named : slice_get (names p) j ≡ Some n = name_at_place n j (names p) at in
      let there : slice_get (names p) id ≡ Some old.name = slice_get-map (λ (x : Info). x.name) p id ∙ ap (option_map (λ (x : Info). x.name)) put.there in
      let both : Some n ≡ Some old.name = sym named ∙ ap (slice_get (names p)) e ∙ there in
      ne (cc)

  other_case : (o : Option ℕ) → ((j : ℕ) → o ≡ Some j → j ≢ id) → option_and_then (class_at changed) o ≡ option_and_then (class_at p) o
  other_case None h = refl
  other_case (Some j) h = ap (option_map class_of) (set_other p id j new (h j refl))

  others : (n : Name) → same n old.name ≡ false → look changed n ≡ look p n
  others n e = ap (λ ns. option_and_then (class_at changed) (place_in ns n)) names_same ∙ other_case (number_of p n) (λ j at. other_number n j (other_text n old.name (sym e)) at)

pub put_alike : PutStayAlike
put_alike p id old new put =
    let P : Option Info → Type 0 = λ o. IsSomeAnd o (λ x. IsAlike x new) in
    record { heads = heads p id old new put; others = others p id old new put; swaps = subst P (sym put.there) put.alike }
