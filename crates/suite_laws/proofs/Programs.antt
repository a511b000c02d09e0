-- The class files of a program are files of what its names mean.
use Rattle.std.proofs.Common.{◌≡◌, ◌∙◌, refl, sym, ap, subst, ℕ, zero, suc, ◌+◌, Bool, true, false, List, [], ◌∷◌, Option, Some, None, Ok, arith}
use Rattle.std.specs.Prelude.{if◌then◌else◌, option_and_then, slice_get}
use Rattle.std.specs.List.{AllByRecursion}
use Rattle.std.specs.Option.{option_map}
use Rattle.std.proofs.lemmas.List.Elements.{recursion_from_All}
use Rattle.class_model.specs.declared.class.Class.{Class}
use Rattle.program_rules.specs.Names.{Name, same}
use Rattle.type_rules.specs.Rules.{Accepted}
use Rattle.type_laws.proofs.Tests.{same_is}
use Rattle.class_link.specs.declared.loaded.ClassBody.{ClassBody}
use Rattle.class_link.specs.declared.loaded.ClassBody.TheVariants as body
use Rattle.class_link.specs.Info.{Info, IsInfo, body_name, link_body, own_name, file_in, class_of}
use Rattle.class_link.specs.Linking.{link}
use Rattle.class_table.specs.Table.{IsProgram, place_from, names, number_of, look, class_at}
use Rattle.class_table.specs.declared.scripted.Test.{Test}
use Rattle.test_discovery.specs.Discovery.{Tests}
use Rattle.test_discovery.specs.Listed.{Files, files_of}
use Rattle.suite_laws.specs.Found.{AreFilesOf, ScriptsFit}
use Rattle.suite_laws.proofs.Scripts.{scripts_fit}

-- ---- the class of a name

-- The class that a name has among these.
record IsAt (p : List Info) (n : Name) (i k : ℕ) : Type 0 where
  pub place : ℕ
  pub info : Info
  pub there : slice_get p place ≡ Some info
  pub name_is : info.name ≡ n
  pub is_place : i + place ≡ k

behind_place : (x : Info) (p : List Info) (n : Name) (i k : ℕ) → IsAt p n (suc i) k → IsAt (x ∷ p) n i k
behind_place x p n i k r = record {
  place = suc r.place;
  info = r.info;
  there = r.there;
  name_is = r.name_is;
  is_place = (let e : i + suc r.place ≡ suc i + r.place = omega arith in e ∙ r.is_place);
}

place_case : (x : Info) (p : List Info) (n : Name) (i k : ℕ) (b : Bool) → same x.name n ≡ b → (place_from n (suc i) (names p) ≡ Some k → IsAt p n (suc i) k)
    → (if b then Some i else place_from n (suc i) (names p)) ≡ Some k → IsAt (x ∷ p) n i k
place_case x p n i k true s rest f =
    let one : i ≡ k = cc in
    record { place = 0; info = x; there = refl; name_is = same_is x.name n s; is_place = (let z : i + 0 ≡ i = omega arith in z ∙ one) }
place_case x p n i k false s rest f = behind_place x p n i k (rest f)

at_place : (p : List Info) (n : Name) (i k : ℕ) → place_from n i (names p) ≡ Some k → IsAt p n i k
at_place [] n i k e = absurd cc
at_place (x ∷ p) n i k e = place_case x p n i k (same x.name n) refl (at_place p n (suc i) k) e

-- ---- the class file of a class

-- What a class of a class file means.
record IsOfFile (i : Info) (c : Class) : Type 0 where
  pub named : body_name i.body ≡ own_name c
  pub meant : link_body i.body ≡ link c

of_body : (i : Info) (b : ClassBody) (c : Class) → i.body ≡ b → file_in i ≡ Some c → IsOfFile i c
of_body i (body.File loaded) c e f =
    let whole : loaded.class ≡ c = (let g : Some loaded.class ≡ Some c = sym (rw e refl) ∙ f in cc) in
    record { named = ap body_name e ∙ ap own_name whole; meant = ap link_body e ∙ ap link whole }
of_body i (body.Edited edit) c e f = absurd (let g : None ≡ Some c = sym (rw e refl) ∙ f in cc)
of_body i (body.Library lib) c e f = absurd (let g : None ≡ Some c = sym (rw e refl) ∙ f in cc)

got : {X : Type 0} (P : X → Type 0) (xs : List X) → AllByRecursion P xs → (k : ℕ) (x : X) → slice_get xs k ≡ Some x → P x
got P [] h k x e = absurd cc
got P (y ∷ xs) h zero x e = let one : y ≡ x = cc in subst P one h.0
got P (y ∷ xs) h (suc k) x e = got P xs h.1 k x e

module _ (p : List Info) (ok : IsProgram p) where
  record IsFile (n : Name) (c : Class) : Type 0 where
    pub named : own_name c ≡ n
    pub meant : look p n ≡ Some (link c)

  file_is : (n : Name) (c : Class) (o : Option ℕ) → number_of p n ≡ o → option_and_then (λ id. option_and_then file_in (slice_get p id)) o ≡ Some c → IsFile n c
  file_is n c None e f = absurd cc
  file_is n c (Some id) e f =
      let at = at_place p n 0 id e in
      let place : at.place ≡ id = (let z : at.place ≡ 0 + at.place = omega arith in z ∙ at.is_place) in
      let there : slice_get p id ≡ Some at.info = subst (λ z. slice_get p z ≡ Some at.info) place at.there in
      let info : IsInfo at.info = got IsInfo p (recursion_from_All IsInfo p ok.meant) id at.info there in
      let file : file_in at.info ≡ Some c = subst (λ o. option_and_then file_in o ≡ Some c) there f in
      let of_file = of_body at.info at.info.body c refl file in
      record {
        named = sym of_file.named ∙ sym info.name ∙ at.name_is;
        meant = ap (option_and_then (class_at p)) e ∙ ap (option_map class_of) there ∙ ap Some (info.linked ∙ of_file.meant);
      }

  pub files_are : AreFilesOf (look p) (files_of p)
  files_are = record {
    named = λ n c e. (file_is n c (number_of p n) refl e).named;
    meant = λ n c e. (file_is n c (number_of p n) refl e).meant;
  }

pub programs_fit : (p : List Info) (files : Files) (most : ℕ) (names : List Name) (tests : List Test) → IsProgram p → files_of p ≡ files → Accepted (look p) → Tests most files names ≡ Ok tests → ScriptsFit (look p) tests
programs_fit p files most names tests ok same-files accepted e = scripts_fit (look p) files most names tests (subst (AreFilesOf (look p)) same-files (files_are p ok)) ok.ranks accepted e
