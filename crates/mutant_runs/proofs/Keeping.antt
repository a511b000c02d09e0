-- What stays of an accepted program with another class.
use Rattle.std.proofs.Common.{◌≡◌, ◌∙◌, sym, refl, ap, ℕ, ◌||◌, ◌&&◌, Bool, true, false, List, [], ◌∷◌, Option, None, Some, slice_set}
use Rattle.std.specs.Prelude.{not, option_and_then}
use Rattle.std.specs.List.{list_any}
use Rattle.std.specs.Option.{option_map}
use Rattle.std.specs.Cmp.Lexicographic.{same_text}
use Rattle.program_rules.specs.Names.{Name, same, object_name}
use Rattle.program_rules.specs.Linked.{Linked, is_interface}
use Rattle.program_rules.specs.Programs.{Look, option_list}
use Rattle.class_link.specs.declared.loaded.ClassBody.{ClassBody}
use Rattle.class_link.specs.declared.loaded.ClassBody.TheVariants as body
use Rattle.class_link.specs.Info.{Info, link_body, class_of}
use Rattle.class_link.specs.Linking.{link}
use Rattle.class_order.specs.Supers.{is_final, is_no_superclass, is_no_interface, names_wrong_kind, is_super_of_wrong_kind}
use Rattle.class_table.specs.Table.{place_in, number_of, class_at, look, IsProgram, IsFile}
use Rattle.class_table.proofs.Places.{name_of_class, number_at}
use Rattle.type_rules.specs.Rules.{ClassAccepted}
use Rattle.type_laws.specs.Alike.{head_of}
use Rattle.type_laws.proofs.Alike.{edited_stays, others_stay}
use Rattle.mutant_runs.specs.Put.{IsPut, put}
use Rattle.mutant_runs.specs.Kept.{KindsStayRight, PutKeepKinds, PutStayAccepted, PutKeepLibrary}
use Rattle.mutant_runs.proofs.Putting.{Head, set_same, names_same, put_alike}

-- ---- what is read off a head

abbrev no_superclass_by : Head → Bool
no_superclass_by None = false
no_superclass_by (Some x) = is_final x.0 || is_interface x.0

abbrev no_interface_by : Head → Bool
no_interface_by None = false
no_interface_by (Some x) = not (is_interface x.0)

abbrev wrong_by : Look → Head → Bool
wrong_by p None = false
wrong_by p (Some x) =
    list_any (λ m. is_no_superclass (p m) || (is_interface x.0 && not (same m object_name))) (option_list x.1)
    || list_any (λ m. is_no_interface (p m)) x.2

no_superclass_is : (o : Option Linked) → is_no_superclass o ≡ no_superclass_by (head_of o)
no_superclass_is None = refl
no_superclass_is (Some c) = refl

no_interface_is : (o : Option Linked) → is_no_interface o ≡ no_interface_by (head_of o)
no_interface_is None = refl
no_interface_is (Some c) = refl

wrong_is : (p : Look) (o : Option Linked) → names_wrong_kind p o ≡ wrong_by p (head_of o)
wrong_is p None = refl
wrong_is p (Some c) = refl

any_same : (f g : Name → Bool) → ((n : Name) → f n ≡ g n) → (ns : List Name) → list_any f ns ≡ list_any g ns
any_same f g h [] = refl
any_same f g h (n ∷ ns) = ap (λ b. b || list_any f ns) (h n) ∙ ap (λ b. g n || b) (any_same f g h ns)

module _ (p q : Look) (alike : (n : Name) → head_of (q n) ≡ head_of (p n)) where
  same_no_superclass : (n : Name) → is_no_superclass (q n) ≡ is_no_superclass (p n)
  same_no_superclass n = no_superclass_is (q n) ∙ ap no_superclass_by (alike n) ∙ sym (no_superclass_is (p n))

  same_no_interface : (n : Name) → is_no_interface (q n) ≡ is_no_interface (p n)
  same_no_interface n = no_interface_is (q n) ∙ ap no_interface_by (alike n) ∙ sym (no_interface_is (p n))

  same_wrong : (h : Head) → wrong_by q h ≡ wrong_by p h
  same_wrong None = refl
  same_wrong (Some x) =
      let bad : Look → Name → Bool = λ r m. is_no_superclass (r m) || (is_interface x.0 && not (same m object_name)) in
      ap (λ b. b || list_any (λ m. is_no_interface (q m)) x.2) (any_same (bad q) (bad p) (λ m. ap (λ b. b || (is_interface x.0 && not (same m object_name))) (same_no_superclass m)) (option_list x.1))
      ∙ ap (λ b. list_any (bad p) (option_list x.1) || b) (any_same (λ m. is_no_interface (q m)) (λ m. is_no_interface (p m)) same_no_interface x.2)

  same_kind : (n : Name) → is_super_of_wrong_kind q n ≡ is_super_of_wrong_kind p n
  same_kind n = wrong_is q (q n) ∙ ap (wrong_by q) (alike n) ∙ same_wrong (head_of (p n)) ∙ sym (wrong_is p (p n))

pub kinds_stay : KindsStayRight
kinds_stay p q alike right n = same_kind p q alike n ∙ right n

pub put_keep_kinds : PutKeepKinds
put_keep_kinds p id old new is right = kinds_stay (look p) (put p id new) (put_alike p id old new is).heads right

-- ---- acceptance

pub put_accepted : PutStayAccepted
put_accepted p id old new is accepted class =
    let alike = put_alike p id old new is in
    edited_stays (look p) (put p id new) old.name alike.heads alike.others accepted class

file_linked : (b : ClassBody) → IsFile b → (link_body b).library ≡ false
unfolding link
file_linked (body.File loaded) f = refl
file_linked (body.Edited e) f = refl
file_linked (body.Library c) f = absurd f

-- The class is the one of its name.
put_there : (p : List Info) (id : ℕ) (old new : Info) → IsProgram p → IsPut p id old new → put p id new old.name ≡ Some (class_of new)
put_there p id old new ok is =
    let named = name_of_class p id old is.there in
    let number : number_of p old.name ≡ Some id = ap (number_of p) (sym named) ∙ number_at p id old ok.distinct is.there in
    ap (λ ns. option_and_then (class_at (slice_set p id new)) (place_in ns old.name)) (names_same p id old new is)
    ∙ ap (option_and_then (class_at (slice_set p id new))) number
    ∙ ap (option_map class_of) (set_same p id old new is.there)

pub put_library : PutKeepLibrary
put_library p id old new ok is accepted n c at library = by_name (same n old.name) refl
  where
    by_name : (b : Bool) → same n old.name ≡ b → ClassAccepted (put p id new) n
    by_name true e =
        let named : n ≡ old.name = same_text n old.name (sym e) in
        let there : Some c ≡ Some (class_of new) = sym at ∙ ap (put p id new) named ∙ put_there p id old new ok is in
        let file : (class_of new).library ≡ false = ap (λ (x : Linked). x.library) is.meant.linked ∙ file_linked new.body is.alike.new_file in
        absurd cc
    by_name false e =
        let alike = put_alike p id old new is in
        others_stay (look p) (put p id new) old.name n alike.heads alike.others e (accepted n c (sym (alike.others n e) ∙ at) library)
