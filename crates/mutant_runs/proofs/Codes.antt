-- Codes within the bounds of a class file, in a program.
use Rattle.std.proofs.Common.{◌≡◌, ◌∙◌, sym, refl, ap, subst, inl, inr, ℕ, zero, suc, ◌⊎◌, ◌≤◌, List, [], ◌∷◌, map, Option, None, Some, IfSome, slice_get, All, arith}
use Rattle.std.specs.Prelude.{option_and_then}
use Rattle.std.specs.Option.{option_map}
use Rattle.program_rules.specs.Linked.{Linked, method_in}
use Rattle.std.proofs.lemmas.List.{length-map}
use Rattle.std.proofs.lemmas.List.Elements.{All-set}
use Rattle.std.proofs.lemmas.Option.{slice_get-map}
use Rattle.class_link.specs.declared.linked.LinkedBody.{LinkedBody}
use Rattle.class_link.specs.declared.linked.LinkedBody.TheVariants as body
use Rattle.class_link.specs.declared.linked.LinkedClass.{LinkedClass}
use Rattle.class_link.specs.declared.linked.LinkedCode.{LinkedCode}
use Rattle.class_link.specs.declared.linked.LinkedMethod.{LinkedMethod}
use Rattle.class_link.specs.declared.linked.LinkedRow.{LinkedRow}
use Rattle.class_link.specs.declared.loaded.ClassBody.TheVariants as from
use Rattle.class_link.specs.Edits.{class_edited}
use Rattle.class_link.specs.Info.{Info, IsInfo, class_of}
use Rattle.class_link.specs.View.{row_of, code_of, body_of, method_of, instruction_of, linked_of}
use Rattle.class_table.specs.Table.{number_of, class_at, look}
use Rattle.class_table.proofs.Places.{name_of_class, look_at}
use Rattle.program_laws.proofs.Codes.{linked_bounded}
use Rattle.type_laws.specs.Landing.{HasCodeAt}
use Rattle.type_laws.specs.Bounds.{IsBounded, HasBoundedCodes}
use Rattle.type_laws.proofs.Landing.{bounded_have_room}
use Rattle.type_verifier.specs.ProgramTables.{HasShortBody, HasShortCode}
use Rattle.mutant_runs.specs.Codes.{IsBoundedBody, SpelledAreBounded, BoundedAreNumbered, PutStayNumbered, HasRoom, AcceptedHaveRoom, BoundedByName, SeenHaveRoom}
use Rattle.mutant_runs.proofs.Putting.{all_at}

pub spelled_bounded : SpelledAreBounded
spelled_bounded (from.File loaded) h = linked_bounded loaded.class h
spelled_bounded (from.Edited e) h = linked_bounded (class_edited e) h
spelled_bounded (from.Library c) h = h

-- ---- one method

-- What a method of a linked class is to the rules.
pub method_seen : (c : LinkedClass) (k : ℕ) (m : LinkedMethod) → slice_get c.methods k ≡ Some m → slice_get (linked_of c).methods k ≡ Some (method_of c.entries m)
unfolding linked_of
method_seen c k m at = slice_get-map (method_of c.entries) c.methods k ∙ ap (option_map (method_of c.entries)) at

module _ (i : Info) (meant : IsInfo i) (bounded : IsBoundedBody i.body) where
  code_bounded : (k : ℕ) (m : LinkedMethod) (c : LinkedCode) → slice_get i.linked.methods k ≡ Some m → m.body ≡ body.Code c → IsBounded (code_of i.linked.entries c)
  code_bounded k m c at is =
      let codes : HasBoundedCodes (class_of i) = subst HasBoundedCodes (sym meant.linked) bounded in
      codes k (method_of i.linked.entries m) (code_of i.linked.entries c) (method_seen i.linked k m at) (ap (body_of i.linked.entries) is)

  short_case : (b : LinkedBody) → ((c : LinkedCode) → b ≡ body.Code c → IsBounded (code_of i.linked.entries c)) → HasShortBody b
  short_case (body.Code c) h =
      let few = (h c refl).few in
      let same = length-map c.instructions (instruction_of i.linked.entries c.switches) in
      omega (arith, few, same)
  short_case (body.Native n) h = tt
  short_case body.Absent h = tt

  all_short : (ms : List LinkedMethod) → ((k : ℕ) (m : LinkedMethod) → slice_get ms k ≡ Some m → HasShortCode m) → All HasShortCode ms
  all_short [] h k d l = absurd (omega (arith, l))
  all_short (m ∷ ms) h zero d l = h 0 m refl
  all_short (m ∷ ms) h (suc k) d l = all_short ms (λ j x at. h (suc j) x at) k d (omega (arith, l))

  pub methods_short : All HasShortCode i.linked.methods
  methods_short = all_short i.linked.methods (λ k m at. short_case m.body (λ c is. code_bounded k m c at is))

-- ---- all classes

pub bounded_numbered : BoundedAreNumbered
bounded_numbered [] meant bounded k d l = absurd (omega (arith, l))
bounded_numbered (i ∷ p) meant bounded zero d l = methods_short i (meant 0 i (omega arith)) (bounded 0 i (omega arith))
bounded_numbered (i ∷ p) meant bounded (suc k) d l = bounded_numbered p (λ j x m. meant (suc j) x (omega (arith, m))) (λ j x m. bounded (suc j) x (omega (arith, m))) k d (omega (arith, l))

pub put_numbered : PutStayNumbered
put_numbered p id old new is bounded numbered = All-set (λ i. All HasShortCode i.linked.methods) p id new (methods_short new is.meant bounded) numbered

-- ---- room for what is caught

none_left : (rs : List LinkedRow) → map row_of rs ≡ [] → rs ≡ []
none_left [] e = refl
none_left (r ∷ rs) e = cc

-- The room of a code is that of what it means.
room_left : (c : LinkedCode) → (map row_of c.rows ≡ []) ⊎ (1 ≤ c.max_stack) → HasRoom c
room_left c (inl e) = inl (none_left c.rows e)
room_left c (inr l) = inr l

pub accepted_room : AcceptedHaveRoom
accepted_room p id k i m c ok there bounded accepted at is =
    let meant : IsInfo i = all_at IsInfo p id i ok.meant there in
    let named = name_of_class p id i there in
    let looked : look p i.name ≡ Some (class_of i) = ap (look p) (sym named) ∙ look_at p id i ok.distinct there in
    let here : HasCodeAt (look p) i.name k (code_of i.linked.entries c) = record {
      class = class_of i;
      method = method_of i.linked.entries m;
      has_class = looked;
      has_method = method_seen i.linked k m at;
      has_code = ap (body_of i.linked.entries) is;
    } in
    room_left c (bounded_have_room (look p) i.name k (code_of i.linked.entries c) accepted here (code_bounded i meant bounded k m c at is))

-- ---- by name

pub bounded_named : BoundedByName
bounded_named p n meant bounded = by_number (number_of p n)
  where
    by_class : (o : Option Info) → ((i : Info) → o ≡ Some i → HasBoundedCodes (class_of i)) → IfSome (option_map class_of o) HasBoundedCodes
    by_class None h = tt
    by_class (Some i) h = h i refl

    by_number : (o : Option ℕ) → IfSome (option_and_then (class_at p) o) HasBoundedCodes
    by_number None = tt
    by_number (Some k) = by_class (slice_get p k) (λ i at. subst HasBoundedCodes (sym (all_at IsInfo p k i meant at).linked) (all_at (λ x. IsBoundedBody x.body) p k i bounded at))

pub seen_room : SeenHaveRoom
seen_room p n k es m c bounded accepted at is = by_class (p n) refl bounded at
  where
    by_class : (o : Option Linked) → p n ≡ o → IfSome o HasBoundedCodes → method_in o k ≡ Some (method_of es m) → HasRoom c
    by_class None e b h = cc
    by_class (Some l) e b h =
        let here : HasCodeAt p n k (code_of es c) = record { class = l; method = method_of es m; has_class = e; has_method = h; has_code = ap (body_of es) is } in
        room_left c (bounded_have_room p n k (code_of es c) accepted here (b k (method_of es m) (code_of es c) h (ap (body_of es) is)))
