-- A program has room to land where each of its classes has.
use Rattle.std.proofs.Common.{◌≡◌, ◌∙◌, ◌⊎◌, inl, inr, refl, sym, ap, subst, ℕ, zero, suc, ◌<◌, List, [], map, Option, None, Some, arith}
use Rattle.std.specs.Prelude.{◌≤◌, ◌+◌, slice_get, option_and_then}
use Rattle.std.specs.Option.{option_map}
use Rattle.std.proofs.lemmas.Option.{slice_get-map}
use Rattle.program_rules.specs.Linked as rules
use Rattle.class_link.specs.declared.linked.Entry.{Entry}
use Rattle.class_link.specs.declared.linked.LinkedBody.{LinkedBody}
use Rattle.class_link.specs.declared.linked.LinkedBody.TheVariants as body
use Rattle.class_link.specs.declared.linked.LinkedCode.{LinkedCode}
use Rattle.class_link.specs.declared.linked.LinkedMethod.{LinkedMethod}
use Rattle.class_link.specs.Info.{Info, class_of}
use Rattle.class_link.specs.View.{linked_of, method_of, code_of, body_of, row_of}
use Rattle.class_table.specs.Table.{look, class_at, number_of}
use Rattle.class_table.specs.Faults.{HasRightKinds}
use Rattle.jvm_run.specs.Below.{HasRoomToLand, HaveRoomToLand, IsRunnable}
use Rattle.machine_answers.specs.Landing.{HasRoomBody, HasRoom, HaveRoom}

-- ---- one more of those before a place

before_or_here : (j k : ℕ) → j < k + 1 → (j < k) ⊎ (j ≡ k)
before_or_here j zero l = inr (omega (arith, l))
before_or_here zero (suc k) l = inl (omega arith)
before_or_here (suc j) (suc k) l =
    elim (before_or_here j k (omega (arith, l))) [
      | inl h ↦ inl (omega (arith, h))
      | inr h ↦ inr (ap suc h)
    ]

pub one_more : {A : Type 0} (P : A → Type 0) (xs : List A) (i : ℕ) (x : A) → slice_get xs i ≡ Some x → P x → ((k : ℕ) (y : A) → k < i → slice_get xs k ≡ Some y → P y) → (k : ℕ) (y : A) → k < i + 1 → slice_get xs k ≡ Some y → P y
one_more P xs i x there here before k y l at =
    elim (before_or_here k i l) [
      | inl h ↦ before k y h at
      | inr h ↦ (let same : Some x ≡ Some y = sym there ∙ ap (slice_get xs) (sym h) ∙ at in
          let one : x ≡ y = cc in
          subst P one here)
    ]

-- ---- one class

room_seen : (es : List Entry) (c : LinkedCode) → (c.rows ≡ []) ⊎ (1 ≤ c.max_stack) → HasRoomToLand (code_of es c)
room_seen es c (inl none) = inl (ap (map row_of) none)
room_seen es c (inr there) = inr there

room_in_body : (es : List Entry) (b : LinkedBody) (code : rules.LinkedCode) → HasRoomBody b → rules.code_in (body_of es b) ≡ Some code → HasRoomToLand code
room_in_body es (body.Code c) code h e =
    let one : code_of es c ≡ code = cc in
    subst HasRoomToLand one (room_seen es c h)
room_in_body es (body.Native n) code h e = absurd cc
room_in_body es body.Absent code h e = absurd cc

room_in_methods : (es : List Entry) (ms : List LinkedMethod) (place : ℕ) (code : rules.LinkedCode) → HaveRoom ms → rules.code_of (slice_get (map (method_of es) ms) place) ≡ Some code → HasRoomToLand code
room_in_methods es ms place code h e =
    by_place (slice_get ms place) (h place) (sym (ap rules.code_of (slice_get-map (method_of es) ms place)) ∙ e)
  where
    by_place : (o : Option LinkedMethod) → ((m : LinkedMethod) → o ≡ Some m → HasRoom m) → rules.code_of (option_map (method_of es) o) ≡ Some code → HasRoomToLand code
    by_place None h e = absurd cc
    by_place (Some m) h e = room_in_body es m.body code (h m refl) e

room_in_class : (i : Info) (place : ℕ) (code : rules.LinkedCode) → HaveRoom i.linked.methods → rules.code_of (rules.method_in (Some (class_of i)) place) ≡ Some code → HasRoomToLand code
unfolding linked_of
room_in_class i place code h e = room_in_methods i.linked.entries i.linked.methods place code h e

-- ---- all classes

pub room_by_name : (p : List Info) → ((k : ℕ) (i : Info) → slice_get p k ≡ Some i → HaveRoom i.linked.methods) → HaveRoomToLand (look p)
room_by_name p h n place code e = by_number (number_of p n) e
  where
    by_class : (o : Option Info) → ((i : Info) → o ≡ Some i → HaveRoom i.linked.methods) → rules.code_of (rules.method_in (option_map class_of o) place) ≡ Some code → HasRoomToLand code
    by_class None h e = absurd cc
    by_class (Some i) h e = room_in_class i place code (h i refl) e

    by_number : (o : Option ℕ) → rules.code_of (rules.method_in (option_and_then (class_at p) o) place) ≡ Some code → HasRoomToLand code
    by_number None e = absurd cc
    by_number (Some k) e = by_class (slice_get p k) (h k) e

-- ---- what is asked of a program that is run

pub runnable : (p : List Info) → HasRightKinds (look p) → HaveRoomToLand (look p) → IsRunnable (look p)
runnable p kinds room = record { kinds = kinds; room = room }
