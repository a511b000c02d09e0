-- Tables of stated frames.
use Rattle.std.proofs.Common.{◌≡◌, ℕ, zero, suc, Bool, false, List, [], ◌∷◌, length, Option, Some, None, All, reverse, refl, sym, ap, ◌∙◌, subst}
use Rattle.std.specs.Prelude.{slice_get, IfSome}
use Rattle.std.specs.Option.{option_map}
use Rattle.std.proofs.lemmas.Option.{slice_get-map}
use Rattle.std.proofs.lemmas.List.Elements.{All-head, All-tail}
use Rattle.type_rules.specs.References.{Classes}
use Rattle.type_rules.specs.Assignability.{FrameTypes, frame_assignable}
use Rattle.type_rules.specs.Rows.{leads_to}
use Rattle.vframes.specs.declared.named.Named.{Named}
use Rattle.vframes.specs.declared.slot_type.SlotType.{SlotType}
use Rattle.vframes.specs.declared.stated.Local.{Local}
use Rattle.vframes.specs.declared.stated.Locals.{Locals}
use Rattle.vframes.specs.declared.stated.StatedFrame.{StatedFrame}
use Rattle.vframes.specs.Stated.{AreLocals, AreWithin, IsFull}
use Rattle.vframes.specs.StatedFrames.{StatedTypes, stated_types, from_local, down, types_down, kept_types, IsKept, AreKept, table_of, filled, frame_at}
use Rattle.vframes.proofs.StatedLaws.{count_is}

down_at : (store : List Local) (l : Locals) (ts : List SlotType) → AreLocals store l ts → down (length ts) store l ≡ ts
down_at store l [] h = refl
down_at store l (t ∷ ts) h =
    ap (λ o. from_local o (λ n. n.t ∷ down (length ts) store n.below)) h.there ∙ ap (λ us. t ∷ us) (down_at store h.below ts h.rest)

-- the types of locals are those that are there
pub down_is : (store : List Local) (l : Locals) (ts : List SlotType) → AreLocals store l ts → types_down store l ≡ ts
down_is store l ts h = ap (λ k. down k store l) (count_is store l ts h) ∙ down_at store l ts h

pub kept_is : (store : List Local) (max : ℕ) (x : StatedFrame) (ts : List SlotType) → AreLocals store x.locals ts → AreWithin max ts → IsKept store max x
kept_is store max x ts h within =
    let e = sym (down_is store x.locals ts h) in
    record { are = subst (AreLocals store x.locals) e h; within = subst (AreWithin max) e within }

pub kept_full : (ns : List Named) (store : List Local) (max : ℕ) (x : StatedFrame) → IsKept store max x → IsFull ns store max x (stated_types ns (kept_types store max x))
kept_full ns store max x h = record {
  types = types_down store x.locals;
  are = h.are;
  within = h.within;
  is = refl;
}

all_got : {A : Type 0} (P : A → Type 0) (xs : List A) (k : ℕ) (x : A) → All P xs → slice_get xs k ≡ Some x → P x
all_got P [] k x h e = cc
all_got P (y ∷ xs) zero x h e = let q : y ≡ x = cc in subst P q (All-head P y xs h)
all_got P (y ∷ xs) (suc k) x h e = all_got P xs k x (All-tail P y xs h) e

filled_map : {A B : Type 0} (g : A → B) (o : Option (Option A)) → filled (option_map (option_map g) o) ≡ option_map g (filled o)
filled_map g None = refl
filled_map g (Some o) = refl

pub in_table : (store : List Local) (max : ℕ) (frames : List (Option StatedFrame)) (at : ℕ) → frame_at (table_of store max frames) at ≡ option_map (kept_types store max) (filled (slice_get frames at))
in_table store max frames at =
    ap filled (slice_get-map (option_map (kept_types store max)) frames at)
    ∙ filled_map (kept_types store max) (slice_get frames at)

kept_case : (store : List Local) (max : ℕ) (frames : List (Option StatedFrame)) (at : ℕ) (x : StatedFrame) (o : Option (Option StatedFrame)) → slice_get frames at ≡ o → AreKept store max frames → filled o ≡ Some x → IsKept store max x
kept_case store max frames at x None g h e = cc
kept_case store max frames at x (Some None) g h e = cc
kept_case store max frames at x (Some (Some y)) g h e =
    let q : y ≡ x = cc in
    subst (IsKept store max) q (all_got (λ o. IfSome o (IsKept store max)) frames at (Some y) h g)

kept_there : (store : List Local) (max : ℕ) (frames : List (Option StatedFrame)) (at : ℕ) (x : StatedFrame) → AreKept store max frames → filled (slice_get frames at) ≡ Some x → IsKept store max x
kept_there store max frames at x h e = kept_case store max frames at x (slice_get frames at) refl h e

-- where there is a frame, and where there is none
module _ (ns : List Named) (store : List Local) (max : ℕ) (frames : List (Option StatedFrame)) (at : ℕ) where
  abbrev stated : Option FrameTypes
  stated = option_map (stated_types ns) (frame_at (table_of store max frames) at)

  stated_some : (x : StatedFrame) → filled (slice_get frames at) ≡ Some x → stated ≡ Some (stated_types ns (kept_types store max x))
  stated_some x e = ap (option_map (stated_types ns)) (in_table store max frames at ∙ ap (option_map (kept_types store max)) e)

  stated_none : filled (slice_get frames at) ≡ None → stated ≡ None
  stated_none e = ap (option_map (stated_types ns)) (in_table store max frames at ∙ ap (option_map (kept_types store max)) e)

  pub leads_some : (p : Classes) (f : FrameTypes) (x : StatedFrame) (b : Bool) → AreKept store max frames → Some x ≡ filled (slice_get frames at) → ((g : FrameTypes) → IsFull ns store max x g → b ≡ frame_assignable p f g) → b ≡ leads_to p f stated
  leads_some p f x b h e test =
      test (stated_types ns (kept_types store max x)) (kept_full ns store max x (kept_there store max frames at x h (sym e)))
      ∙ ap (leads_to p f) (sym (stated_some x (sym e)))

  pub leads_none : (p : Classes) (f : FrameTypes) → None ≡ filled (slice_get frames at) → false ≡ leads_to p f stated
  leads_none p f e = ap (leads_to p f) (sym (stated_none (sym e)))

  pub full_some : (x : StatedFrame) (g : FrameTypes) → AreKept store max frames → Some x ≡ filled (slice_get frames at) → ((f : FrameTypes) → IsFull ns store max x f → f ≡ g) → Some g ≡ stated
  full_some x g h e test =
      ap Some (sym (test (stated_types ns (kept_types store max x)) (kept_full ns store max x (kept_there store max frames at x h (sym e)))))
      ∙ sym (stated_some x (sym e))

  pub full_none : None ≡ filled (slice_get frames at) → None ≡ stated
  full_none e = sym (stated_none (sym e))
