-- The locals and the stack of the next frame.
use Rattle.std.proofs.Common.{◌≡◌, ◌≤◌, ◌+◌, ℕ, true, false, List, [], ◌++◌, length, reverse, drop, Option, Some, None, sym, ap, ◌∙◌, subst, arith}
use Rattle.std.specs.Prelude.{if◌then◌else◌}
use Rattle.std.proofs.lemmas.Bool.{le-leb, lt-leb}
use Rattle.std.proofs.lemmas.List.{append-nil}
use Rattle.vframes.specs.declared.slot_type.SlotType.{SlotType}
use Rattle.vframes.specs.declared.stated.Local.{Local}
use Rattle.vframes.specs.declared.stated.Locals.{Locals}
use Rattle.vframes.specs.View.{words_of}
use Rattle.vframes.specs.Stated.{AreLocals, AreMoreBy, HasRoomFor, IsChopOf, AreFewer as AreLess}
use Rattle.vframes.specs.StatedFrames.{types_down}
use Rattle.vframes.proofs.StatedLaws.{words_is}
use Rattle.vframes.proofs.StatedTables.{down_is}
use Rattle.type_verifier.specs.declared.method.MethodCode.{MethodCode}
use Rattle.type_verifier.specs.Standing.{fits}
use Rattle.type_verifier.specs.Steps.{AreRight, AreThese, AreNext, AreMore, AreAlone, IsThis, chopped, fit_any}
use Rattle.type_verifier.proofs.Stands.{few, each_stands, none_fits, fits_turned, fits_more, fits_drop}

module _ (x : MethodCode) (store : List Local) (l : Locals) (right : AreRight x store l) where
  pub words_within : l.words ≤ x.code.now.max_locals
  words_within =
      let w = words_is store l (types_down store l) right.are in
      let f = few x x.code.now.max_locals (types_down store l) right.fit in
      omega (arith, w, f)

  -- behind them
  pub has_room : (room : ℕ) (more : List SlotType) → room + l.words ≡ x.code.now.max_locals → x.code.now.max_locals ≤ 65535 → fits x room more ≡ true → HasRoomFor store l more
  has_room room more sum small fit = record {
    types = types_down store l;
    are = right.are;
    few = (
        let w = words_is store l (types_down store l) right.are in
        let m = few x room more fit in
        let f : words_of (types_down store l) + words_of more ≤ 65535 = omega (arith, w, m, sum, small) in
        f);
  }

  fit_behind : (room : ℕ) (more : List SlotType) → room + l.words ≡ x.code.now.max_locals → fits x x.code.now.max_locals (reverse more ++ types_down store l) ≡ fits x room more
  fit_behind room more sum =
      fits_more x x.code.now.max_locals room l.words more (types_down store l) (words_is store l (types_down store l) right.are) sum
      (each_stands x x.code.now.max_locals (types_down store l) right.fit)

  pub more_fit : (new : List Local) (next : Locals) (room : ℕ) (more : List SlotType) → room + l.words ≡ x.code.now.max_locals → fits x room more ≡ true → AreMoreBy store new l more next → AreThese x new (Some (reverse more ++ types_down store l)) next
  more_fit new next room more sum fit by =
      let are : AreLocals new next (reverse more ++ types_down store l) = by (types_down store l) right.are in
      let same : types_down new next ≡ reverse more ++ types_down store l = down_is new next (reverse more ++ types_down store l) are in
      record {
        is = ap Some (sym same);
        right = record {
          are = subst (AreLocals new next) (sym same) are;
          fit = ap (fits x x.code.now.max_locals) same ∙ fit_behind room more sum ∙ fit;
        };
      }

  pub more_unfit : (room : ℕ) (more : List SlotType) → room + l.words ≡ x.code.now.max_locals → fits x room more ≡ false → fit_any x (Some (reverse more ++ types_down store l)) ≡ false
  more_unfit room more sum e = fit_behind room more sum ∙ e

  -- without the last ones
  pub fewer_fit : (left : Locals) (n : ℕ) → IsChopOf store l n left → AreThese x store (chopped n (types_down store l)) left
  fewer_fit left n chop =
      let ts = types_down store l in
      let c = chop ts right.are in
      let same : types_down store left ≡ drop n ts = down_is store left (drop n ts) c.are in
      record {
        is = ap (λ b. if b then Some (drop n ts) else None) (le-leb n (length ts) c.enough) ∙ ap Some (sym same);
        right = record {
          are = subst (AreLocals store left) (sym same) c.are;
          fit = ap (fits x x.code.now.max_locals) same ∙ fits_drop x x.code.now.max_locals n ts right.fit;
        };
      }

  pub too_few : (n : ℕ) → AreLess store l n → fit_any x (chopped n (types_down store l)) ≡ false
  too_few n less =
      let ts = types_down store l in
      ap (λ b. fit_any x (if b then Some (drop n ts) else None)) (lt-leb n (length ts) (less ts right.are))

-- behind none
module _ (x : MethodCode) (old : List Local) (none : Locals) (is : (store : List Local) → AreLocals store none []) where
  none_down : types_down old none ≡ []
  none_down = down_is old none [] (is old)

  pub none_right : AreRight x old none
  none_right = record {
    are = subst (AreLocals old none) (sym none_down) (is old);
    fit = ap (fits x x.code.now.max_locals) none_down ∙ none_fits x x.code.now.max_locals;
  }

  pub are_alone : (new : List Local) (types : List SlotType) (o : Option Locals) → AreMore x old new none types o → AreAlone x new types o
  are_alone new types o h =
      let e : reverse types ++ types_down old none ≡ reverse types = ap (λ l. reverse types ++ l) none_down ∙ append-nil (reverse types) in
      subst (λ l. AreNext x new (Some l) o) e h

-- a stack
pub stack_fits : (x : MethodCode) (types s : List SlotType) → fits x x.code.now.max_stack types ≡ true → s ≡ reverse types → IsThis x (reverse types) s
stack_fits x types s fit is = record { is = is; fit = fits_turned x x.code.now.max_stack types ∙ fit }

pub stack_unfit : (x : MethodCode) (types : List SlotType) → fits x x.code.now.max_stack types ≡ false → fits x x.code.now.max_stack (reverse types) ≡ false
stack_unfit x types e = fits_turned x x.code.now.max_stack types ∙ e
