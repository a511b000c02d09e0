-- Frame by frame, what the rules make of all.
use Rattle.std.proofs.Common.{◌≡◌, ℕ, Bool, true, false, List, [], ◌∷◌, ◌++◌, map, reverse, Option, Some, None, Result, Ok, Err, refl, sym, ap, ◌∙◌, subst}
use Rattle.std.specs.Prelude.{if◌then◌else◌, nat_eq, slice_get, IfSome}
use Rattle.std.specs.Option.{option_map}
use Rattle.std.proofs.lemmas.List.{reverse-reverse}
use Rattle.std.proofs.lemmas.List.Elements.{All-cons, All-head, All-nil, All-tail}
use Rattle.program_rules.specs.Names.{Name}
use Rattle.program_rules.specs.Linked.{LinkedMethod, LinkedCode}
use Rattle.program_rules.specs.Types.{VType}
use Rattle.type_rules.specs.Assignability.{FrameTypes}
use Rattle.type_rules.specs.Frames.{FullFrame, expand, expand_from, full_frame, put_before, stated_at}
use Rattle.type_rules.specs.Rules.{stated_or}
use Rattle.vframes.specs.declared.named.Named.{Named}
use Rattle.vframes.specs.declared.slot_type.SlotType.{SlotType}
use Rattle.vframes.specs.declared.stated.Local.{Local}
use Rattle.vframes.specs.declared.stated.Locals.{Locals}
use Rattle.vframes.specs.declared.stated.StatedFrame.{StatedFrame}
use Rattle.vframes.specs.View.{types_in}
use Rattle.vframes.specs.Stated.{AreLocals, StayRight}
use Rattle.vframes.specs.StatedFrames.{StatedTypes, stated_types, types_down, kept_types, IsKept, AreKept, table_of, filled, frame_at}
use Rattle.vframes.proofs.StatedTables.{down_is, kept_is, in_table}
use Rattle.type_verifier.specs.declared.shapes.Difference.{Difference}
use Rattle.type_verifier.specs.Shapes.{frame_in}
use Rattle.type_verifier.specs.declared.method.MethodCode.{MethodCode}
use Rattle.type_verifier.specs.Standing.{IsOf, AreFirst, fits}
use Rattle.type_verifier.specs.Steps.{AreRight, IsFrameBy, is_framed}
use Rattle.type_verifier.specs.Expansions.{IsPut, StayKept, or_this, AreInFull, IsMethodOf}
use Rattle.type_verifier.proofs.Stands.{few, first_fits, fits_turned}
use Rattle.type_verifier.proofs.Stepping.{full_of, steps, fails}

-- ---- what is kept stays, whatever is added to the store

module _ (store new : List Local) (max : ℕ) (stay : StayRight store new) where
  pub down_stays : (l : Locals) → AreLocals store l (types_down store l) → types_down new l ≡ types_down store l
  down_stays l h = down_is new l (types_down store l) (stay l (types_down store l) h)

  kept_stays : (x : StatedFrame) → IsKept store max x → IsKept new max x
  kept_stays x h = kept_is new max x (types_down store x.locals) (stay x.locals (types_down store x.locals) h.are) h.within

  kept_case : (o : Option StatedFrame) → IfSome o (IsKept store max) → IfSome o (IsKept new max)
  kept_case None h = tt
  kept_case (Some x) h = kept_stays x h

  pub all_stay : (frames : List (Option StatedFrame)) → AreKept store max frames → AreKept new max frames
  all_stay [] h = All-nil (λ o. IfSome o (IsKept new max))
  all_stay (o ∷ os) h =
      All-cons (λ o. IfSome o (IsKept new max)) o os
      (kept_case o (All-head (λ o. IfSome o (IsKept store max)) o os h))
      (all_stay os (All-tail (λ o. IfSome o (IsKept store max)) o os h))

  types_case : (o : Option StatedFrame) → IfSome o (IsKept store max) → option_map (kept_types new max) o ≡ option_map (kept_types store max) o
  types_case None h = refl
  types_case (Some x) h = ap (λ (ts : List SlotType). Some (record { items = reverse ts; stack = x.stack; max = max })) (down_stays x.locals h.are)

  pub table_stays : (frames : List (Option StatedFrame)) → AreKept store max frames → table_of new max frames ≡ table_of store max frames
  table_stays [] h = refl
  table_stays (o ∷ os) h =
      ap (λ p. p ∷ table_of new max os) (types_case o (All-head (λ o. IfSome o (IsKept store max)) o os h))
      ∙ ap (λ ps. option_map (kept_types store max) o ∷ ps) (table_stays os (All-tail (λ o. IfSome o (IsKept store max)) o os h))

-- ---- frames before others

abbrev Expanded : Type 0
Expanded = Result (List FullFrame) ℕ

abbrev all_before : List FullFrame → Expanded → Expanded
all_before [] r = r
all_before (f ∷ fs) r = put_before f (all_before fs r)

before_last : (fs : List FullFrame) (f : FullFrame) (r : Expanded) → all_before fs (put_before f r) ≡ all_before (fs ++ f ∷ []) r
before_last [] f r = refl
before_last (g ∷ fs) f r = ap (put_before g) (before_last fs f r)

before_none : (fs : List FullFrame) → all_before fs (Ok []) ≡ Ok fs
before_none [] = refl
before_none (f ∷ fs) = ap (put_before f) (before_none fs)

before_fault : (fs : List FullFrame) (at : ℕ) → all_before fs (Err at) ≡ Err at
before_fault [] at = refl
before_fault (f ∷ fs) at = ap (put_before f) (before_fault fs at)

stated_last : (fs : List FullFrame) (f : FullFrame) (to : ℕ) → stated_at to (fs ++ f ∷ []) ≡ stated_or (stated_at to fs) (if nat_eq f.at to then Some f.types else None)
stated_last [] f to = refl
stated_last (g ∷ fs) f to =
    ap (λ o. if nat_eq g.at to then Some g.types else o) (stated_last fs f to) ∙ by_test (nat_eq g.at to)
  where
    by_test : (b : Bool) → (if b then Some g.types else stated_or (stated_at to fs) (if nat_eq f.at to then Some f.types else None)) ≡ stated_or (if b then Some g.types else stated_at to fs) (if nat_eq f.at to then Some f.types else None)
    by_test true = refl
    by_test false = refl

-- ---- what was expanded so far

-- what the rules make of frames behind locals of these types, the last one first
abbrev pub expansion_in : List Named → LinkedMethod → LinkedCode → List SlotType → List Difference → Expanded
expansion_in ns m code ts ds = expand_from m code (types_in ns (reverse ts)) (map (frame_in ns) ds)

pub record IsSoFar (ns : List Named) (m : LinkedMethod) (code : LinkedCode) (first now : List SlotType) (ds left : List Difference) (fs : List (Option StatedTypes)) : Type 0 where
  pub fulls : List FullFrame
  pub is : expansion_in ns m code first ds ≡ all_before fulls (expansion_in ns m code now left)
  pub each : (to : ℕ) → stated_at to fulls ≡ option_map (stated_types ns) (frame_at fs to)

pub record HasExpanded (x : MethodCode) (first : List SlotType) (ds left : List Difference) (store : List Local) (l : Locals) (frames : List (Option StatedFrame)) : Type 0 where
  pub right : AreRight x store l
  pub kept : AreKept store x.code.now.max_locals frames
  pub so_far :
      (ns : List Named) (m : LinkedMethod) (code : LinkedCode) → IsOf x m code
      → IsSoFar ns m code first (types_down store l) ds left (table_of store x.code.now.max_locals frames)

pub none_yet : (x : MethodCode) (first : List SlotType) (ds : List Difference) (store : List Local) (l : Locals) (frames : List (Option StatedFrame)) → AreRight x store l → types_down store l ≡ first → frames ≡ [] → HasExpanded x first ds ds store l frames
none_yet x first ds store l frames right down e = record {
  right = right;
  kept = subst (AreKept store x.code.now.max_locals) (sym e) (All-nil (λ o. IfSome o (IsKept store x.code.now.max_locals)));
  so_far = λ ns m code h. record {
    fulls = [];
    is = ap (λ ts. expansion_in ns m code ts ds) (sym down);
    each = λ to. sym (ap (λ fs. option_map (stated_types ns) (frame_at (table_of store x.code.now.max_locals fs) to)) e);
  };
}

-- the table of a step
module _ (ns : List Named) (store : List Local) (max : ℕ) where
  abbrev meant : Option StatedFrame → Option FrameTypes
  meant o = option_map (stated_types ns) (option_map (kept_types store max) o)

  pub meant_at : (frames : List (Option StatedFrame)) (to : ℕ) → option_map (stated_types ns) (frame_at (table_of store max frames) to) ≡ meant (filled (slice_get frames to))
  meant_at frames to = ap (option_map (stated_types ns)) (in_table store max frames to)

  pub joined : (o : Option StatedFrame) (b : Bool) (f : StatedFrame) (t : FrameTypes) → t ≡ stated_types ns (kept_types store max f) → stated_or (meant o) (if b then Some t else None) ≡ meant (or_this o (if b then Some f else None))
  joined None true f t e = ap Some e
  joined None false f t e = refl
  joined (Some g) true f t e = refl
  joined (Some g) false f t e = refl

module _ (x : MethodCode) (first : List SlotType) (ds left : List Difference) (store new : List Local) (l : Locals) (frames more : List (Option StatedFrame)) (d : Difference) (f : StatedFrame) (so : HasExpanded x first ds (d ∷ left) store l frames) (stay : StayRight store new) (by : IsFrameBy x (types_down store l) d new f) where
  abbrev max : ℕ
  max = x.code.now.max_locals

  is_kept : IsKept new max f
  is_kept = record { are = by.locals.right.are; within = few x max (types_down new f.locals) by.locals.right.fit }

  one_so_far : IsPut frames d.at f more → (ns : List Named) (m : LinkedMethod) (code : LinkedCode) → IsOf x m code → IsSoFar ns m code first (types_down new f.locals) ds left (table_of new max more)
  one_so_far put ns m code h =
      let s = so.so_far ns m code h in
      let full = full_of x m code h ns d.at (types_down new f.locals) f.stack in
      let go : List VType → Expanded = λ next. expand_from m code next (map (frame_in ns) left) in
      let types : full.types ≡ stated_types ns (kept_types new max f) = ap (λ n. full_frame n (types_in ns (reverse (types_down new f.locals))) (types_in ns f.stack)) (ap (λ c. c.max_locals) h.code) in
      record {
        fulls = s.fulls ++ full ∷ [];
        is = s.is ∙ ap (all_before s.fulls) (steps x m code h ns (types_down store l) d new f by go) ∙ before_last s.fulls full (go (types_in ns (reverse (types_down new f.locals))));
        each = λ to.
            stated_last s.fulls full to
            ∙ ap (λ o. stated_or o (if nat_eq d.at to then Some full.types else None))
            (s.each to ∙ ap (λ fs. option_map (stated_types ns) (frame_at fs to)) (sym (table_stays store new max stay frames so.kept)) ∙ meant_at ns new max frames to)
            ∙ joined ns new max (filled (slice_get frames to)) (nat_eq d.at to) f full.types types
            ∙ ap (meant ns new max) (sym (put to)) ∙ sym (meant_at ns new max more to);
      }

  pub one_more : IsPut frames d.at f more → StayKept frames f more → HasExpanded x first ds left new f.locals more
  one_more put kept = record {
    right = by.locals.right;
    kept = kept new max (all_stay store new max stay frames so.kept) is_kept;
    so_far = one_so_far put;
  }

-- ---- the end

-- the first locals
module _ (x : MethodCode) (first : List SlotType) (store : List Local) (l : Locals) (are : AreLocals store l (reverse first)) where
  pub first_down : types_down store l ≡ reverse first
  first_down = down_is store l (reverse first) are

  pub first_right : AreFirst x first → AreRight x store l
  first_right h = record {
    are = subst (AreLocals store l) (sym first_down) are;
    fit = ap (fits x x.code.now.max_locals) first_down ∙ fits_turned x x.code.now.max_locals first ∙ first_fits x first h;
  }

  pub begin : AreFirst x first → (ds : List Difference) (frames : List (Option StatedFrame)) → frames ≡ [] → HasExpanded x (reverse first) ds ds store l frames
  begin h ds frames e = none_yet x (reverse first) ds store l frames (first_right h) first_down e

same_expansion : (x : MethodCode) (first : List SlotType) (ds : List Difference) (ns : List Named) (n : Name) (m : LinkedMethod) (code : LinkedCode) → IsMethodOf x first ds ns n m code → expand n m code ≡ expansion_in ns m code (reverse first) ds
same_expansion x first ds ns n m code h =
    ap (λ items. expand_from m code items code.frames) (sym h.first ∙ sym (ap (types_in ns) (reverse-reverse first)))
    ∙ ap (expand_from m code (types_in ns (reverse (reverse first)))) (sym h.frames)

module _ (x : MethodCode) (first : List SlotType) (ds : List Difference) (store : List Local) (l : Locals) (frames : List (Option StatedFrame)) where
  -- all can be expanded
  pub all_expanded : (left : List Difference) → left ≡ [] → HasExpanded x (reverse first) ds left store l frames → (made : List (Option StatedTypes)) → made ≡ table_of store x.code.now.max_locals frames → (ns : List Named) (n : Name) (m : LinkedMethod) (code : LinkedCode) → IsMethodOf x first ds ns n m code → AreInFull ns made (expand n m code)
  all_expanded left e so made is ns n m code h =
      let s = so.so_far ns m code h.method in
      record {
        frames = s.fulls;
        is = same_expansion x first ds ns n m code h ∙ s.is ∙ ap (λ ls. all_before s.fulls (expansion_in ns m code (types_down store l) ls)) e ∙ before_none s.fulls;
        each = λ to. s.each to ∙ ap (λ gs. option_map (stated_types ns) (frame_at gs to)) (sym is);
      }

  -- this one can't
  pub one_fails : (left : List Difference) (d : Difference) → HasExpanded x (reverse first) ds (d ∷ left) store l frames → is_framed x (types_down store l) d ≡ false → (ns : List Named) (n : Name) (m : LinkedMethod) (code : LinkedCode) → IsMethodOf x first ds ns n m code → expand n m code ≡ Err d.at
  one_fails left d so e ns n m code h =
      let s = so.so_far ns m code h.method in
      same_expansion x first ds ns n m code h ∙ s.is
      ∙ ap (all_before s.fulls) (fails x m code h.method ns (types_down store l) d e (λ next. expand_from m code next (map (frame_in ns) left)))
      ∙ before_fault s.fulls d.at
