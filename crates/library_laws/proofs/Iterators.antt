-- Iterators, and what makes collections.
use Rattle.std.proofs.Common.{◌≡◌, ℕ, ℤ, ◌+◌, ◌*◌, Bool, true, false, List, [], ◌∷◌, Option, Some, None, refl, sym, subst, arith, inl, inr, ⊎_elim}
use Rattle.std.specs.Prelude.{pos, negsuc, ◌+ℤ◌, nat_lt, slice_get, codes}
use Rattle.program_rules.specs.declared.value.Value.{Value}
use Rattle.program_rules.specs.declared.fault.Fault.TheVariants.{NoSuchElementException}
use Rattle.program_rules.specs.Names.{Name, object_name}
use Rattle.program_rules.specs.Kinds.{Kind, OfBoolean, OfByte, OfChar, OfShort, OfInt, OfLong, OfReference}
use Rattle.program_rules.specs.Objects.{Object, ObjectKind, Plain, ArrayOf}
use Rattle.program_rules.specs.Programs.{Look}
use Rattle.program_rules.specs.Deeds.{Deed, Changes, Throws, SetItems, on_some}
use Rattle.program_rules.specs.Natives.{on_object}
use Rattle.library_rules.specs.Arguments.{place_of, gives_bool}
use Rattle.library_rules.specs.Collections.{makes_list, empty_list, empty_set, as_list, cursor, list_iterator, set_iterator, on_cursor, element_place, element, on_next, has_next, next}
use Rattle.type_rules.specs.References.{classes_of}
use Rattle.type_laws.specs.Values.{MayRefer, kind_within, IsThere, Keeping, Elements, Entries, Cursor, AllKept, AllEntries, IsKeeper, GoesOver, CursorFits, ItemsFit, KeptFits, ContentFits, HeapFits}
use Rattle.type_laws.specs.Soundness.{DeedFits}
use Rattle.library_laws.specs.KeepingHosts.{IsKeepingHost}
use Rattle.library_laws.specs.Fits.{FitsAs}
use Rattle.library_laws.proofs.Forms.{of_none, of_value, of_this, on_its_object, on_needed_object}
use Rattle.library_laws.proofs.Keepers.{IsKept, keeper, its_items, changed, made_items, lists, sets, iterators}
use Rattle.library_laws.proofs.Elements.{of_either, is_object, each_there, kept_at}
use Rattle.library_laws.proofs.Triples.{key_at}

-- ---- what comes next

module _ (h : List Object) where
  -- What may come next, if anything does, is null or an object.
  abbrev MayCome : Option Value → Type 0
  MayCome o = (v : Value) → o ≡ Some v → MayRefer (IsThere h) v

  nothing_comes : MayCome None
  nothing_comes v e = absurd cc

  next_element : (vs : List Value) (y : ℤ) → AllKept h vs → MayCome (element vs (place_of y) (place_of (pos 1)))
  next_element vs (pos k) a = of_either MayCome (nat_lt k 2147483647) (slice_get vs (element_place k 1)) None (λ v e. kept_at h vs (element_place k 1) v a e) nothing_comes
  next_element vs (negsuc k) a = nothing_comes

  key_place : (k : ℕ) → element_place k 3 ≡ 3 * k + 1
  key_place k = omega arith

  next_key : (vs : List Value) (y : ℤ) → AllEntries h vs → MayCome (element vs (place_of y) (place_of (pos 3)))
  next_key vs (pos k) a = of_either MayCome (nat_lt k 2147483647) (slice_get vs (element_place k 3)) None (λ v e. key_at h k vs v a (subst (λ j. slice_get vs j ≡ Some v) (key_place k) e)) nothing_comes
  next_key vs (negsuc k) a = nothing_comes

module _ (p : Look) (r : Option Kind) (h : List Object) (f : HeapFits p h) where
  abbrev Fits : Deed → Type 0
  Fits d = DeedFits p h r d

  kept_by : (k : Keeping) (x : ℕ) (w : IsKeeper p h k x) → ItemsFit p h k w.object.items
  kept_by k x w =
      let a : KeptFits p h (Plain w.class) w.object.items = subst (λ z. KeptFits p h z w.object.items) w.plain (f x w.object w.there).2 in
      subst (λ z. ItemsFit p h z w.object.items) w.keeps a

  of_cursor : (vs : List Value) (none : Deed) (go : ℕ → ℤ → ℤ → Deed) → CursorFits p h vs → Fits none → ((x : ℕ) (y z : ℤ) → GoesOver p h x z → Fits (go x y z)) → Fits (on_cursor vs none go)
  of_cursor [] none go a d each = d
  of_cursor (v ∷ vs) none go a d each = subst (λ us. Fits (on_cursor us none go)) (sym a.is) (each a.over a.place a.width a.goes)

  of_coming : (go : Option Value → Deed) (o : Option Value) → MayCome h o → Fits (go None) → ((v : Value) → MayRefer (IsThere h) v → Fits (go (Some v))) → Fits (go o)
  of_coming go None a d each = d
  of_coming go (Some v) a d each = each v (a v refl)

  -- the object that is gone over
  over : (go : ℕ → ℤ → ℤ → Option Value → Deed) (x : ℕ) (y z : ℤ) → GoesOver p h x z → Fits (go x y z None) → ((v : Value) → MayRefer (IsThere h) v → Fits (go x y z (Some v))) → Fits (on_object h x (λ list. go x y z (element list.items (place_of y) (place_of z))))
  over go x y z a d each = ⊎_elim (λ i. elements i.0 i.1) (λ i. entries i.0 i.1) a
    where
      elements : z ≡ pos 1 → IsKeeper p h Elements x → Fits (on_object h x (λ list. go x y z (element list.items (place_of y) (place_of z))))
      elements e w =
          subst (λ o. Fits (on_some o (λ list. go x y z (element list.items (place_of y) (place_of z))))) (sym w.there)
          (of_coming (go x y z) (element w.object.items (place_of y) (place_of z)) (subst (λ u. MayCome h (element w.object.items (place_of y) (place_of u))) (sym e) (next_element h w.object.items y (kept_by Elements x w))) d each)

      entries : z ≡ pos 3 → IsKeeper p h Entries x → Fits (on_object h x (λ list. go x y z (element list.items (place_of y) (place_of z))))
      entries e w =
          subst (λ o. Fits (on_some o (λ list. go x y z (element list.items (place_of y) (place_of z))))) (sym w.there)
          (of_coming (go x y z) (element w.object.items (place_of y) (place_of z)) (subst (λ u. MayCome h (element w.object.items (place_of y) (place_of u))) (sym e) (next_key h w.object.items y (kept_by Entries x w))) d each)

  of_next : (o : Object) (none : Deed) (go : ℕ → ℤ → ℤ → Option Value → Deed) → CursorFits p h o.items → Fits none → ((x : ℕ) (y z : ℤ) → Fits (go x y z None)) → ((x : ℕ) (y z : ℤ) (v : Value) → GoesOver p h x z → MayRefer (IsThere h) v → Fits (go x y z (Some v))) → Fits (on_next h o none go)
  of_next o none go a d past each = of_cursor o.items none _ a d (λ x y z g. over go x y z g (past x y z) (λ v m. each x y z v g m))

-- ---- iterators

abbrev object : Kind
object = OfReference object_name

abbrev iterator : Kind
iterator = OfReference (codes "java/util/Iterator")

abbrev list : Kind
list = OfReference (codes "java/util/List")

abbrev set : Kind
set = OfReference (codes "java/util/Set")

-- what `has_next` and `next` do with what comes
abbrev is_any : Option Value → Bool
is_any None = false
is_any (Some v) = true

abbrev step : ℕ → ℕ → ℤ → ℤ → Option Value → Deed
step i x y z None = Throws NoSuchElementException
step i x y z (Some v) = Changes i (SetItems (cursor x (y +ℤ pos 1) z)) 0 (Some v)

module _ (p : Look) (n : Name) where
  module _ (class : IsKept p n Cursor) where
    pub has_next_fits : FitsAs p n false [] (Some OfBoolean) has_next
    has_next_fits =
        of_this p n (Some OfBoolean) has_next (λ h x f i. on_its_object p n (Some OfBoolean) h x i _
        (of_next p (Some OfBoolean) h f i.object (gives_bool false) (λ y place width o. gives_bool (is_any o)) (its_items p n Cursor class h x f i) tt (λ y place width. tt) (λ y place width v g m. tt)))

    moved : (h : List Object) (x : ℕ) (place width : ℤ) → GoesOver p h x width → CursorFits p h (cursor x place width)
    moved h x place width g = record { over = x; place = place; width = width; is = refl; goes = g }

    pub next_fits : FitsAs p n false [] (Some object) next
    next_fits =
        of_this p n (Some object) next (λ h x f i. on_its_object p n (Some object) h x i _
        (of_next p (Some object) h f i.object (Throws NoSuchElementException) (step x) (its_items p n Cursor class h x f i) tt (λ y place width. tt) (λ y place width v g m.
        (changed p n Cursor class h x f i (SetItems (cursor y (place +ℤ pos 1) width)) (cursor y (place +ℤ pos 1) width) refl (moved h y (place +ℤ pos 1) width g), is_object (classes_of p) h v m))))

  module _ (host : IsKeepingHost p) where
    abbrev AtFirst : List Object → ℕ → ℤ → Type 0
    AtFirst h x width = CursorFits p h (cursor x (pos 0) width)

    begun : (h : List Object) (x : ℕ) (width : ℤ) → GoesOver p h x width → KeptFits p h (Plain (codes "mt/Iter")) (cursor x (pos 0) width)
    begun h x width g = made_items p (codes "mt/Iter") Cursor (iterators p host) h (cursor x (pos 0) width) (record { over = x; place = pos 0; width = width; is = refl; goes = g })

    pub of_list_fits : IsKept p n Elements → FitsAs p n false [] (Some iterator) list_iterator
    of_list_fits class = of_this p n (Some iterator) list_iterator (λ h x f i. (host.makes_iterator, begun h x (pos 1) (inl (refl, keeper p n Elements class h x f i))))

    pub of_set_fits : IsKept p n Entries → FitsAs p n false [] (Some iterator) set_iterator
    of_set_fits class = of_this p n (Some iterator) set_iterator (λ h x f i. (host.makes_iterator, begun h x (pos 3) (inr (refl, keeper p n Entries class h x f i))))

    -- ---- collections that are made

    new_list : (h : List Object) (vs : List Value) → AllKept h vs → DeedFits p h (Some list) (makes_list vs)
    new_list h vs a = (host.makes_list, made_items p (codes "java/util/ArrayList") Elements (lists p host) h vs a)

    pub empty_list_fits : FitsAs p n true [] (Some list) empty_list
    empty_list_fits = of_none p n (Some list) empty_list (λ h f. new_list h [] tt)

    pub empty_set_fits : FitsAs p n true [] (Some set) empty_set
    empty_set_fits = of_none p n (Some set) empty_set (λ h f. (host.makes_set, made_items p (codes "java/util/HashSet") Entries (sets p host) h [] tt))

    -- an array of objects holds such
    array_elements : (h : List Object) (k : ObjectKind) (vs : List Value) → kind_within (classes_of p) k (codes "[Ljava/lang/Object;") ≡ true → ContentFits p h k vs → AllKept h vs
    array_elements h (Plain c) vs w a = absurd cc
    array_elements h (ArrayOf OfBoolean) vs w a = absurd cc
    array_elements h (ArrayOf OfByte) vs w a = absurd cc
    array_elements h (ArrayOf OfChar) vs w a = absurd cc
    array_elements h (ArrayOf OfShort) vs w a = absurd cc
    array_elements h (ArrayOf OfInt) vs w a = absurd cc
    array_elements h (ArrayOf OfLong) vs w a = absurd cc
    array_elements h (ArrayOf (OfReference c)) vs w a = each_there (classes_of p) h c vs a

    pub as_list_fits : FitsAs p n true (OfReference (codes "[Ljava/lang/Object;") ∷ []) (Some list) as_list
    as_list_fits =
        of_value p n (Some list) as_list (OfReference (codes "[Ljava/lang/Object;")) (λ h v f o. on_needed_object p (Some list) h (codes "[Ljava/lang/Object;") v o _ (λ x i.
        new_list h i.object.values (array_elements h i.object.kind i.object.values i.within (f x i.object i.there).1)))
