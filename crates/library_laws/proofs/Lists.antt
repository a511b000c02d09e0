-- ArrayList, and what maps and sets have from it.
use Rattle.std.proofs.Common.{◌≡◌, ℕ, ℤ, Bool, false, List, [], ◌∷◌, ◌++◌, length, Option, Some, None, refl}
use Rattle.std.specs.Prelude.{pos, negsuc, slice_get, slice_set}
use Rattle.program_rules.specs.declared.value.Value.{Value}
use Rattle.program_rules.specs.declared.value.Value.TheVariants.{Int, Ref}
use Rattle.program_rules.specs.declared.fault.Fault.TheVariants.{UnsupportedOperationException}
use Rattle.program_rules.specs.Names.{Name, object_name}
use Rattle.program_rules.specs.Kinds.{Kind, OfBoolean, OfInt, OfReference}
use Rattle.program_rules.specs.Objects.{Object}
use Rattle.program_rules.specs.Programs.{Look}
use Rattle.program_rules.specs.Deeds.{SetItems, AddItems, InsertItem, SetItem, CutItem, insert_item, remove_item}
use Rattle.program_rules.specs.Natives.{add_element, element_of_list, item_or_fault, item_at}
use Rattle.library_rules.specs.Arguments.{on_receiver, place_of}
use Rattle.library_rules.specs.Collections.{list_of_capacity, list_size, has_no_items, clear_items, set_element, insert_element, remove_element, up_to, unsupported}
use Rattle.type_rules.specs.References.{classes_of}
use Rattle.type_laws.specs.Values.{Keeping, Elements, IsThere, AllKept, MayRefer}
use Rattle.type_laws.specs.Soundness.{DeedFits}
use Rattle.type_laws.proofs.Kept.{nothing_fits}
use Rattle.library_laws.specs.Fits.{FitsAs}
use Rattle.library_laws.proofs.Forms.{throwing_fits, of_this, of_this_int, of_this_value, of_this_int_value, on_its_object}
use Rattle.library_laws.proofs.Keepers.{IsKept, its_items, changed}
use Rattle.library_laws.proofs.Elements.{is_there, is_object, all_joined, all_with, all_inserted, all_cut, kept_at}
use Rattle.library_laws.proofs.Placed.{of_place, of_item}

module _ (p : Look) (n : Name) where
  pub unsupported_fits : (static : Bool) (ks : List Kind) (r : Option Kind) → FitsAs p n static ks r unsupported
  unsupported_fits static ks r = throwing_fits p n r static ks UnsupportedOperationException

  capacity_done : (h : List Object) (x : ℕ) (z : ℤ) → DeedFits p h None (list_of_capacity h (Ref x ∷ Int z ∷ []))
  capacity_done h x (pos k) = tt
  capacity_done h x (negsuc k) = tt

  pub capacity_fits : FitsAs p n false (OfInt ∷ []) None list_of_capacity
  capacity_fits = of_this_int p n None list_of_capacity (λ h x z f i. capacity_done h x z)

  pub size_fits : FitsAs p n false [] (Some OfInt) list_size
  unfolding on_receiver
  size_fits = of_this p n (Some OfInt) list_size (λ h x f i. on_its_object p n (Some OfInt) h x i _ tt)

  pub empty_fits : FitsAs p n false [] (Some OfBoolean) has_no_items
  unfolding on_receiver
  empty_fits = of_this p n (Some OfBoolean) has_no_items (λ h x f i. on_its_object p n (Some OfBoolean) h x i _ tt)

  -- whatever is kept
  pub clear_fits : (k : Keeping) → IsKept p n k → FitsAs p n false [] None clear_items
  clear_fits k class = of_this p n None clear_items (λ h x f i. (changed p n k class h x f i (SetItems []) [] refl (nothing_fits p h k), tt))

  module _ (class : IsKept p n Elements) where
    abbrev object : Kind
    object = OfReference object_name

    got : (h : List Object) (vs : List Value) (o : Option Value) → ((v : Value) → o ≡ Some v → MayRefer (IsThere h) v) → DeedFits p h (Some object) (item_or_fault o)
    got h vs None f = tt
    got h vs (Some v) f = is_object (classes_of p) h v (f v refl)

    got_at : (h : List Object) (vs : List Value) (z : ℤ) → AllKept h vs → DeedFits p h (Some object) (item_or_fault (item_at vs z))
    got_at h vs (pos k) a = got h vs (slice_get vs k) (λ v e. kept_at h vs k v a e)
    got_at h vs (negsuc k) a = tt

    pub get_fits : FitsAs p n false (OfInt ∷ []) (Some object) element_of_list
    get_fits = of_this_int p n (Some object) element_of_list (λ h x z f i. on_its_object p n (Some object) h x i _ (got_at h i.object.items z (its_items p n Elements class h x f i)))

    pub set_fits : FitsAs p n false (OfInt ∷ object ∷ []) (Some object) set_element
    set_fits =
        of_this_int_value p n (Some object) set_element object (λ h x z v f i o. on_its_object p n (Some object) h x i _ (
        let a = its_items p n Elements class h x f i in
        of_item p (Some object) h _ i.object.items z (λ j u e. (changed p n Elements class h x f i (SetItem j v) (slice_set i.object.items j v) refl (all_with h i.object.items j v a (is_there (classes_of p) h object_name v o)), is_object (classes_of p) h u (kept_at h i.object.items j u a e)))
        ))

    pub add_fits : FitsAs p n false (object ∷ []) (Some OfBoolean) add_element
    add_fits =
        of_this_value p n (Some OfBoolean) add_element object (λ h x v f i o.
        (changed p n Elements class h x f i (AddItems (v ∷ [])) (i.object.items ++ v ∷ []) refl (all_joined h i.object.items (v ∷ []) (its_items p n Elements class h x f i) (is_there (classes_of p) h object_name v o, tt)), tt))

    pub insert_fits : FitsAs p n false (OfInt ∷ object ∷ []) None insert_element
    insert_fits =
        of_this_int_value p n None insert_element object (λ h x z v f i o. on_its_object p n None h x i _ (
        of_place p None h _ (up_to (length i.object.items) (place_of z)) (λ j. (changed p n Elements class h x f i (InsertItem j v) (insert_item j v i.object.items) refl (all_inserted h j v i.object.items (its_items p n Elements class h x f i) (is_there (classes_of p) h object_name v o)), tt))
        ))

    pub remove_fits : FitsAs p n false (OfInt ∷ []) (Some object) remove_element
    remove_fits =
        of_this_int p n (Some object) remove_element (λ h x z f i. on_its_object p n (Some object) h x i _ (
        let a = its_items p n Elements class h x f i in
        of_item p (Some object) h _ i.object.items z (λ j u e. (changed p n Elements class h x f i (CutItem j) (remove_item j i.object.items) refl (all_cut h j i.object.items a), is_object (classes_of p) h u (kept_at h i.object.items j u a e)))
        ))
