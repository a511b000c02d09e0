-- Hashed, HashMap and HashSet.
use Rattle.std.proofs.Common.{◌+◌, ◌*◌, false, [], ◌∷◌, ◌++◌, Some, None, refl}
use Rattle.std.specs.Prelude.{slice_set, codes}
use Rattle.program_rules.specs.declared.value.Value.TheVariants.{Int}
use Rattle.program_rules.specs.Names.{Name, object_name}
use Rattle.program_rules.specs.Kinds.{Kind, OfInt, OfReference}
use Rattle.program_rules.specs.Programs.{Look}
use Rattle.program_rules.specs.Deeds.{AddItems, SetItem, CutEntry, remove_entry}
use Rattle.library_rules.specs.Arguments.{on_receiver, on_receiver_int}
use Rattle.library_rules.specs.Collections.{entry_count, entry_hash, entry_key, entry_value, set_entry_value, add_entry, cut_entry, key_set, value_list, keys_of_entries, values_of_entries}
use Rattle.type_rules.specs.References.{classes_of}
use Rattle.type_laws.specs.Values.{Elements, Entries}
use Rattle.library_laws.specs.KeepingHosts.{IsKeepingHost}
use Rattle.library_laws.specs.Fits.{FitsAs}
use Rattle.library_laws.proofs.Forms.{of_this, of_this_int, of_this_int_value, of_this_int_values, on_its_object}
use Rattle.library_laws.proofs.Keepers.{IsKept, its_items, changed, made_items, lists, sets}
use Rattle.library_laws.proofs.Elements.{is_there, is_object}
use Rattle.library_laws.proofs.Placed.{of_entry}
use Rattle.library_laws.proofs.Triples.{entries_joined, hash_at, key_at, value_at, with_value, without_entry, keys_are, values_are}

abbrev object : Kind
object = OfReference object_name

module _ (p : Look) (n : Name) where
  pub count_fits : FitsAs p n false [] (Some OfInt) entry_count
  unfolding on_receiver
  count_fits = of_this p n (Some OfInt) entry_count (λ h x f i. on_its_object p n (Some OfInt) h x i _ tt)

  module _ (class : IsKept p n Entries) where
    pub hash_fits : FitsAs p n false (OfInt ∷ []) (Some OfInt) entry_hash
    unfolding on_receiver_int
    hash_fits =
        of_this_int p n (Some OfInt) entry_hash (λ h x z f i. on_its_object p n (Some OfInt) h x i _ (
        of_entry p (Some OfInt) h _ 0 i.object.items z (λ j u e. hash_at h j i.object.items u (its_items p n Entries class h x f i) e)
        ))

    pub key_fits : FitsAs p n false (OfInt ∷ []) (Some object) entry_key
    unfolding on_receiver_int
    key_fits =
        of_this_int p n (Some object) entry_key (λ h x z f i. on_its_object p n (Some object) h x i _ (
        of_entry p (Some object) h _ 1 i.object.items z (λ j u e. is_object (classes_of p) h u (key_at h j i.object.items u (its_items p n Entries class h x f i) e))
        ))

    pub value_fits : FitsAs p n false (OfInt ∷ []) (Some object) entry_value
    unfolding on_receiver_int
    value_fits =
        of_this_int p n (Some object) entry_value (λ h x z f i. on_its_object p n (Some object) h x i _ (
        of_entry p (Some object) h _ 2 i.object.items z (λ j u e. is_object (classes_of p) h u (value_at h j i.object.items u (its_items p n Entries class h x f i) e))
        ))

    pub set_value_fits : FitsAs p n false (OfInt ∷ object ∷ []) (Some object) set_entry_value
    set_value_fits =
        of_this_int_value p n (Some object) set_entry_value object (λ h x z v f i o. on_its_object p n (Some object) h x i _ (
        let a = its_items p n Entries class h x f i in
        of_entry p (Some object) h _ 2 i.object.items z (λ j u e. (changed p n Entries class h x f i (SetItem (3 * j + 2) v) (slice_set i.object.items (3 * j + 2) v) refl (with_value h j i.object.items v a (is_there (classes_of p) h object_name v o)), is_object (classes_of p) h u (value_at h j i.object.items u a e)))
        ))

    pub add_fits : FitsAs p n false (OfInt ∷ object ∷ object ∷ []) None add_entry
    add_fits =
        of_this_int_values p n None add_entry object object (λ h x z u v f i o q.
        (changed p n Entries class h x f i (AddItems (Int z ∷ u ∷ v ∷ [])) (i.object.items ++ Int z ∷ u ∷ v ∷ []) refl (entries_joined h i.object.items (Int z ∷ u ∷ v ∷ []) (its_items p n Entries class h x f i) (tt, is_there (classes_of p) h object_name u o, is_there (classes_of p) h object_name v q, tt)), tt))

    pub cut_fits : FitsAs p n false (OfInt ∷ []) (Some object) cut_entry
    cut_fits =
        of_this_int p n (Some object) cut_entry (λ h x z f i. on_its_object p n (Some object) h x i _ (
        let a = its_items p n Entries class h x f i in
        of_entry p (Some object) h _ 2 i.object.items z (λ j u e. (changed p n Entries class h x f i (CutEntry (3 * j)) (remove_entry (3 * j) i.object.items) refl (without_entry h j i.object.items a), is_object (classes_of p) h u (value_at h j i.object.items u a e)))
        ))

    module _ (host : IsKeepingHost p) where
      pub keys_fit : FitsAs p n false [] (Some (OfReference (codes "java/util/Set"))) key_set
      unfolding on_receiver
      keys_fit =
          of_this p n (Some (OfReference (codes "java/util/Set"))) key_set (λ h x f i. on_its_object p n (Some (OfReference (codes "java/util/Set"))) h x i _
          (host.makes_set, made_items p (codes "java/util/HashSet") Entries (sets p host) h (keys_of_entries i.object.items) (keys_are h i.object.items (its_items p n Entries class h x f i))))

      pub values_fit : FitsAs p n false [] (Some (OfReference (codes "java/util/Collection"))) value_list
      unfolding on_receiver
      values_fit =
          of_this p n (Some (OfReference (codes "java/util/Collection"))) value_list (λ h x f i. on_its_object p n (Some (OfReference (codes "java/util/Collection"))) h x i _
          (host.makes_values, made_items p (codes "java/util/ArrayList") Elements (lists p host) h (values_of_entries i.object.items) (values_are h i.object.items (its_items p n Entries class h x f i))))
