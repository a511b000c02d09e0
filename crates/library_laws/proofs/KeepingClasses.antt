-- The classes that keep items, row by row.
use Rattle.std.proofs.Common.{false, [], ◌∷◌, refl, codes}
use Rattle.std.specs.Char.Utf16.{utf16_chars}
use Rattle.class_model.specs.DescriptorReading.{parameters_at}
use Rattle.program_rules.specs.Names.{object_name}
use Rattle.program_rules.specs.Kinds.{OfReference}
use Rattle.program_rules.specs.Programs.{Look}
use Rattle.lib_table.specs.Collected.{array_list_methods, hashed_methods, hash_map_methods, hash_set_methods, iter_methods, collections_methods, arrays_methods, list_classes, hash_classes, utility_classes, collections}
use Rattle.lib_table.specs.LangClasses.{enum_methods, optional_methods, objects}
use Rattle.type_laws.specs.Values.{Elements, Entries}
use Rattle.library_laws.specs.KeepingHosts.{IsKeepingHost}
use Rattle.library_laws.specs.Fits.{AllFit}
use Rattle.library_laws.specs.Fitting.{keeping_objects}
use Rattle.library_laws.proofs.Keepers.{lists, optionals, hashed, maps, sets, iterators, enums}
use Rattle.library_laws.proofs.Rows.{RowsFit, native_fits, of_rows, of_classes, ◌&◌}
use Rattle.library_laws.proofs.Objects as object
use Rattle.library_laws.proofs.Lists as list
use Rattle.library_laws.proofs.Maps as map
use Rattle.library_laws.proofs.Iterators as iterator
use Rattle.library_laws.proofs.Enums as enum
use Rattle.library_laws.proofs.Optionals as optional

module _ (p : Look) (host : IsKeepingHost p) where
  list_rows : RowsFit p (codes "java/util/ArrayList") array_list_methods
  unfolding parameters_at utf16_chars
  list_rows =
      let n = codes "java/util/ArrayList" in
      let c = lists p host in
      native_fits p n (object.do_nothing_fits p n false []) (λ pool. refl)
      & native_fits p n (list.capacity_fits p n) (λ pool. refl)
      & native_fits p n (list.size_fits p n) (λ pool. refl)
      & native_fits p n (list.empty_fits p n) (λ pool. refl)
      & native_fits p n (list.get_fits p n c) (λ pool. refl)
      & native_fits p n (list.set_fits p n c) (λ pool. refl)
      & native_fits p n (list.add_fits p n c) (λ pool. refl)
      & native_fits p n (list.insert_fits p n c) (λ pool. refl)
      & native_fits p n (list.remove_fits p n c) (λ pool. refl)
      & native_fits p n (list.clear_fits p n Elements c) (λ pool. refl)
      & native_fits p n (iterator.of_list_fits p n host c) (λ pool. refl)
      & native_fits p n (list.unsupported_fits p n false [] _) (λ pool. refl)
      & native_fits p n (list.unsupported_fits p n false [] _) (λ pool. refl)
      & tt

  hashed_rows : RowsFit p (codes "mt/Hashed") hashed_methods
  unfolding parameters_at utf16_chars
  hashed_rows =
      let n = codes "mt/Hashed" in
      let c = hashed p host in
      native_fits p n (map.count_fits p n) (λ pool. refl)
      & native_fits p n (map.hash_fits p n c) (λ pool. refl)
      & native_fits p n (map.key_fits p n c) (λ pool. refl)
      & native_fits p n (map.value_fits p n c) (λ pool. refl)
      & native_fits p n (map.set_value_fits p n c) (λ pool. refl)
      & native_fits p n (map.add_fits p n c) (λ pool. refl)
      & native_fits p n (map.cut_fits p n c) (λ pool. refl)
      & tt

  map_rows : RowsFit p (codes "java/util/HashMap") hash_map_methods
  unfolding parameters_at utf16_chars
  map_rows =
      let n = codes "java/util/HashMap" in
      let c = maps p host in
      native_fits p n (object.do_nothing_fits p n false []) (λ pool. refl)
      & native_fits p n (map.count_fits p n) (λ pool. refl)
      & native_fits p n (list.empty_fits p n) (λ pool. refl)
      & native_fits p n (list.clear_fits p n Entries c) (λ pool. refl)
      & native_fits p n (list.unsupported_fits p n false (OfReference object_name ∷ []) _) (λ pool. refl)
      & native_fits p n (list.unsupported_fits p n false [] _) (λ pool. refl)
      & native_fits p n (list.unsupported_fits p n false [] _) (λ pool. refl)
      & native_fits p n (map.keys_fit p n c host) (λ pool. refl)
      & native_fits p n (map.values_fit p n c host) (λ pool. refl)
      & tt

  set_rows : RowsFit p (codes "java/util/HashSet") hash_set_methods
  unfolding parameters_at utf16_chars
  set_rows =
      let n = codes "java/util/HashSet" in
      let c = sets p host in
      native_fits p n (object.do_nothing_fits p n false []) (λ pool. refl)
      & native_fits p n (map.count_fits p n) (λ pool. refl)
      & native_fits p n (list.empty_fits p n) (λ pool. refl)
      & native_fits p n (list.clear_fits p n Entries c) (λ pool. refl)
      & native_fits p n (list.unsupported_fits p n false (OfReference object_name ∷ []) _) (λ pool. refl)
      & native_fits p n (list.unsupported_fits p n false [] _) (λ pool. refl)
      & native_fits p n (list.unsupported_fits p n false [] _) (λ pool. refl)
      & native_fits p n (iterator.of_set_fits p n host c) (λ pool. refl)
      & tt

  iterator_rows : RowsFit p (codes "mt/Iter") iter_methods
  unfolding parameters_at utf16_chars
  iterator_rows =
      let n = codes "mt/Iter" in
      let c = iterators p host in
      native_fits p n (iterator.has_next_fits p n c) (λ pool. refl)
      & native_fits p n (iterator.next_fits p n c) (λ pool. refl)
      & tt

  collections_rows : RowsFit p (codes "java/util/Collections") collections_methods
  unfolding parameters_at utf16_chars
  collections_rows =
      let n = codes "java/util/Collections" in
      native_fits p n (iterator.empty_list_fits p n host) (λ pool. refl)
      & native_fits p n (iterator.empty_set_fits p n host) (λ pool. refl)
      & tt

  arrays_rows : RowsFit p (codes "java/util/Arrays") arrays_methods
  unfolding parameters_at utf16_chars
  arrays_rows =
      let n = codes "java/util/Arrays" in
      native_fits p n (iterator.as_list_fits p n host) (λ pool. refl)
      & tt

  enum_rows : RowsFit p (codes "java/lang/Enum") enum_methods
  unfolding parameters_at utf16_chars
  enum_rows =
      let n = codes "java/lang/Enum" in
      let c = enums p host in
      native_fits p n (enum.begin_fits p n c) (λ pool. refl)
      & native_fits p n (enum.name_fits p n c) (λ pool. refl)
      & native_fits p n (enum.ordinal_fits p n) (λ pool. refl)
      & native_fits p n (enum.name_fits p n c) (λ pool. refl)
      & native_fits p n (enum.compare_any_fits p n object_name) (λ pool. refl)
      & native_fits p n (enum.compare_fits p n (codes "java/lang/Enum")) (λ pool. refl)
      & native_fits p n (object.same_fits p n) (λ pool. refl)
      & native_fits p n (object.allocation_fits p n) (λ pool. refl)
      & tt

  optional_rows : RowsFit p (codes "java/util/Optional") optional_methods
  unfolding parameters_at utf16_chars
  optional_rows =
      let n = codes "java/util/Optional" in
      let c = optionals p host in
      native_fits p n (optional.none_fits p n host) (λ pool. refl)
      & native_fits p n (optional.one_fits p n host) (λ pool. refl)
      & native_fits p n (optional.any_fits p n host) (λ pool. refl)
      & native_fits p n (optional.present_fits p n) (λ pool. refl)
      & native_fits p n (optional.value_fits p n c) (λ pool. refl)
      & native_fits p n (optional.or_else_fits p n c) (λ pool. refl)
      & tt

  pub collections_fit : AllFit p collections
  unfolding collections list_classes hash_classes utility_classes
  collections_fit =
      of_classes p collections (
      of_rows p _ array_list_methods refl list_rows
      & of_rows p _ hashed_methods refl hashed_rows
      & of_rows p _ hash_map_methods refl map_rows
      & of_rows p _ hash_set_methods refl set_rows
      & of_rows p _ iter_methods refl iterator_rows
      & of_rows p _ collections_methods refl collections_rows
      & of_rows p _ arrays_methods refl arrays_rows
      & tt
      )

  pub objects_fit : AllFit p keeping_objects
  unfolding objects
  objects_fit =
      of_classes p keeping_objects (
      of_rows p _ enum_methods refl enum_rows
      & of_rows p _ optional_methods refl optional_rows
      & tt
      )
