-- The collections and the assertions.
use Rattle.std.specs.Prelude.{List, [], ◌∷◌, ◌++◌}
use Rattle.class_link.specs.declared.loaded.LibClass.{LibClass}
use Rattle.lib_table.specs.Stated.{Row, abstract_class, class, final_class, native, static_native, static_written, written}
use Rattle.lib_table.specs.Written.{list_index_of, list_contains, list_remove, list_equals, find_entry, map_get, map_remove, map_put, map_contains_key, set_contains, set_add, set_remove, assert_equal_objects, assert_unequal_objects, assert_equal_objects_5, assert_unequal_objects_5}
use Rattle.library_rules.specs.declared.native.ObjectNative.TheVariants as object
use Rattle.library_rules.specs.declared.native.ListNative.TheVariants as list
use Rattle.library_rules.specs.declared.native.EntryNative.TheVariants as entry
use Rattle.library_rules.specs.declared.native.IteratorNative.TheVariants as iterator
use Rattle.library_rules.specs.declared.native.AssertionNative.TheVariants as assertion
use Rattle.library_rules.specs.Places.{as_object, as_list, as_entry, as_iterator, as_assertion}

-- java/util/ArrayList
abbrev pub array_list_methods : List Row
array_list_methods =
    native (as_object object.DoNothing) "<init>" "()V"
    ∷ native (as_list list.OfCapacity) "<init>" "(I)V"
    ∷ native (as_list list.Size) "size" "()I"
    ∷ native (as_list list.IsEmpty) "isEmpty" "()Z"
    ∷ native (as_list list.Get) "get" "(I)Ljava/lang/Object;"
    ∷ native (as_list list.Set) "set" "(ILjava/lang/Object;)Ljava/lang/Object;"
    ∷ native (as_list list.Add) "add" "(Ljava/lang/Object;)Z"
    ∷ native (as_list list.Insert) "add" "(ILjava/lang/Object;)V"
    ∷ native (as_list list.Remove) "remove" "(I)Ljava/lang/Object;"
    ∷ native (as_list list.Clear) "clear" "()V"
    ∷ native (as_iterator iterator.OfList) "iterator" "()Ljava/util/Iterator;"
    ∷ native (as_list list.Unsupported) "hashCode" "()I"
    ∷ native (as_list list.Unsupported) "toString" "()Ljava/lang/String;"
    ∷ written "indexOf" "(Ljava/lang/Object;)I" list_index_of
    ∷ written "contains" "(Ljava/lang/Object;)Z" list_contains
    ∷ written "remove" "(Ljava/lang/Object;)Z" list_remove
    ∷ written "equals" "(Ljava/lang/Object;)Z" list_equals
    ∷ []

-- mt/Hashed
abbrev pub hashed_methods : List Row
hashed_methods =
    native (as_entry entry.Count) "$size" "()I"
    ∷ native (as_entry entry.Hash) "$hash" "(I)I"
    ∷ native (as_entry entry.Key) "$key" "(I)Ljava/lang/Object;"
    ∷ native (as_entry entry.Value) "$value" "(I)Ljava/lang/Object;"
    ∷ native (as_entry entry.SetValue) "$set" "(ILjava/lang/Object;)Ljava/lang/Object;"
    ∷ native (as_entry entry.Add) "$add" "(ILjava/lang/Object;Ljava/lang/Object;)V"
    ∷ native (as_entry entry.Cut) "$cut" "(I)Ljava/lang/Object;"
    ∷ written "find" "(Ljava/lang/Object;)I" find_entry
    ∷ []

-- java/util/HashMap
abbrev pub hash_map_methods : List Row
hash_map_methods =
    native (as_object object.DoNothing) "<init>" "()V"
    ∷ native (as_entry entry.Count) "size" "()I"
    ∷ native (as_list list.IsEmpty) "isEmpty" "()Z"
    ∷ native (as_list list.Clear) "clear" "()V"
    ∷ native (as_list list.Unsupported) "equals" "(Ljava/lang/Object;)Z"
    ∷ native (as_list list.Unsupported) "hashCode" "()I"
    ∷ native (as_list list.Unsupported) "toString" "()Ljava/lang/String;"
    ∷ native (as_entry entry.KeySet) "keySet" "()Ljava/util/Set;"
    ∷ native (as_entry entry.ValueList) "values" "()Ljava/util/Collection;"
    ∷ written "get" "(Ljava/lang/Object;)Ljava/lang/Object;" map_get
    ∷ written "remove" "(Ljava/lang/Object;)Ljava/lang/Object;" map_remove
    ∷ written "put" "(Ljava/lang/Object;Ljava/lang/Object;)Ljava/lang/Object;" map_put
    ∷ written "containsKey" "(Ljava/lang/Object;)Z" map_contains_key
    ∷ []

-- java/util/HashSet
abbrev pub hash_set_methods : List Row
hash_set_methods =
    native (as_object object.DoNothing) "<init>" "()V"
    ∷ native (as_entry entry.Count) "size" "()I"
    ∷ native (as_list list.IsEmpty) "isEmpty" "()Z"
    ∷ native (as_list list.Clear) "clear" "()V"
    ∷ native (as_list list.Unsupported) "equals" "(Ljava/lang/Object;)Z"
    ∷ native (as_list list.Unsupported) "hashCode" "()I"
    ∷ native (as_list list.Unsupported) "toString" "()Ljava/lang/String;"
    ∷ native (as_iterator iterator.OfSet) "iterator" "()Ljava/util/Iterator;"
    ∷ written "contains" "(Ljava/lang/Object;)Z" set_contains
    ∷ written "add" "(Ljava/lang/Object;)Z" set_add
    ∷ written "remove" "(Ljava/lang/Object;)Z" set_remove
    ∷ []

-- mt/Iter
abbrev pub iter_methods : List Row
iter_methods =
    native (as_iterator iterator.HasNext) "hasNext" "()Z"
    ∷ native (as_iterator iterator.Next) "next" "()Ljava/lang/Object;"
    ∷ []

-- java/util/Collections
abbrev pub collections_methods : List Row
collections_methods =
    static_native (as_iterator iterator.EmptyList) "emptyList" "()Ljava/util/List;"
    ∷ static_native (as_iterator iterator.EmptySet) "emptySet" "()Ljava/util/Set;"
    ∷ []

-- java/util/Arrays
abbrev pub arrays_methods : List Row
arrays_methods =
    static_native (as_iterator iterator.AsList) "asList" "([Ljava/lang/Object;)Ljava/util/List;"
    ∷ []

-- ArrayList.
unfoldable pub list_classes : List LibClass
list_classes =
    class "java/util/ArrayList" "java/lang/Object" ("java/util/List" ∷ []) array_list_methods
    ∷ []

-- The maps and sets, and what stands above them.
unfoldable pub hash_classes : List LibClass
hash_classes =
    abstract_class "mt/Hashed" "java/lang/Object" [] hashed_methods
    ∷ class "java/util/HashMap" "mt/Hashed" ("java/util/Map" ∷ []) hash_map_methods
    ∷ class "java/util/HashSet" "mt/Hashed" ("java/util/Set" ∷ []) hash_set_methods
    ∷ []

-- Iterators, and what makes collections.
unfoldable pub utility_classes : List LibClass
utility_classes =
    final_class "mt/Iter" "java/lang/Object" ("java/util/Iterator" ∷ []) iter_methods
    ∷ class "java/util/Collections" "java/lang/Object" [] collections_methods
    ∷ class "java/util/Arrays" "java/lang/Object" [] arrays_methods
    ∷ []

unfoldable pub collections : List LibClass
collections = list_classes ++ (hash_classes ++ utility_classes)

-- org/junit/Assert
abbrev pub assert_methods : List Row
assert_methods =
    static_native (as_assertion assertion.EqualLongs) "assertEquals" "(JJ)V"
    ∷ static_native (as_assertion assertion.EqualInts) "assertEquals" "(II)V"
    ∷ static_native (as_assertion assertion.True) "assertTrue" "(Z)V"
    ∷ static_native (as_assertion assertion.False) "assertFalse" "(Z)V"
    ∷ static_native (as_assertion assertion.Null) "assertNull" "(Ljava/lang/Object;)V"
    ∷ static_native (as_assertion assertion.NotNull) "assertNotNull" "(Ljava/lang/Object;)V"
    ∷ static_native (as_assertion assertion.Same) "assertSame" "(Ljava/lang/Object;Ljava/lang/Object;)V"
    ∷ static_native (as_assertion assertion.NotSame) "assertNotSame" "(Ljava/lang/Object;Ljava/lang/Object;)V"
    ∷ static_written "assertEquals" "(Ljava/lang/Object;Ljava/lang/Object;)V" assert_equal_objects
    ∷ static_written "assertNotEquals" "(Ljava/lang/Object;Ljava/lang/Object;)V" assert_unequal_objects
    ∷ static_native (as_assertion assertion.Fail) "$fail" "()V"
    ∷ static_native (as_assertion assertion.Fail) "fail" "()V"
    ∷ static_native (as_assertion assertion.Fail) "fail" "(Ljava/lang/String;)V"
    ∷ []

-- org/junit/jupiter/api/Assertions
abbrev pub assertions_methods : List Row
assertions_methods =
    static_native (as_assertion assertion.EqualLongs) "assertEquals" "(JJ)V"
    ∷ static_native (as_assertion assertion.EqualInts) "assertEquals" "(II)V"
    ∷ static_native (as_assertion assertion.True) "assertTrue" "(Z)V"
    ∷ static_native (as_assertion assertion.False) "assertFalse" "(Z)V"
    ∷ static_native (as_assertion assertion.Null) "assertNull" "(Ljava/lang/Object;)V"
    ∷ static_native (as_assertion assertion.NotNull) "assertNotNull" "(Ljava/lang/Object;)V"
    ∷ static_native (as_assertion assertion.Same) "assertSame" "(Ljava/lang/Object;Ljava/lang/Object;)V"
    ∷ static_native (as_assertion assertion.NotSame) "assertNotSame" "(Ljava/lang/Object;Ljava/lang/Object;)V"
    ∷ static_written "assertEquals" "(Ljava/lang/Object;Ljava/lang/Object;)V" assert_equal_objects_5
    ∷ static_written "assertNotEquals" "(Ljava/lang/Object;Ljava/lang/Object;)V" assert_unequal_objects_5
    ∷ static_native (as_assertion assertion.Fail) "$fail" "()V"
    ∷ static_native (as_assertion assertion.Fail) "fail" "(Ljava/lang/String;)Ljava/lang/Object;"
    ∷ []

unfoldable pub assertions : List LibClass
assertions =
    class "org/junit/Assert" "java/lang/Object" [] assert_methods
    ∷ class "org/junit/jupiter/api/Assertions" "java/lang/Object" [] assertions_methods
    ∷ []
