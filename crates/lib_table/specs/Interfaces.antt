-- The interfaces of the library.
use Rattle.std.specs.Prelude.{List, [], ◌∷◌}
use Rattle.class_link.specs.declared.loaded.LibClass.{LibClass}
use Rattle.lib_table.specs.Stated.{Row, abstract, interface}

-- java/lang/CharSequence
abbrev pub char_sequence_methods : List Row
char_sequence_methods =
    abstract "length" "()I"
    ∷ abstract "charAt" "(I)C"
    ∷ []

-- java/lang/Comparable
abbrev pub comparable_methods : List Row
comparable_methods =
    abstract "compareTo" "(Ljava/lang/Object;)I"
    ∷ []

-- java/lang/Iterable
abbrev pub iterable_methods : List Row
iterable_methods =
    abstract "iterator" "()Ljava/util/Iterator;"
    ∷ []

-- java/lang/Runnable
abbrev pub runnable_methods : List Row
runnable_methods =
    abstract "run" "()V"
    ∷ []

-- java/lang/AutoCloseable
abbrev pub auto_closeable_methods : List Row
auto_closeable_methods =
    abstract "close" "()V"
    ∷ []

unfoldable pub basic_interfaces : List LibClass
basic_interfaces =
    interface "java/lang/CharSequence" [] char_sequence_methods
    ∷ interface "java/lang/Comparable" [] comparable_methods
    ∷ interface "java/lang/Iterable" [] iterable_methods
    ∷ interface "java/lang/Runnable" [] runnable_methods
    ∷ interface "java/lang/AutoCloseable" [] auto_closeable_methods
    ∷ interface "java/lang/Cloneable" [] []
    ∷ interface "java/io/Serializable" [] []
    ∷ []

-- java/util/Iterator
abbrev pub iterator_methods : List Row
iterator_methods =
    abstract "hasNext" "()Z"
    ∷ abstract "next" "()Ljava/lang/Object;"
    ∷ []

-- java/util/Collection
abbrev pub collection_methods : List Row
collection_methods =
    abstract "size" "()I"
    ∷ abstract "isEmpty" "()Z"
    ∷ abstract "contains" "(Ljava/lang/Object;)Z"
    ∷ abstract "add" "(Ljava/lang/Object;)Z"
    ∷ abstract "remove" "(Ljava/lang/Object;)Z"
    ∷ abstract "clear" "()V"
    ∷ []

-- java/util/List
abbrev pub list_methods : List Row
list_methods =
    abstract "get" "(I)Ljava/lang/Object;"
    ∷ abstract "set" "(ILjava/lang/Object;)Ljava/lang/Object;"
    ∷ abstract "add" "(ILjava/lang/Object;)V"
    ∷ abstract "remove" "(I)Ljava/lang/Object;"
    ∷ abstract "indexOf" "(Ljava/lang/Object;)I"
    ∷ []

-- java/util/Map
abbrev pub map_methods : List Row
map_methods =
    abstract "size" "()I"
    ∷ abstract "isEmpty" "()Z"
    ∷ abstract "get" "(Ljava/lang/Object;)Ljava/lang/Object;"
    ∷ abstract "put" "(Ljava/lang/Object;Ljava/lang/Object;)Ljava/lang/Object;"
    ∷ abstract "containsKey" "(Ljava/lang/Object;)Z"
    ∷ abstract "remove" "(Ljava/lang/Object;)Ljava/lang/Object;"
    ∷ abstract "clear" "()V"
    ∷ abstract "keySet" "()Ljava/util/Set;"
    ∷ abstract "values" "()Ljava/util/Collection;"
    ∷ []

unfoldable pub collection_interfaces : List LibClass
collection_interfaces =
    interface "java/util/Iterator" [] iterator_methods
    ∷ interface "java/util/Collection" ("java/lang/Iterable" ∷ []) collection_methods
    ∷ interface "java/util/List" ("java/util/Collection" ∷ []) list_methods
    ∷ interface "java/util/Set" ("java/util/Collection" ∷ []) []
    ∷ interface "java/util/Map" [] map_methods
    ∷ []
