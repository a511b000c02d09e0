-- The written methods of the library, instruction by instruction (this project's own), each with a
-- frame wherever a jump goes. An operand of a jump is the number of an instruction, counted from 0,
-- and so is the place of a frame.
use Rattle.std.specs.Prelude.{pos, List, [], ◌∷◌, codes}
use Rattle.lib_table.specs.Frames.{AnInt, AnObject, same_at, more_at}
use Rattle.lib_table.specs.Steps.{Op, Jump, Increment, Method, method, text, named, call}

-- Objects.equals(Object Object)
abbrev pub equal_objects : Method
equal_objects =
    method (same_at 5 ∷ same_at 9 ∷ [])
    (Op 0x2a
    ∷ Op 0x2b
    ∷ Jump 0xa6 5
    ∷ Op 0x04
    ∷ Op 0xac
    ∷ Op 0x2a
    ∷ Jump 0xc7 9
    ∷ Op 0x03
    ∷ Op 0xac
    ∷ Op 0x2a
    ∷ Op 0x2b
    ∷ call 0xb6 "java/lang/Object" "equals" "(Ljava/lang/Object;)Z"
    ∷ Op 0xac
    ∷ [])

-- Objects.hashCode(Object)
abbrev pub hash_of_object : Method
hash_of_object =
    method (same_at 4 ∷ [])
    (Op 0x2a
    ∷ Jump 0xc7 4
    ∷ Op 0x03
    ∷ Op 0xac
    ∷ Op 0x2a
    ∷ call 0xb6 "java/lang/Object" "hashCode" "()I"
    ∷ Op 0xac
    ∷ [])

-- String.valueOf(Object)
abbrev pub text_of_any : Method
text_of_any =
    method (same_at 4 ∷ [])
    (Op 0x2a
    ∷ Jump 0xc7 4
    ∷ text "null"
    ∷ Op 0xb0
    ∷ Op 0x2a
    ∷ call 0xb6 "java/lang/Object" "toString" "()Ljava/lang/String;"
    ∷ Op 0xb0
    ∷ [])

-- StringBuilder.append(Object)
abbrev pub append_any : Method
append_any =
    method []
    (Op 0x2a
    ∷ Op 0x2b
    ∷ call 0xb8 "java/lang/String" "valueOf" "(Ljava/lang/Object;)Ljava/lang/String;"
    ∷ call 0xb6 "java/lang/StringBuilder" "append" "(Ljava/lang/String;)Ljava/lang/StringBuilder;"
    ∷ Op 0xb0
    ∷ [])

-- ArrayList.indexOf(Object)
abbrev pub list_index_of : Method
list_index_of =
    method (more_at 2 (AnInt ∷ []) ∷ same_at 14 ∷ same_at 16 ∷ [])
    (Op 0x03
    ∷ Op 0x3d
    ∷ Op 0x1c
    ∷ Op 0x2a
    ∷ call 0xb6 "java/util/ArrayList" "size" "()I"
    ∷ Jump 0xa2 16
    ∷ Op 0x2b
    ∷ Op 0x2a
    ∷ Op 0x1c
    ∷ call 0xb6 "java/util/ArrayList" "get" "(I)Ljava/lang/Object;"
    ∷ call 0xb8 "java/util/Objects" "equals" "(Ljava/lang/Object;Ljava/lang/Object;)Z"
    ∷ Jump 0x9a 14
    ∷ Increment 2 (pos 1)
    ∷ Jump 0xa7 2
    ∷ Op 0x1c
    ∷ Op 0xac
    ∷ Op 0x02
    ∷ Op 0xac
    ∷ [])

-- ArrayList.contains(Object)
abbrev pub list_contains : Method
list_contains =
    method (same_at 6 ∷ [])
    (Op 0x2a
    ∷ Op 0x2b
    ∷ call 0xb6 "java/util/ArrayList" "indexOf" "(Ljava/lang/Object;)I"
    ∷ Jump 0x9b 6
    ∷ Op 0x04
    ∷ Op 0xac
    ∷ Op 0x03
    ∷ Op 0xac
    ∷ [])

-- ArrayList.remove(Object)
abbrev pub list_remove : Method
list_remove =
    method (more_at 8 (AnInt ∷ []) ∷ [])
    (Op 0x2a
    ∷ Op 0x2b
    ∷ call 0xb6 "java/util/ArrayList" "indexOf" "(Ljava/lang/Object;)I"
    ∷ Op 0x3d
    ∷ Op 0x1c
    ∷ Jump 0x9c 8
    ∷ Op 0x03
    ∷ Op 0xac
    ∷ Op 0x2a
    ∷ Op 0x1c
    ∷ call 0xb6 "java/util/ArrayList" "remove" "(I)Ljava/lang/Object;"
    ∷ Op 0x57
    ∷ Op 0x04
    ∷ Op 0xac
    ∷ [])

-- ArrayList.equals(Object)
abbrev pub list_equals : Method
list_equals =
    method (same_at 5 ∷ more_at 15 (AnObject (codes "java/util/ArrayList") ∷ [])
    ∷ more_at 17 (AnInt ∷ []) ∷ same_at 31 ∷ same_at 33 ∷ [])
    (Op 0x2b
    ∷ named 0xc1 "java/util/ArrayList"
    ∷ Jump 0x9a 5
    ∷ Op 0x03
    ∷ Op 0xac
    ∷ Op 0x2b
    ∷ named 0xc0 "java/util/ArrayList"
    ∷ Op 0x4d
    ∷ Op 0x2a
    ∷ call 0xb6 "java/util/ArrayList" "size" "()I"
    ∷ Op 0x2c
    ∷ call 0xb6 "java/util/ArrayList" "size" "()I"
    ∷ Jump 0x9f 15
    ∷ Op 0x03
    ∷ Op 0xac
    ∷ Op 0x03
    ∷ Op 0x3e
    ∷ Op 0x1d
    ∷ Op 0x2a
    ∷ call 0xb6 "java/util/ArrayList" "size" "()I"
    ∷ Jump 0xa2 33
    ∷ Op 0x2a
    ∷ Op 0x1d
    ∷ call 0xb6 "java/util/ArrayList" "get" "(I)Ljava/lang/Object;"
    ∷ Op 0x2c
    ∷ Op 0x1d
    ∷ call 0xb6 "java/util/ArrayList" "get" "(I)Ljava/lang/Object;"
    ∷ call 0xb8 "java/util/Objects" "equals" "(Ljava/lang/Object;Ljava/lang/Object;)Z"
    ∷ Jump 0x9a 31
    ∷ Op 0x03
    ∷ Op 0xac
    ∷ Increment 3 (pos 1)
    ∷ Jump 0xa7 17
    ∷ Op 0x04
    ∷ Op 0xac
    ∷ [])

-- mt/Hashed.find(Object): the place of the entry of a key, -1 where there is none
abbrev pub find_entry : Method
find_entry =
    method (more_at 5 (AnInt ∷ AnInt ∷ []) ∷ same_at 20 ∷ same_at 22 ∷ same_at 24 ∷ [])
    (Op 0x2b
    ∷ call 0xb8 "java/util/Objects" "hashCode" "(Ljava/lang/Object;)I"
    ∷ Op 0x3d
    ∷ Op 0x03
    ∷ Op 0x3e
    ∷ Op 0x1d
    ∷ Op 0x2a
    ∷ call 0xb6 "mt/Hashed" "$size" "()I"
    ∷ Jump 0xa2 24
    ∷ Op 0x2a
    ∷ Op 0x1d
    ∷ call 0xb6 "mt/Hashed" "$hash" "(I)I"
    ∷ Op 0x1c
    ∷ Jump 0xa0 20
    ∷ Op 0x2b
    ∷ Op 0x2a
    ∷ Op 0x1d
    ∷ call 0xb6 "mt/Hashed" "$key" "(I)Ljava/lang/Object;"
    ∷ call 0xb8 "java/util/Objects" "equals" "(Ljava/lang/Object;Ljava/lang/Object;)Z"
    ∷ Jump 0x9a 22
    ∷ Increment 3 (pos 1)
    ∷ Jump 0xa7 5
    ∷ Op 0x1d
    ∷ Op 0xac
    ∷ Op 0x02
    ∷ Op 0xac
    ∷ [])

-- HashMap.get(Object)
abbrev pub map_get : Method
map_get =
    method (more_at 10 (AnInt ∷ []) ∷ [])
    (Op 0x2a
    ∷ Op 0x2b
    ∷ call 0xb6 "mt/Hashed" "find" "(Ljava/lang/Object;)I"
    ∷ Op 0x3d
    ∷ Op 0x1c
    ∷ Jump 0x9b 10
    ∷ Op 0x2a
    ∷ Op 0x1c
    ∷ call 0xb6 "mt/Hashed" "$value" "(I)Ljava/lang/Object;"
    ∷ Op 0xb0
    ∷ Op 0x01
    ∷ Op 0xb0
    ∷ [])

-- HashMap.remove(Object)
abbrev pub map_remove : Method
map_remove =
    method (more_at 10 (AnInt ∷ []) ∷ [])
    (Op 0x2a
    ∷ Op 0x2b
    ∷ call 0xb6 "mt/Hashed" "find" "(Ljava/lang/Object;)I"
    ∷ Op 0x3d
    ∷ Op 0x1c
    ∷ Jump 0x9b 10
    ∷ Op 0x2a
    ∷ Op 0x1c
    ∷ call 0xb6 "mt/Hashed" "$cut" "(I)Ljava/lang/Object;"
    ∷ Op 0xb0
    ∷ Op 0x01
    ∷ Op 0xb0
    ∷ [])

-- HashMap.put(Object Object)
abbrev pub map_put : Method
map_put =
    method (more_at 11 (AnInt ∷ []) ∷ [])
    (Op 0x2a
    ∷ Op 0x2b
    ∷ call 0xb6 "mt/Hashed" "find" "(Ljava/lang/Object;)I"
    ∷ Op 0x3e
    ∷ Op 0x1d
    ∷ Jump 0x9b 11
    ∷ Op 0x2a
    ∷ Op 0x1d
    ∷ Op 0x2c
    ∷ call 0xb6 "mt/Hashed" "$set" "(ILjava/lang/Object;)Ljava/lang/Object;"
    ∷ Op 0xb0
    ∷ Op 0x2a
    ∷ Op 0x2b
    ∷ call 0xb8 "java/util/Objects" "hashCode" "(Ljava/lang/Object;)I"
    ∷ Op 0x2b
    ∷ Op 0x2c
    ∷ call 0xb6 "mt/Hashed" "$add" "(ILjava/lang/Object;Ljava/lang/Object;)V"
    ∷ Op 0x01
    ∷ Op 0xb0
    ∷ [])

-- HashMap.containsKey(Object)
abbrev pub map_contains_key : Method
map_contains_key =
    method (same_at 6 ∷ [])
    (Op 0x2a
    ∷ Op 0x2b
    ∷ call 0xb6 "mt/Hashed" "find" "(Ljava/lang/Object;)I"
    ∷ Jump 0x9b 6
    ∷ Op 0x04
    ∷ Op 0xac
    ∷ Op 0x03
    ∷ Op 0xac
    ∷ [])

-- HashSet.contains(Object)
abbrev pub set_contains : Method
set_contains =
    method (same_at 6 ∷ [])
    (Op 0x2a
    ∷ Op 0x2b
    ∷ call 0xb6 "mt/Hashed" "find" "(Ljava/lang/Object;)I"
    ∷ Jump 0x9b 6
    ∷ Op 0x04
    ∷ Op 0xac
    ∷ Op 0x03
    ∷ Op 0xac
    ∷ [])

-- HashSet.add(Object)
abbrev pub set_add : Method
set_add =
    method (same_at 6 ∷ [])
    (Op 0x2a
    ∷ Op 0x2b
    ∷ call 0xb6 "mt/Hashed" "find" "(Ljava/lang/Object;)I"
    ∷ Jump 0x9b 6
    ∷ Op 0x03
    ∷ Op 0xac
    ∷ Op 0x2a
    ∷ Op 0x2b
    ∷ call 0xb8 "java/util/Objects" "hashCode" "(Ljava/lang/Object;)I"
    ∷ Op 0x2b
    ∷ Op 0x01
    ∷ call 0xb6 "mt/Hashed" "$add" "(ILjava/lang/Object;Ljava/lang/Object;)V"
    ∷ Op 0x04
    ∷ Op 0xac
    ∷ [])

-- HashSet.remove(Object)
abbrev pub set_remove : Method
set_remove =
    method (more_at 12 (AnInt ∷ []) ∷ [])
    (Op 0x2a
    ∷ Op 0x2b
    ∷ call 0xb6 "mt/Hashed" "find" "(Ljava/lang/Object;)I"
    ∷ Op 0x3d
    ∷ Op 0x1c
    ∷ Jump 0x9b 12
    ∷ Op 0x2a
    ∷ Op 0x1c
    ∷ call 0xb6 "mt/Hashed" "$cut" "(I)Ljava/lang/Object;"
    ∷ Op 0x57
    ∷ Op 0x04
    ∷ Op 0xac
    ∷ Op 0x03
    ∷ Op 0xac
    ∷ [])

-- Assert.assertEquals(Object Object)
abbrev pub assert_equal_objects : Method
assert_equal_objects =
    method (same_at 5 ∷ [])
    (Op 0x2a
    ∷ Op 0x2b
    ∷ call 0xb8 "java/util/Objects" "equals" "(Ljava/lang/Object;Ljava/lang/Object;)Z"
    ∷ Jump 0x9a 5
    ∷ call 0xb8 "org/junit/Assert" "$fail" "()V"
    ∷ Op 0xb1
    ∷ [])

-- Assert.assertNotEquals(Object Object)
abbrev pub assert_unequal_objects : Method
assert_unequal_objects =
    method (same_at 5 ∷ [])
    (Op 0x2a
    ∷ Op 0x2b
    ∷ call 0xb8 "java/util/Objects" "equals" "(Ljava/lang/Object;Ljava/lang/Object;)Z"
    ∷ Jump 0x99 5
    ∷ call 0xb8 "org/junit/Assert" "$fail" "()V"
    ∷ Op 0xb1
    ∷ [])

-- Assertions.assertEquals(Object Object)
abbrev pub assert_equal_objects_5 : Method
assert_equal_objects_5 =
    method (same_at 5 ∷ [])
    (Op 0x2a
    ∷ Op 0x2b
    ∷ call 0xb8 "java/util/Objects" "equals" "(Ljava/lang/Object;Ljava/lang/Object;)Z"
    ∷ Jump 0x9a 5
    ∷ call 0xb8 "org/junit/jupiter/api/Assertions" "$fail" "()V"
    ∷ Op 0xb1
    ∷ [])

-- Assertions.assertNotEquals(Object Object)
abbrev pub assert_unequal_objects_5 : Method
assert_unequal_objects_5 =
    method (same_at 5 ∷ [])
    (Op 0x2a
    ∷ Op 0x2b
    ∷ call 0xb8 "java/util/Objects" "equals" "(Ljava/lang/Object;Ljava/lang/Object;)Z"
    ∷ Jump 0x99 5
    ∷ call 0xb8 "org/junit/jupiter/api/Assertions" "$fail" "()V"
    ∷ Op 0xb1
    ∷ [])

-- All of them.
unfoldable pub written_methods : List Method
written_methods =
    equal_objects
    ∷ hash_of_object
    ∷ text_of_any
    ∷ append_any
    ∷ list_index_of
    ∷ list_contains
    ∷ list_remove
    ∷ list_equals
    ∷ find_entry
    ∷ map_get
    ∷ map_remove
    ∷ map_put
    ∷ map_contains_key
    ∷ set_contains
    ∷ set_add
    ∷ set_remove
    ∷ assert_equal_objects
    ∷ assert_unequal_objects
    ∷ assert_equal_objects_5
    ∷ assert_unequal_objects_5
    ∷ []
