-- Programs that call `find` of mt/Hashed and the written methods of HashMap. "Aa" and "BB" have
-- equal hashes, and so have null and the empty text.
use Prim.Native.String.{String}
use Rattle.std.specs.Prelude.{ℕ, ◌+◌, pos, negsuc, List, [], ◌∷◌, codes}
use Rattle.program_rules.specs.Instructions.{Instruction, NullConstant, TextConstant}
use Rattle.library_tries.specs.Programs.{Try, Part, GivesInt, GivesSame, passes}
use Rattle.library_tries.specs.Counted.{equals_same, equals_null, equals_asked, hash_null, hash_asked, find_begun, other_hash, other_key, key_found, find_ended, got, got_none, replaced, put_new, has_key}
use Rattle.library_tries.specs.Words.{text, null, boxed, makes_map, on_map, put, puts}

-- ---- the steps of `find`, by hand

-- Of a key that is an object: none there; the first; behind one of another hash; behind one of the
-- same hash; none behind one of another hash, or of the same.
abbrev pub in_nothing : ℕ
in_nothing = find_begun hash_asked + find_ended

abbrev pub at_first : ℕ
at_first = find_begun hash_asked + key_found equals_same

abbrev pub past_other_hash : ℕ
past_other_hash = find_begun hash_asked + other_hash + key_found equals_same

abbrev pub past_same_hash : ℕ
past_same_hash = find_begun hash_asked + other_key equals_asked + key_found equals_same

abbrev pub not_past_other_hash : ℕ
not_past_other_hash = find_begun hash_asked + other_hash + find_ended

abbrev pub not_past_same_hash : ℕ
not_past_same_hash = find_begun hash_asked + other_key equals_asked + find_ended

-- Of two of other hashes.
abbrev pub not_past_two : ℕ
not_past_two = find_begun hash_asked + other_hash + other_hash + find_ended

-- Of null: none there; the first.
abbrev pub null_in_nothing : ℕ
null_in_nothing = find_begun hash_null + find_ended

abbrev pub null_at_first : ℕ
null_at_first = find_begun hash_null + key_found equals_same

-- ---- maps

abbrev pub puts_first : String → String → Part
puts_first key value = puts (text key) (text value) (put_new in_nothing hash_asked)

-- Behind one of another hash, and behind one of the same.
abbrev pub puts_second : String → String → Part
puts_second key value = puts (text key) (text value) (put_new not_past_other_hash hash_asked)

abbrev pub puts_alike : String → String → Part
puts_alike key value = puts (text key) (text value) (put_new not_past_same_hash hash_asked)

-- Behind two of other hashes.
abbrev pub puts_third : String → String → Part
puts_third key value = puts (text key) (text value) (put_new not_past_two hash_asked)

abbrev pub puts_null : String → Part
puts_null value = puts null (text value) (put_new null_in_nothing hash_null)

abbrev pub find : List Instruction → List Instruction
find key = on_map "find" "(Ljava/lang/Object;)I" key

abbrev pub get : List Instruction → List Instruction
get key = on_map "get" "(Ljava/lang/Object;)Ljava/lang/Object;" key

abbrev pub remove : List Instruction → List Instruction
remove key = on_map "remove" "(Ljava/lang/Object;)Ljava/lang/Object;" key

abbrev pub contains_key : List Instruction → List Instruction
contains_key key = on_map "containsKey" "(Ljava/lang/Object;)Z" key

abbrev pub entries_are : ℕ → Part
entries_are n = GivesInt (on_map "size" "()I" []) (pos n) 0

abbrev pub is_null : List Instruction → ℕ → Part
is_null is n = GivesSame is NullConstant n

abbrev pub is_value : List Instruction → String → ℕ → Part
is_value is value n = GivesSame is (TextConstant (codes value)) n

-- ---- find

abbrev pub find_in_nothing : Try
find_in_nothing = passes (makes_map ∷ GivesInt (find (text "a")) (negsuc 0) in_nothing ∷ [])

abbrev pub find_first : Try
find_first =
    passes (makes_map ∷ puts_first "a" "x" ∷ GivesInt (find (text "a")) (pos 0) at_first ∷ [])

abbrev pub find_second : Try
find_second =
    passes
    (makes_map ∷ puts_first "a" "x" ∷ puts_second "b" "y"
    ∷ GivesInt (find (text "b")) (pos 1) past_other_hash
    ∷ [])

abbrev pub find_second_of_one_hash : Try
find_second_of_one_hash =
    passes
    (makes_map ∷ puts_first "Aa" "x" ∷ puts_alike "BB" "y"
    ∷ GivesInt (find (text "BB")) (pos 1) past_same_hash
    ∷ [])

abbrev pub find_none_of_the_hash : Try
find_none_of_the_hash =
    passes
    (makes_map ∷ puts_first "Aa" "x"
    ∷ GivesInt (find (text "BB")) (negsuc 0) not_past_same_hash
    ∷ [])

abbrev pub find_none : Try
find_none =
    passes
    (makes_map ∷ puts_first "a" "x"
    ∷ GivesInt (find (text "b")) (negsuc 0) not_past_other_hash
    ∷ [])

abbrev pub find_null : Try
find_null =
    passes (makes_map ∷ puts_null "x" ∷ GivesInt (find null) (pos 0) null_at_first ∷ [])

abbrev pub find_null_of_empty : Try
find_null_of_empty =
    passes
    (makes_map ∷ puts_first "" "x"
    ∷ GivesInt (find null) (negsuc 0)
    (find_begun hash_null + other_key equals_null + find_ended)
    ∷ [])

abbrev pub find_equal : Try
find_equal =
    passes
    (makes_map
    ∷ puts (boxed (pos 1000)) (text "x") (put_new in_nothing hash_asked)
    ∷ GivesInt (find (boxed (pos 1000))) (pos 0) (find_begun hash_asked + key_found equals_asked)
    ∷ [])

-- ---- get

abbrev pub get_found : Try
get_found =
    passes
    (makes_map ∷ puts_first "a" "x" ∷ puts_second "b" "y"
    ∷ is_value (get (text "b")) "y" (got past_other_hash)
    ∷ [])

abbrev pub get_none : Try
get_none =
    passes
    (makes_map ∷ puts_first "a" "x" ∷ is_null (get (text "b")) (got_none not_past_other_hash) ∷ [])

abbrev pub get_of_one_hash : Try
get_of_one_hash =
    passes
    (makes_map ∷ puts_first "Aa" "x" ∷ puts_alike "BB" "y"
    ∷ is_value (get (text "Aa")) "x" (got at_first)
    ∷ is_value (get (text "BB")) "y" (got past_same_hash)
    ∷ [])

abbrev pub get_none_of_the_hash : Try
get_none_of_the_hash =
    passes
    (makes_map ∷ puts_first "Aa" "x"
    ∷ is_null (get (text "BB")) (got_none not_past_same_hash)
    ∷ [])

abbrev pub get_of_null : Try
get_of_null =
    passes (makes_map ∷ puts_null "x" ∷ is_value (get null) "x" (got null_at_first) ∷ [])

-- The value null is there, and get gives what it gives where none is.
abbrev pub get_a_null : Try
get_a_null =
    passes
    (makes_map ∷ puts (text "a") null (put_new in_nothing hash_asked)
    ∷ is_null (get (text "a")) (got at_first)
    ∷ GivesInt (contains_key (text "a")) (pos 1) (has_key at_first)
    ∷ [])

-- ---- put

abbrev pub put_a_new_key : Try
put_a_new_key =
    passes
    (makes_map ∷ is_null (put (text "a") (text "x")) (put_new in_nothing hash_asked)
    ∷ entries_are 1
    ∷ [])

abbrev pub put_replaces : Try
put_replaces =
    passes
    (makes_map ∷ puts_first "a" "x"
    ∷ is_value (put (text "a") (text "y")) "x" (replaced at_first)
    ∷ entries_are 1
    ∷ is_value (get (text "a")) "y" (got at_first)
    ∷ [])

abbrev pub put_of_one_hash : Try
put_of_one_hash =
    passes
    (makes_map ∷ puts_first "Aa" "x"
    ∷ is_null (put (text "BB") (text "y")) (put_new not_past_same_hash hash_asked)
    ∷ entries_are 2
    ∷ [])

abbrev pub put_null_twice : Try
put_null_twice =
    passes
    (makes_map
    ∷ is_null (put null (text "x")) (put_new null_in_nothing hash_null)
    ∷ is_value (put null (text "y")) "x" (replaced null_at_first)
    ∷ entries_are 1
    ∷ [])

-- ---- remove

abbrev pub remove_in_the_middle : Try
remove_in_the_middle =
    passes
    (makes_map ∷ puts_first "a" "x" ∷ puts_second "b" "y" ∷ puts_third "c" "z"
    ∷ is_value (remove (text "b")) "y" (got past_other_hash)
    ∷ entries_are 2
    ∷ is_null (get (text "b")) (got_none not_past_two)
    ∷ is_value (get (text "c")) "z" (got past_other_hash)
    ∷ [])

abbrev pub remove_none : Try
remove_none =
    passes
    (makes_map ∷ puts_first "a" "x"
    ∷ is_null (remove (text "b")) (got_none not_past_other_hash)
    ∷ entries_are 1
    ∷ [])

abbrev pub remove_none_of_the_hash : Try
remove_none_of_the_hash =
    passes
    (makes_map ∷ puts_first "Aa" "x"
    ∷ is_null (remove (text "BB")) (got_none not_past_same_hash)
    ∷ entries_are 1
    ∷ [])

abbrev pub remove_null : Try
remove_null =
    passes
    (makes_map ∷ puts_null "x" ∷ is_value (remove null) "x" (got null_at_first) ∷ entries_are 0
    ∷ [])

-- ---- containsKey

abbrev pub contains_second_key : Try
contains_second_key =
    passes
    (makes_map ∷ puts_first "a" "x" ∷ puts_second "b" "y"
    ∷ GivesInt (contains_key (text "b")) (pos 1) (has_key past_other_hash)
    ∷ [])

abbrev pub contains_no_key : Try
contains_no_key =
    passes
    (makes_map ∷ puts_first "Aa" "x"
    ∷ GivesInt (contains_key (text "BB")) (pos 0) (has_key not_past_same_hash)
    ∷ [])

abbrev pub contains_key_null : Try
contains_key_null =
    passes
    (makes_map
    ∷ GivesInt (contains_key null) (pos 0) (has_key null_in_nothing)
    ∷ puts_null "x"
    ∷ GivesInt (contains_key null) (pos 1) (has_key null_at_first)
    ∷ [])
