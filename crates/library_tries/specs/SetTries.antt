-- Programs that call the written methods of HashSet.
use Prim.Native.String.{String}
use Rattle.std.specs.Prelude.{ℕ, pos, List, [], ◌∷◌}
use Rattle.program_rules.specs.Instructions.{Instruction}
use Rattle.library_tries.specs.Programs.{Try, Part, GivesInt, passes}
use Rattle.library_tries.specs.Counted.{hash_asked, hash_null, has_key, added_before, added_new, taken_out, not_taken}
use Rattle.library_tries.specs.Words.{text, null, makes_set, on_set, add, joins}
use Rattle.library_tries.specs.MapTries.{in_nothing, at_first, past_other_hash, past_same_hash, not_past_other_hash, not_past_same_hash, not_past_two, null_in_nothing, null_at_first}

-- As the first; behind one of another hash, of the same, behind two of other hashes.
abbrev pub joins_first : String → Part
joins_first key = joins (text key) (added_new in_nothing hash_asked)

abbrev pub joins_second : String → Part
joins_second key = joins (text key) (added_new not_past_other_hash hash_asked)

abbrev pub joins_alike : String → Part
joins_alike key = joins (text key) (added_new not_past_same_hash hash_asked)

abbrev pub joins_third : String → Part
joins_third key = joins (text key) (added_new not_past_two hash_asked)

abbrev pub contains : List Instruction → List Instruction
contains key = on_set "contains" "(Ljava/lang/Object;)Z" key

abbrev pub removes : List Instruction → List Instruction
removes key = on_set "remove" "(Ljava/lang/Object;)Z" key

abbrev pub elements_are : ℕ → Part
elements_are n = GivesInt (on_set "size" "()I" []) (pos n) 0

-- ---- add

abbrev pub add_twice : Try
add_twice =
    passes
    (makes_set
    ∷ GivesInt (add (text "a")) (pos 1) (added_new in_nothing hash_asked)
    ∷ GivesInt (add (text "a")) (pos 0) (added_before at_first)
    ∷ elements_are 1
    ∷ [])

abbrev pub add_of_one_hash : Try
add_of_one_hash =
    passes
    (makes_set ∷ joins_first "Aa"
    ∷ GivesInt (add (text "BB")) (pos 1) (added_new not_past_same_hash hash_asked)
    ∷ elements_are 2
    ∷ [])

abbrev pub add_null_twice : Try
add_null_twice =
    passes
    (makes_set
    ∷ GivesInt (add null) (pos 1) (added_new null_in_nothing hash_null)
    ∷ GivesInt (add null) (pos 0) (added_before null_at_first)
    ∷ elements_are 1
    ∷ [])

-- ---- contains

abbrev pub contains_an_element : Try
contains_an_element =
    passes
    (makes_set ∷ joins_first "a" ∷ joins_second "b"
    ∷ GivesInt (contains (text "b")) (pos 1) (has_key past_other_hash)
    ∷ [])

abbrev pub contains_one_of_the_hash : Try
contains_one_of_the_hash =
    passes
    (makes_set ∷ joins_first "Aa"
    ∷ GivesInt (contains (text "BB")) (pos 0) (has_key not_past_same_hash)
    ∷ joins_alike "BB"
    ∷ GivesInt (contains (text "BB")) (pos 1) (has_key past_same_hash)
    ∷ [])

abbrev pub contains_not_null : Try
contains_not_null =
    passes (makes_set ∷ GivesInt (contains null) (pos 0) (has_key null_in_nothing) ∷ [])

abbrev pub contains_a_null : Try
contains_a_null =
    passes
    (makes_set ∷ joins null (added_new null_in_nothing hash_null)
    ∷ GivesInt (contains null) (pos 1) (has_key null_at_first)
    ∷ [])

-- ---- remove

abbrev pub taken_from_the_middle : Try
taken_from_the_middle =
    passes
    (makes_set ∷ joins_first "a" ∷ joins_second "b" ∷ joins_third "c"
    ∷ GivesInt (removes (text "b")) (pos 1) (taken_out past_other_hash)
    ∷ elements_are 2
    ∷ GivesInt (contains (text "b")) (pos 0) (has_key not_past_two)
    ∷ GivesInt (contains (text "c")) (pos 1) (has_key past_other_hash)
    ∷ [])

abbrev pub none_is_taken : Try
none_is_taken =
    passes
    (makes_set ∷ joins_first "a"
    ∷ GivesInt (removes (text "b")) (pos 0) (not_taken not_past_other_hash)
    ∷ elements_are 1
    ∷ [])

abbrev pub none_of_the_hash_is_taken : Try
none_of_the_hash_is_taken =
    passes
    (makes_set ∷ joins_first "Aa"
    ∷ GivesInt (removes (text "BB")) (pos 0) (not_taken not_past_same_hash)
    ∷ elements_are 1
    ∷ [])

abbrev pub null_is_taken : Try
null_is_taken =
    passes
    (makes_set ∷ joins null (added_new null_in_nothing hash_null)
    ∷ GivesInt (removes null) (pos 1) (taken_out null_at_first)
    ∷ elements_are 0
    ∷ [])
