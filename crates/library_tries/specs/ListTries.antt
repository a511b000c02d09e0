-- Programs that call the written methods of ArrayList.
use Rattle.std.specs.Prelude.{ℕ, ◌+◌, pos, negsuc, List, [], ◌∷◌, ◌++◌, codes}
use Rattle.program_rules.specs.Instructions.{Instruction, IntConstant, TextConstant, ReferenceLoad, CheckCast}
use Rattle.library_tries.specs.Programs.{Try, Part, GivesInt, GivesSame, passes}
use Rattle.library_tries.specs.Counted.{equals_same, equals_null, equals_asked, index_begun, passed_by, found_it, index_ended, contained, removed, not_removed, no_list, other_length, same_length, equal_pair, unequal_pair, pairs_ended}
use Rattle.library_tries.specs.Words.{virtual, text, null, boxed, makes, makes_list, adds, adds_to, on_list}

abbrev pub index_of : List Instruction → List Instruction
index_of x = on_list "indexOf" "(Ljava/lang/Object;)I" x

abbrev pub contains : List Instruction → List Instruction
contains x = on_list "contains" "(Ljava/lang/Object;)Z" x

abbrev pub removes : List Instruction → List Instruction
removes x = on_list "remove" "(Ljava/lang/Object;)Z" x

abbrev pub element : ℕ → List Instruction
element n = on_list "get" "(I)Ljava/lang/Object;" (IntConstant (pos n) ∷ [])

abbrev pub size_is : ℕ → Part
size_is n = GivesInt (on_list "size" "()I" []) (pos n) 0

abbrev pub number_of : List Instruction → List Instruction
number_of x =
    x
    ++ CheckCast (codes "java/lang/Integer") ∷ virtual "java/lang/Integer" "intValue" "()I" ∷ []

-- Whether the list is equal to an object.
abbrev pub is_equal_to : List Instruction → List Instruction
is_equal_to x = on_list "equals" "(Ljava/lang/Object;)Z" x

-- The list of local 1.
abbrev pub other : List Instruction
other = ReferenceLoad 1 ∷ []

abbrev pub makes_other : Part
makes_other = makes 1 "java/util/ArrayList"

-- ---- indexOf

abbrev pub index_of_first : Try
index_of_first =
    passes
    (makes_list ∷ adds (text "a") ∷ adds (text "b")
    ∷ GivesInt (index_of (text "a")) (pos 0) (index_begun + found_it equals_same)
    ∷ [])

abbrev pub index_of_second : Try
index_of_second =
    passes
    (makes_list ∷ adds (text "a") ∷ adds (text "b")
    ∷ GivesInt (index_of (text "b")) (pos 1)
    (index_begun + passed_by equals_asked + found_it equals_same)
    ∷ [])

abbrev pub index_of_none : Try
index_of_none =
    passes
    (makes_list ∷ adds (text "a") ∷ adds (text "b")
    ∷ GivesInt (index_of (text "c")) (negsuc 0)
    (index_begun + passed_by equals_asked + passed_by equals_asked + index_ended)
    ∷ [])

abbrev pub index_in_nothing : Try
index_in_nothing =
    passes (makes_list ∷ GivesInt (index_of (text "a")) (negsuc 0) (index_begun + index_ended) ∷ [])

abbrev pub index_of_null : Try
index_of_null =
    passes
    (makes_list ∷ adds (text "a") ∷ adds null
    ∷ GivesInt (index_of null) (pos 1)
    (index_begun + passed_by equals_null + found_it equals_same)
    ∷ [])

abbrev pub index_past_null : Try
index_past_null =
    passes
    (makes_list ∷ adds null ∷ adds (text "a")
    ∷ GivesInt (index_of (text "a")) (pos 1)
    (index_begun + passed_by equals_asked + found_it equals_same)
    ∷ [])

abbrev pub index_of_equal : Try
index_of_equal =
    passes
    (makes_list ∷ adds (boxed (pos 1000))
    ∷ GivesInt (index_of (boxed (pos 1000))) (pos 0) (index_begun + found_it equals_asked)
    ∷ [])

abbrev pub index_of_twice : Try
index_of_twice =
    passes
    (makes_list ∷ adds (text "a") ∷ adds (text "b") ∷ adds (text "b")
    ∷ GivesInt (index_of (text "b")) (pos 1)
    (index_begun + passed_by equals_asked + found_it equals_same)
    ∷ [])

-- ---- contains

abbrev pub contains_second : Try
contains_second =
    passes
    (makes_list ∷ adds (text "a") ∷ adds (text "b")
    ∷ GivesInt (contains (text "b")) (pos 1)
    (contained (index_begun + passed_by equals_asked + found_it equals_same))
    ∷ [])

abbrev pub contains_none : Try
contains_none =
    passes
    (makes_list ∷ adds (text "a")
    ∷ GivesInt (contains (text "b")) (pos 0)
    (contained (index_begun + passed_by equals_asked + index_ended))
    ∷ [])

abbrev pub contains_null : Try
contains_null =
    passes
    (makes_list ∷ adds null
    ∷ GivesInt (contains null) (pos 1) (contained (index_begun + found_it equals_same))
    ∷ [])

abbrev pub contains_no_null : Try
contains_no_null =
    passes
    (makes_list ∷ adds (text "a")
    ∷ GivesInt (contains null) (pos 0)
    (contained (index_begun + passed_by equals_null + index_ended))
    ∷ [])

-- ---- remove

abbrev pub removal_in_the_middle : Try
removal_in_the_middle =
    passes
    (makes_list ∷ adds (text "a") ∷ adds (text "b") ∷ adds (text "c")
    ∷ GivesInt (removes (text "b")) (pos 1)
    (removed (index_begun + passed_by equals_asked + found_it equals_same))
    ∷ size_is 2
    ∷ GivesSame (element 0) (TextConstant (codes "a")) 0
    ∷ GivesSame (element 1) (TextConstant (codes "c")) 0
    ∷ [])

abbrev pub removal_of_none : Try
removal_of_none =
    passes
    (makes_list ∷ adds (text "a")
    ∷ GivesInt (removes (text "b")) (pos 0)
    (not_removed (index_begun + passed_by equals_asked + index_ended))
    ∷ size_is 1
    ∷ [])

abbrev pub removal_of_null : Try
removal_of_null =
    passes
    (makes_list ∷ adds null ∷ adds (text "a")
    ∷ GivesInt (removes null) (pos 1) (removed (index_begun + found_it equals_same))
    ∷ size_is 1
    ∷ GivesSame (element 0) (TextConstant (codes "a")) 0
    ∷ [])

abbrev pub removal_of_one_of_two : Try
removal_of_one_of_two =
    passes
    (makes_list ∷ adds (text "a") ∷ adds (text "b") ∷ adds (text "a")
    ∷ GivesInt (removes (text "a")) (pos 1) (removed (index_begun + found_it equals_same))
    ∷ size_is 2
    ∷ GivesSame (element 0) (TextConstant (codes "b")) 0
    ∷ GivesSame (element 1) (TextConstant (codes "a")) 0
    ∷ [])

-- Of the numbers 1 and 0 the object 0 is the second, and the place 0 the first.
abbrev pub removal_of_an_object : Try
removal_of_an_object =
    passes
    (makes_list ∷ adds (boxed (pos 1)) ∷ adds (boxed (pos 0))
    ∷ GivesInt (removes (boxed (pos 0))) (pos 1)
    (removed (index_begun + passed_by equals_asked + found_it equals_same))
    ∷ size_is 1
    ∷ GivesInt (number_of (element 0)) (pos 1) 0
    ∷ [])

abbrev pub removal_of_a_place : Try
removal_of_a_place =
    passes
    (makes_list ∷ adds (boxed (pos 1)) ∷ adds (boxed (pos 0))
    ∷ GivesInt (number_of
    (on_list "remove" "(I)Ljava/lang/Object;" (IntConstant (pos 0) ∷ []))) (pos 1) 0
    ∷ size_is 1
    ∷ GivesInt (number_of (element 0)) (pos 0) 0
    ∷ [])

-- ---- equals

abbrev pub equal_lists : Try
equal_lists =
    passes
    (makes_list ∷ adds (text "a") ∷ adds (boxed (pos 1000))
    ∷ makes_other ∷ adds_to 1 (text "a") ∷ adds_to 1 (boxed (pos 1000))
    ∷ GivesInt (is_equal_to other) (pos 1)
    (same_length + equal_pair equals_same + equal_pair equals_asked + pairs_ended)
    ∷ [])

abbrev pub equal_empty_lists : Try
equal_empty_lists =
    passes
    (makes_list ∷ makes_other
    ∷ GivesInt (is_equal_to other) (pos 1) (same_length + pairs_ended)
    ∷ [])

abbrev pub equal_nulls_in_lists : Try
equal_nulls_in_lists =
    passes
    (makes_list ∷ adds null ∷ makes_other ∷ adds_to 1 null
    ∷ GivesInt (is_equal_to other) (pos 1) (same_length + equal_pair equals_same + pairs_ended)
    ∷ [])

abbrev pub longer_list : Try
longer_list =
    passes
    (makes_list ∷ adds (text "a") ∷ adds (text "b") ∷ makes_other ∷ adds_to 1 (text "a")
    ∷ GivesInt (is_equal_to other) (pos 0) other_length
    ∷ [])

abbrev pub shorter_list : Try
shorter_list =
    passes
    (makes_list ∷ adds (text "a")
    ∷ makes_other ∷ adds_to 1 (text "a") ∷ adds_to 1 (text "b")
    ∷ GivesInt (is_equal_to other) (pos 0) other_length
    ∷ [])

abbrev pub lists_that_differ : Try
lists_that_differ =
    passes
    (makes_list ∷ adds (text "a") ∷ adds (text "b")
    ∷ makes_other ∷ adds_to 1 (text "a") ∷ adds_to 1 (text "c")
    ∷ GivesInt (is_equal_to other) (pos 0)
    (same_length + equal_pair equals_same + unequal_pair equals_asked)
    ∷ [])

abbrev pub null_in_a_list : Try
null_in_a_list =
    passes
    (makes_list ∷ adds null ∷ makes_other ∷ adds_to 1 (text "a")
    ∷ GivesInt (is_equal_to other) (pos 0) (same_length + unequal_pair equals_null)
    ∷ [])

abbrev pub list_and_null : Try
list_and_null = passes (makes_list ∷ GivesInt (is_equal_to null) (pos 0) no_list ∷ [])

abbrev pub list_and_text : Try
list_and_text = passes (makes_list ∷ GivesInt (is_equal_to (text "a")) (pos 0) no_list ∷ [])

-- Each list has a list with a text: Objects.equals asks the inner one.
abbrev pub lists_of_lists : Try
lists_of_lists =
    passes
    (makes_list ∷ makes 2 "java/util/ArrayList" ∷ adds_to 2 (text "a")
    ∷ adds (ReferenceLoad 2 ∷ [])
    ∷ makes_other ∷ makes 3 "java/util/ArrayList" ∷ adds_to 3 (text "a")
    ∷ adds_to 1 (ReferenceLoad 3 ∷ [])
    ∷ GivesInt (is_equal_to other) (pos 1)
    (same_length
    + equal_pair (equals_asked + (same_length + equal_pair equals_same + pairs_ended))
    + pairs_ended)
    ∷ [])
