-- Programs that walk over collections, and those in which a collection throws.
use Prim.Native.String.{String}
use Rattle.std.specs.Prelude.{ℕ, ◌+◌, pos, negsuc, List, [], ◌∷◌, ◌++◌, codes}
use Rattle.program_rules.specs.Instructions.{Instruction, New, Dup, IntConstant, TextConstant, ReferenceLoad, ReferenceStore}
use Rattle.library_tries.specs.Programs.{Try, Part, Does, GivesInt, GivesSame, passes, throws}
use Rattle.library_tries.specs.Counted.{replaced}
use Rattle.library_tries.specs.Words.{special, through, text, makes_list, makes_map, makes_set, adds, on_list, on_map, on_set, put, puts}
use Rattle.library_tries.specs.MapTries.{at_first, past_other_hash, puts_first, puts_second, puts_third}
use Rattle.library_tries.specs.SetTries.{joins_first, joins_second, joins_third}
use Rattle.library_tries.specs.SetTries as set
use Rattle.library_tries.specs.ListTries.{element}
use Rattle.library_tries.specs.Counted.{taken_out}

-- The iterator of this code as local 1.
abbrev pub walks : List Instruction → Part
walks is = Does (is ++ ReferenceStore 1 ∷ []) 0

abbrev pub over_list : Part
over_list = walks (on_list "iterator" "()Ljava/util/Iterator;" [])

abbrev pub over_set : Part
over_set = walks (on_set "iterator" "()Ljava/util/Iterator;" [])

abbrev pub over_keys : Part
over_keys =
    walks
    (on_map "keySet" "()Ljava/util/Set;" []
    ++ through "java/util/Set" "iterator" "()Ljava/util/Iterator;" ∷ [])

abbrev pub over_values : Part
over_values =
    walks
    (on_map "values" "()Ljava/util/Collection;" []
    ++ through "java/util/Collection" "iterator" "()Ljava/util/Iterator;" ∷ [])

abbrev pub next : List Instruction
next = ReferenceLoad 1 ∷ through "java/util/Iterator" "next" "()Ljava/lang/Object;" ∷ []

abbrev pub next_is : String → Part
next_is t = GivesSame next (TextConstant (codes t)) 0

-- Whether there is a next one.
abbrev pub more_is : ℕ → Part
more_is n =
    GivesInt (ReferenceLoad 1 ∷ through "java/util/Iterator" "hasNext" "()Z" ∷ []) (pos n) 0

-- ---- walks

abbrev pub walk_of_a_list : Try
walk_of_a_list =
    passes
    (makes_list ∷ adds (text "b") ∷ adds (text "a")
    ∷ over_list ∷ more_is 1 ∷ next_is "b" ∷ next_is "a" ∷ more_is 0
    ∷ [])

abbrev pub walk_of_a_set : Try
walk_of_a_set =
    passes
    (makes_set ∷ joins_first "c" ∷ joins_second "a" ∷ joins_third "b"
    ∷ over_set ∷ next_is "c" ∷ next_is "a" ∷ next_is "b" ∷ more_is 0
    ∷ [])

-- A value that is replaced leaves its key where it was.
abbrev pub walk_of_keys : Try
walk_of_keys =
    passes
    (makes_map ∷ puts_first "c" "x" ∷ puts_second "a" "y" ∷ puts_third "b" "z"
    ∷ puts (text "c") (text "w") (replaced at_first)
    ∷ over_keys ∷ next_is "c" ∷ next_is "a" ∷ next_is "b" ∷ more_is 0
    ∷ [])

abbrev pub walk_of_values : Try
walk_of_values =
    passes
    (makes_map ∷ puts_first "c" "x" ∷ puts_second "a" "y"
    ∷ puts (text "c") (text "w") (replaced at_first)
    ∷ over_values ∷ next_is "w" ∷ next_is "y" ∷ more_is 0
    ∷ [])

abbrev pub walk_behind_a_removal : Try
walk_behind_a_removal =
    passes
    (makes_set ∷ joins_first "c" ∷ joins_second "a" ∷ joins_third "b"
    ∷ GivesInt (set.removes (text "a")) (pos 1) (taken_out past_other_hash)
    ∷ over_set ∷ next_is "c" ∷ next_is "b" ∷ more_is 0
    ∷ [])

-- Java throws ConcurrentModificationException here: an iterator of this library keeps the list, and
-- no copy of it.
abbrev pub change_in_a_walk : Try
change_in_a_walk =
    passes
    (makes_list ∷ over_list ∷ more_is 0 ∷ adds (text "a") ∷ more_is 1 ∷ next_is "a" ∷ more_is 0
    ∷ [])

-- ---- faults

abbrev pub walk_past_the_end : Try
walk_past_the_end =
    throws "java/util/NoSuchElementException"
    (makes_list ∷ adds (text "a") ∷ over_list ∷ next_is "a" ∷ []) next 0

abbrev pub place_outside : Try
place_outside =
    throws "java/lang/IndexOutOfBoundsException" (makes_list ∷ adds (text "a") ∷ []) (element 1) 0

abbrev pub negative_capacity : Try
negative_capacity =
    throws "java/lang/IllegalArgumentException" []
    (New (codes "java/util/ArrayList")
    ∷ Dup
    ∷ IntConstant (negsuc 0)
    ∷ special "java/util/ArrayList" "<init>" "(I)V"
    ∷ [])
    0

-- A list has no hash here. Steps: aload_0 aload_1 find; aload_1 hashCode; aload_0 ifnonnull aload_0
-- hashCode; and each of the three frames is popped.
abbrev pub list_as_a_key : Try
list_as_a_key =
    throws "java/lang/UnsupportedOperationException"
    (makes_map ∷ Does
    (New (codes "java/util/ArrayList")
    ∷ Dup
    ∷ special "java/util/ArrayList" "<init>" "()V"
    ∷ ReferenceStore 1
    ∷ []) 0 ∷ [])
    (put (ReferenceLoad 1 ∷ []) (text "x")) (3 + 2 + 4 + 3)
