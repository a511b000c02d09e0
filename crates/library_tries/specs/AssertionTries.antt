-- Programs that call the written assertions, of both classes.
use Prim.Native.String.{String}
use Rattle.std.specs.Prelude.{pos, List, [], ◌∷◌, ◌++◌}
use Rattle.program_rules.specs.Instructions.{Instruction}
use Rattle.library_tries.specs.Programs.{Try, Does, passes, fails, throws}
use Rattle.library_tries.specs.Counted.{equals_same, equals_null, equals_asked, holds, broken}
use Rattle.library_tries.specs.Words.{static, text, null, boxed}

abbrev pub of_4 : String
of_4 = "org/junit/Assert"

abbrev pub of_5 : String
of_5 = "org/junit/jupiter/api/Assertions"

abbrev pub are_equal : String → List Instruction → List Instruction → List Instruction
are_equal class x y =
    x ++ (y ++ static class "assertEquals" "(Ljava/lang/Object;Ljava/lang/Object;)V" ∷ [])

abbrev pub are_unequal : String → List Instruction → List Instruction → List Instruction
are_unequal class x y =
    x ++ (y ++ static class "assertNotEquals" "(Ljava/lang/Object;Ljava/lang/Object;)V" ∷ [])

-- ---- assertEquals

abbrev pub equal_holds : String → Try
equal_holds class =
    passes
    (Does (are_equal class (text "a") (text "a")) (holds equals_same)
    ∷ Does (are_equal class null null) (holds equals_same)
    ∷ Does (are_equal class (boxed (pos 1000)) (boxed (pos 1000))) (holds equals_asked)
    ∷ [])

abbrev pub equal_fails : String → Try
equal_fails class = fails [] (are_equal class (text "a") (text "b")) (broken equals_asked)

abbrev pub equal_throws : String → Try
equal_throws class =
    throws "java/lang/AssertionError" [] (are_equal class (text "Aa") (text "BB"))
    (broken equals_asked)

abbrev pub equal_throws_of_null : String → Try
equal_throws_of_null class =
    throws "java/lang/AssertionError" [] (are_equal class null (text "a")) (broken equals_null)

abbrev pub equal_throws_to_null : String → Try
equal_throws_to_null class =
    throws "java/lang/AssertionError" [] (are_equal class (text "a") null) (broken equals_asked)

-- ---- assertNotEquals

abbrev pub unequal_holds : String → Try
unequal_holds class =
    passes
    (Does (are_unequal class (text "Aa") (text "BB")) (holds equals_asked)
    ∷ Does (are_unequal class null (text "a")) (holds equals_null)
    ∷ Does (are_unequal class (text "a") null) (holds equals_asked)
    ∷ [])

abbrev pub unequal_fails : String → Try
unequal_fails class = fails [] (are_unequal class (text "a") (text "a")) (broken equals_same)

abbrev pub unequal_throws : String → Try
unequal_throws class =
    throws "java/lang/AssertionError" []
    (are_unequal class (boxed (pos 1000)) (boxed (pos 1000))) (broken equals_asked)

abbrev pub unequal_throws_of_nulls : String → Try
unequal_throws_of_nulls class =
    throws "java/lang/AssertionError" [] (are_unequal class null null) (broken equals_same)
