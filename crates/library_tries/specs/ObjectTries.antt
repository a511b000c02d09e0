-- Programs that call Objects.equals, Objects.hashCode, String.valueOf and StringBuilder.append.
use Rattle.std.specs.Prelude.{pos, List, [], ◌∷◌, ◌++◌}
use Rattle.program_rules.specs.Instructions.{Instruction, Pop, TextConstant}
use Rattle.library_tries.specs.Programs.{Try, Does, GivesInt, GivesSame, passes}
use Rattle.library_tries.specs.Counted.{equals_same, equals_null, equals_asked, hash_null, hash_asked, text_null, text_asked, appended}
use Rattle.library_tries.specs.Words.{static, virtual, text, null, boxed, makes, on}
use Rattle.std.specs.Prelude.{codes}

abbrev pub equals : List Instruction → List Instruction → List Instruction
equals x y =
    x ++ (y
    ++ static "java/util/Objects" "equals" "(Ljava/lang/Object;Ljava/lang/Object;)Z" ∷ [])

abbrev pub hash : List Instruction → List Instruction
hash x = x ++ static "java/util/Objects" "hashCode" "(Ljava/lang/Object;)I" ∷ []

abbrev pub text_of : List Instruction → List Instruction
text_of x = x ++ static "java/lang/String" "valueOf" "(Ljava/lang/Object;)Ljava/lang/String;" ∷ []

-- Whether the text of this code is this one.
abbrev pub is_text : List Instruction → List Instruction → List Instruction
is_text x y = x ++ (y ++ virtual "java/lang/String" "equals" "(Ljava/lang/Object;)Z" ∷ [])

abbrev pub append : List Instruction → List Instruction
append x =
    on "java/lang/StringBuilder" "append" "(Ljava/lang/Object;)Ljava/lang/StringBuilder;" x
    ++ Pop ∷ []

abbrev pub builder_text : List Instruction
builder_text = on "java/lang/StringBuilder" "toString" "()Ljava/lang/String;" []

abbrev pub same_are_equal : Try
same_are_equal = passes (GivesInt (equals (text "a") (text "a")) (pos 1) equals_same ∷ [])

abbrev pub nulls_are_equal : Try
nulls_are_equal = passes (GivesInt (equals null null) (pos 1) equals_same ∷ [])

abbrev pub null_is_no_text : Try
null_is_no_text = passes (GivesInt (equals null (text "a")) (pos 0) equals_null ∷ [])

abbrev pub text_is_not_null : Try
text_is_not_null = passes (GivesInt (equals (text "a") null) (pos 0) equals_asked ∷ [])

-- Two objects: only up to 127 is there one for a number.
abbrev pub boxes_are_equal : Try
boxes_are_equal =
    passes (GivesInt (equals (boxed (pos 1000)) (boxed (pos 1000))) (pos 1) equals_asked ∷ [])

abbrev pub texts_are_unequal : Try
texts_are_unequal = passes (GivesInt (equals (text "Aa") (text "BB")) (pos 0) equals_asked ∷ [])

abbrev pub null_has_hash_0 : Try
null_has_hash_0 = passes (GivesInt (hash null) (pos 0) hash_null ∷ [])

-- 65 * 31 + 97, and 66 * 31 + 66.
abbrev pub hashes_are_equal : Try
hashes_are_equal =
    passes
    (GivesInt (hash (text "Aa")) (pos 2112) hash_asked
    ∷ GivesInt (hash (text "BB")) (pos 2112) hash_asked
    ∷ [])

abbrev pub null_has_a_text : Try
null_has_a_text = passes (GivesSame (text_of null) (TextConstant (codes "null")) text_null ∷ [])

abbrev pub text_is_its_text : Try
text_is_its_text =
    passes (GivesSame (text_of (text "a")) (TextConstant (codes "a")) text_asked ∷ [])

abbrev pub box_has_a_text : Try
box_has_a_text =
    passes (GivesInt (is_text (text_of (boxed (pos 12))) (text "12")) (pos 1) text_asked ∷ [])

abbrev pub append_of_null : Try
append_of_null =
    passes
    (makes 0 "java/lang/StringBuilder"
    ∷ Does (append null) (appended text_null)
    ∷ GivesInt (is_text builder_text (text "null")) (pos 1) 0
    ∷ [])

abbrev pub append_of_objects : Try
append_of_objects =
    passes
    (makes 0 "java/lang/StringBuilder"
    ∷ Does (append (boxed (pos 12))) (appended text_asked)
    ∷ Does (append (text "a")) (appended text_asked)
    ∷ GivesInt (is_text builder_text (text "12a")) (pos 1) 0
    ∷ [])
