-- The classes of `java/lang`, with Optional and Objects.
use Rattle.std.specs.Prelude.{List, [], ◌∷◌, None}
use Rattle.class_link.specs.declared.loaded.LibClass.{LibClass}
use Rattle.lib_table.specs.Stated.{Row, abstract_class, class_with, final_class, native, static_native, static_written, written}
use Rattle.lib_table.specs.Written.{equal_objects, hash_of_object, text_of_any, append_any}
use Rattle.library_rules.specs.declared.native.ObjectNative.TheVariants as object
use Rattle.library_rules.specs.declared.native.OptionalNative.TheVariants as optional
use Rattle.library_rules.specs.declared.native.TextNative.TheVariants as text
use Rattle.library_rules.specs.declared.native.BuilderNative.TheVariants as builder
use Rattle.library_rules.specs.declared.native.BoxNative.TheVariants as box
use Rattle.library_rules.specs.declared.native.OrderNative.TheVariants as order
use Rattle.library_rules.specs.declared.native.NumberNative.TheVariants as number
use Rattle.library_rules.specs.Places.{as_object, as_optional, as_text, as_builder, as_box, as_order, as_number}

-- java/lang/Object
abbrev pub object_methods : List Row
object_methods =
    native (as_object object.DoNothing) "<init>" "()V"
    ∷ native (as_object object.SameObject) "equals" "(Ljava/lang/Object;)Z"
    ∷ native (as_object object.AllocationNumber) "hashCode" "()I"
    ∷ native (as_object object.ObjectText) "toString" "()Ljava/lang/String;"
    ∷ native (as_object object.ClassOf) "getClass" "()Ljava/lang/Class;"
    ∷ []

-- java/lang/Class
abbrev pub class_methods : List Row
class_methods =
    native (as_object object.NameOfClass) "getName" "()Ljava/lang/String;"
    ∷ native (as_object object.AssertionStatus) "desiredAssertionStatus" "()Z"
    ∷ []

-- java/lang/Enum
abbrev pub enum_methods : List Row
enum_methods =
    native (as_object object.EnumInit) "<init>" "(Ljava/lang/String;I)V"
    ∷ native (as_object object.EnumName) "name" "()Ljava/lang/String;"
    ∷ native (as_object object.EnumOrdinal) "ordinal" "()I"
    ∷ native (as_object object.EnumName) "toString" "()Ljava/lang/String;"
    ∷ native (as_object object.CompareAny) "compareTo" "(Ljava/lang/Object;)I"
    ∷ native (as_object object.CompareEnum) "compareTo" "(Ljava/lang/Enum;)I"
    ∷ native (as_object object.SameObject) "equals" "(Ljava/lang/Object;)Z"
    ∷ native (as_object object.AllocationNumber) "hashCode" "()I"
    ∷ []

-- java/util/Optional
abbrev pub optional_methods : List Row
optional_methods =
    static_native (as_optional optional.Empty) "empty" "()Ljava/util/Optional;"
    ∷ static_native (as_optional optional.Of) "of" "(Ljava/lang/Object;)Ljava/util/Optional;"
    ∷ static_native (as_optional optional.OfNullable) "ofNullable" "(Ljava/lang/Object;)Ljava/util/Optional;"
    ∷ native (as_optional optional.IsPresent) "isPresent" "()Z"
    ∷ native (as_optional optional.Value) "get" "()Ljava/lang/Object;"
    ∷ native (as_optional optional.OrElse) "orElse" "(Ljava/lang/Object;)Ljava/lang/Object;"
    ∷ []

-- java/util/Objects
abbrev pub objects_methods : List Row
objects_methods =
    static_written "equals" "(Ljava/lang/Object;Ljava/lang/Object;)Z" equal_objects
    ∷ static_written "hashCode" "(Ljava/lang/Object;)I" hash_of_object
    ∷ []

unfoldable pub objects : List LibClass
objects =
    class_with 33 "java/lang/Object" None [] [] object_methods
    ∷ final_class "java/lang/Class" "java/lang/Object" [] class_methods
    ∷ abstract_class "java/lang/Enum" "java/lang/Object" ("java/lang/Comparable" ∷ []) enum_methods
    ∷ final_class "java/util/Optional" "java/lang/Object" [] optional_methods
    ∷ final_class "java/util/Objects" "java/lang/Object" [] objects_methods
    ∷ []

-- java/lang/String
abbrev pub string_methods : List Row
string_methods =
    native (as_text text.Length) "length" "()I"
    ∷ native (as_text text.CharAt) "charAt" "(I)C"
    ∷ native (as_text text.IsEmpty) "isEmpty" "()Z"
    ∷ native (as_text text.Equals) "equals" "(Ljava/lang/Object;)Z"
    ∷ native (as_text text.Hash) "hashCode" "()I"
    ∷ native (as_text text.Compare) "compareTo" "(Ljava/lang/String;)I"
    ∷ native (as_text text.CompareAny) "compareTo" "(Ljava/lang/Object;)I"
    ∷ native (as_text text.Concat) "concat" "(Ljava/lang/String;)Ljava/lang/String;"
    ∷ native (as_text text.SubstringFrom) "substring" "(I)Ljava/lang/String;"
    ∷ native (as_text text.Substring) "substring" "(II)Ljava/lang/String;"
    ∷ native (as_text text.IndexOfChar) "indexOf" "(I)I"
    ∷ native (as_text text.IndexOfText) "indexOf" "(Ljava/lang/String;)I"
    ∷ native (as_text text.StartsWith) "startsWith" "(Ljava/lang/String;)Z"
    ∷ native (as_text text.EndsWith) "endsWith" "(Ljava/lang/String;)Z"
    ∷ native (as_text text.Chars) "toCharArray" "()[C"
    ∷ native (as_text text.Itself) "toString" "()Ljava/lang/String;"
    ∷ static_native (as_text text.OfInt) "valueOf" "(I)Ljava/lang/String;"
    ∷ static_native (as_text text.OfLong) "valueOf" "(J)Ljava/lang/String;"
    ∷ static_native (as_text text.OfChar) "valueOf" "(C)Ljava/lang/String;"
    ∷ static_native (as_text text.OfBool) "valueOf" "(Z)Ljava/lang/String;"
    ∷ static_written "valueOf" "(Ljava/lang/Object;)Ljava/lang/String;" text_of_any
    ∷ []

-- java/lang/StringBuilder
abbrev pub string_builder_methods : List Row
string_builder_methods =
    native (as_object object.DoNothing) "<init>" "()V"
    ∷ native (as_builder builder.OfCapacity) "<init>" "(I)V"
    ∷ native (as_builder builder.OfText) "<init>" "(Ljava/lang/String;)V"
    ∷ native (as_builder builder.AppendText) "append" "(Ljava/lang/String;)Ljava/lang/StringBuilder;"
    ∷ native (as_builder builder.AppendInt) "append" "(I)Ljava/lang/StringBuilder;"
    ∷ native (as_builder builder.AppendLong) "append" "(J)Ljava/lang/StringBuilder;"
    ∷ native (as_builder builder.AppendChar) "append" "(C)Ljava/lang/StringBuilder;"
    ∷ native (as_builder builder.AppendBool) "append" "(Z)Ljava/lang/StringBuilder;"
    ∷ native (as_text text.Length) "length" "()I"
    ∷ native (as_text text.CharAt) "charAt" "(I)C"
    ∷ native (as_builder builder.ToText) "toString" "()Ljava/lang/String;"
    ∷ written "append" "(Ljava/lang/Object;)Ljava/lang/StringBuilder;" append_any
    ∷ []

-- java/lang/Character
abbrev pub character_methods : List Row
character_methods =
    static_native (as_box box.OfChar) "valueOf" "(C)Ljava/lang/Character;"
    ∷ native (as_order order.CharEquals) "equals" "(Ljava/lang/Object;)Z"
    ∷ native (as_box box.IntValue) "charValue" "()C"
    ∷ native (as_box box.IntValue) "hashCode" "()I"
    ∷ native (as_box box.CharText) "toString" "()Ljava/lang/String;"
    ∷ static_native (as_number number.IsDigit) "isDigit" "(C)Z"
    ∷ static_native (as_number number.IsLetter) "isLetter" "(C)Z"
    ∷ []

-- java/lang/Boolean
abbrev pub boolean_methods : List Row
boolean_methods =
    static_native (as_box box.OfBool) "valueOf" "(Z)Ljava/lang/Boolean;"
    ∷ native (as_order order.BoolEquals) "equals" "(Ljava/lang/Object;)Z"
    ∷ native (as_box box.IntValue) "booleanValue" "()Z"
    ∷ native (as_box box.BoolHash) "hashCode" "()I"
    ∷ native (as_box box.BoolText) "toString" "()Ljava/lang/String;"
    ∷ []

unfoldable pub texts : List LibClass
texts =
    final_class "java/lang/String" "java/lang/Object" ("java/lang/CharSequence" ∷ "java/lang/Comparable" ∷ []) string_methods
    ∷ final_class "java/lang/StringBuilder" "java/lang/Object" [] string_builder_methods
    ∷ final_class "java/lang/Character" "java/lang/Object" [] character_methods
    ∷ final_class "java/lang/Boolean" "java/lang/Object" [] boolean_methods
    ∷ []

-- java/lang/Integer
abbrev pub integer_methods : List Row
integer_methods =
    static_native (as_box box.OfInt) "valueOf" "(I)Ljava/lang/Integer;"
    ∷ native (as_order order.IntEquals) "equals" "(Ljava/lang/Object;)Z"
    ∷ native (as_box box.IntValue) "intValue" "()I"
    ∷ native (as_box box.IntAsLong) "longValue" "()J"
    ∷ native (as_box box.IntValue) "hashCode" "()I"
    ∷ native (as_box box.IntText) "toString" "()Ljava/lang/String;"
    ∷ native (as_order order.CompareBox) "compareTo" "(Ljava/lang/Integer;)I"
    ∷ static_native (as_order order.CompareInts) "compare" "(II)I"
    ∷ static_native (as_text text.OfInt) "toString" "(I)Ljava/lang/String;"
    ∷ static_native (as_number number.ParseInt) "parseInt" "(Ljava/lang/String;)I"
    ∷ []

-- java/lang/Long
abbrev pub long_methods : List Row
long_methods =
    static_native (as_box box.OfLong) "valueOf" "(J)Ljava/lang/Long;"
    ∷ native (as_order order.LongEquals) "equals" "(Ljava/lang/Object;)Z"
    ∷ native (as_box box.LongAsInt) "intValue" "()I"
    ∷ native (as_box box.LongValue) "longValue" "()J"
    ∷ native (as_box box.LongHash) "hashCode" "()I"
    ∷ native (as_box box.LongText) "toString" "()Ljava/lang/String;"
    ∷ native (as_order order.CompareLongBox) "compareTo" "(Ljava/lang/Long;)I"
    ∷ static_native (as_order order.CompareLongs) "compare" "(JJ)I"
    ∷ []

-- java/lang/Short
abbrev pub short_methods : List Row
short_methods =
    static_native (as_box box.OfShort) "valueOf" "(S)Ljava/lang/Short;"
    ∷ native (as_order order.ShortEquals) "equals" "(Ljava/lang/Object;)Z"
    ∷ native (as_box box.IntValue) "shortValue" "()S"
    ∷ native (as_box box.IntValue) "hashCode" "()I"
    ∷ native (as_box box.IntText) "toString" "()Ljava/lang/String;"
    ∷ native (as_order order.SubtractBox) "compareTo" "(Ljava/lang/Short;)I"
    ∷ []

-- java/lang/Byte
abbrev pub byte_methods : List Row
byte_methods =
    static_native (as_box box.OfByte) "valueOf" "(B)Ljava/lang/Byte;"
    ∷ native (as_order order.ByteEquals) "equals" "(Ljava/lang/Object;)Z"
    ∷ native (as_box box.IntValue) "byteValue" "()B"
    ∷ native (as_box box.IntValue) "hashCode" "()I"
    ∷ native (as_box box.IntText) "toString" "()Ljava/lang/String;"
    ∷ native (as_order order.SubtractBox) "compareTo" "(Ljava/lang/Byte;)I"
    ∷ []

-- java/lang/Math
abbrev pub math_methods : List Row
math_methods =
    static_native (as_number number.AbsInt) "abs" "(I)I"
    ∷ static_native (as_number number.AbsLong) "abs" "(J)J"
    ∷ static_native (as_number number.MaxInt) "max" "(II)I"
    ∷ static_native (as_number number.MaxLong) "max" "(JJ)J"
    ∷ static_native (as_number number.MinInt) "min" "(II)I"
    ∷ static_native (as_number number.MinLong) "min" "(JJ)J"
    ∷ static_native (as_number number.FloorMod) "floorMod" "(II)I"
    ∷ []

unfoldable pub numbers : List LibClass
numbers =
    abstract_class "java/lang/Number" "java/lang/Object" [] []
    ∷ final_class "java/lang/Integer" "java/lang/Number" [] integer_methods
    ∷ final_class "java/lang/Long" "java/lang/Number" [] long_methods
    ∷ final_class "java/lang/Short" "java/lang/Number" [] short_methods
    ∷ final_class "java/lang/Byte" "java/lang/Number" [] byte_methods
    ∷ final_class "java/lang/Math" "java/lang/Object" [] math_methods
    ∷ []
