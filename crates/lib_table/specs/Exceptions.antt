-- Throwable and the classes below it.
use Rattle.std.specs.Prelude.{List, [], ◌∷◌, Some, codes}
use Rattle.class_link.specs.declared.loaded.LibClass.{LibClass}
use Rattle.lib_table.specs.Stated.{Row, abstract_class, class, class_with, field, native}
use Rattle.library_rules.specs.declared.native.ObjectNative.TheVariants as object
use Rattle.library_rules.specs.declared.native.ThrowableNative.TheVariants as throwable
use Rattle.library_rules.specs.Places.{as_object, as_throwable}

-- java/lang/Throwable
abbrev pub throwable_methods : List Row
throwable_methods =
    native (as_object object.DoNothing) "<init>" "()V"
    ∷ native (as_throwable throwable.SetMessage) "<init>" "(Ljava/lang/String;)V"
    ∷ native (as_throwable throwable.SetMessageAndCause) "<init>" "(Ljava/lang/String;Ljava/lang/Throwable;)V"
    ∷ native (as_throwable throwable.SetCause) "<init>" "(Ljava/lang/Throwable;)V"
    ∷ native (as_throwable throwable.Message) "getMessage" "()Ljava/lang/String;"
    ∷ native (as_throwable throwable.Cause) "getCause" "()Ljava/lang/Throwable;"
    ∷ native (as_object object.DoNothing) "addSuppressed" "(Ljava/lang/Throwable;)V"
    ∷ []

-- The four `<init>` of Throwable and of each class below it.
abbrev pub initializers : List Row
initializers =
    native (as_object object.DoNothing) "<init>" "()V"
    ∷ native (as_throwable throwable.SetMessage) "<init>" "(Ljava/lang/String;)V"
    ∷ native (as_throwable throwable.SetMessageAndCause) "<init>" "(Ljava/lang/String;Ljava/lang/Throwable;)V"
    ∷ native (as_throwable throwable.SetCause) "<init>" "(Ljava/lang/Throwable;)V"
    ∷ []

unfoldable pub throwables : List LibClass
throwables =
    class_with 33 "java/lang/Throwable" (Some (codes "java/lang/Object")) []
    (field "message" "Ljava/lang/String;" ∷ field "cause" "Ljava/lang/Throwable;" ∷ [])
    throwable_methods
    ∷ class "java/lang/Exception" "java/lang/Throwable" [] initializers
    ∷ class "java/lang/RuntimeException" "java/lang/Exception" [] initializers
    ∷ class "java/lang/Error" "java/lang/Throwable" [] initializers
    ∷ class "java/lang/LinkageError" "java/lang/Error" [] initializers
    ∷ abstract_class "java/lang/VirtualMachineError" "java/lang/Error" [] initializers
    ∷ []

unfoldable pub errors : List LibClass
errors =
    class "java/lang/AssertionError" "java/lang/Error" [] initializers
    ∷ class "java/lang/NoClassDefFoundError" "java/lang/LinkageError" [] initializers
    ∷ class "java/lang/ExceptionInInitializerError" "java/lang/LinkageError" [] initializers
    ∷ class "java/lang/IncompatibleClassChangeError" "java/lang/LinkageError" [] initializers
    ∷ class "java/lang/NoSuchFieldError" "java/lang/IncompatibleClassChangeError" [] initializers
    ∷ class "java/lang/NoSuchMethodError" "java/lang/IncompatibleClassChangeError" [] initializers
    ∷ class "java/lang/AbstractMethodError" "java/lang/IncompatibleClassChangeError" [] initializers
    ∷ class "java/lang/InstantiationError" "java/lang/IncompatibleClassChangeError" [] initializers
    ∷ class "java/lang/StackOverflowError" "java/lang/VirtualMachineError" [] initializers
    ∷ []

unfoldable pub machine_exceptions : List LibClass
machine_exceptions =
    class "java/lang/ArithmeticException" "java/lang/RuntimeException" [] initializers
    ∷ class "java/lang/ArrayStoreException" "java/lang/RuntimeException" [] initializers
    ∷ class "java/lang/ClassCastException" "java/lang/RuntimeException" [] initializers
    ∷ class "java/lang/IllegalMonitorStateException" "java/lang/RuntimeException" [] initializers
    ∷ class "java/lang/IndexOutOfBoundsException" "java/lang/RuntimeException" [] initializers
    ∷ class "java/lang/ArrayIndexOutOfBoundsException" "java/lang/IndexOutOfBoundsException" [] initializers
    ∷ class "java/lang/NegativeArraySizeException" "java/lang/RuntimeException" [] initializers
    ∷ class "java/lang/NullPointerException" "java/lang/RuntimeException" [] initializers
    ∷ []

unfoldable pub library_exceptions : List LibClass
library_exceptions =
    class "java/lang/IllegalArgumentException" "java/lang/RuntimeException" [] initializers
    ∷ class "java/lang/NumberFormatException" "java/lang/IllegalArgumentException" [] initializers
    ∷ class "java/lang/IllegalStateException" "java/lang/RuntimeException" [] initializers
    ∷ class "java/lang/StringIndexOutOfBoundsException" "java/lang/IndexOutOfBoundsException" [] initializers
    ∷ class "java/util/NoSuchElementException" "java/lang/RuntimeException" [] initializers
    ∷ class "java/lang/UnsupportedOperationException" "java/lang/RuntimeException" [] initializers
    ∷ []
