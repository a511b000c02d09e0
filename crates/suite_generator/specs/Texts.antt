-- The texts of the suite that is made, in the assembler's language (this project's own).
use Rattle.std.specs.Prelude.{ℕ, ◌+◌, List, ◌++◌, codes, decimal}

-- `gen/CN`: `f` adds N to what it is given, on line 10; `g` negates it, on line 20.
abbrev pub class_text : ℕ → List ℕ
class_text number =
    codes "class gen/C"
    ++ (decimal number
    ++ (codes " super java/lang/Object flags 33 major 52\n"
    ++ codes "method 9 f (I)I stack 2 locals 1\n"
    ++ codes "line 10\n"
    ++ codes "iload_0\n"
    ++ codes "sipush "
    ++ (decimal number
    ++ (codes "\n"
    ++ codes "iadd\n"
    ++ codes "ireturn\n"
    ++ codes "method 9 g (I)I stack 1 locals 1\n"
    ++ codes "line 20\n"
    ++ codes "iload_0\n"
    ++ codes "ineg\n"
    ++ codes "ireturn\n"
    ++ codes "end\n"))))

-- `gen/TN`, with one JUnit 4 test: `f` of `gen/CN` makes 3 + N of 3.
abbrev pub test_text : ℕ → List ℕ
test_text number =
    codes "class gen/T"
    ++ (decimal number
    ++ (codes " super java/lang/Object flags 33 major 52\n"
    ++ codes "method 1 <init> ()V stack 1 locals 1\n"
    ++ codes "aload_0\n"
    ++ codes "invokespecial java/lang/Object.<init> ()V\n"
    ++ codes "return\n"
    ++ codes "method 1 t ()V stack 4 locals 1\n"
    ++ codes "ldc2_w "
    ++ (decimal (3 + number)
    ++ (codes "\n"
    ++ codes "iconst_3\n"
    ++ codes "invokestatic gen/C"
    ++ (decimal number
    ++ (codes ".f (I)I\n"
    ++ codes "i2l\n"
    ++ codes "invokestatic org/junit/Assert.assertEquals (JJ)V\n"
    ++ codes "return\n"
    ++ codes "note Lorg/junit/Test;\n"
    ++ codes "end\n"))))))
