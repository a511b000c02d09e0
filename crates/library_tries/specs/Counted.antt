-- The steps of the written methods, counted by hand from their code: one for each instruction that
-- is executed, a call too. What a native method does is done within the step of its call. The steps
-- inside of a written method that is called are added: `e` are those of Objects.equals, `h` those
-- of Objects.hashCode, `i` those of indexOf, `f` those of find.
use Rattle.std.specs.Prelude.{ℕ, ◌+◌}

-- Objects.equals. The same object, or null twice: aload_0 aload_1 if_acmpne iconst_1 ireturn
abbrev pub equals_same : ℕ
equals_same = 5

-- Null and an object: aload_0 aload_1 if_acmpne aload_0 ifnonnull iconst_0 ireturn
abbrev pub equals_null : ℕ
equals_null = 7

-- Two others: aload_0 aload_1 if_acmpne aload_0 ifnonnull aload_0 aload_1 equals ireturn
abbrev pub equals_asked : ℕ
equals_asked = 9

-- Objects.hashCode. Of null: aload_0 ifnonnull iconst_0 ireturn
abbrev pub hash_null : ℕ
hash_null = 4

-- Of an object: aload_0 ifnonnull aload_0 hashCode ireturn
abbrev pub hash_asked : ℕ
hash_asked = 5

-- String.valueOf. Of null: aload_0 ifnonnull ldc areturn
abbrev pub text_null : ℕ
text_null = 4

-- Of an object: aload_0 ifnonnull aload_0 toString areturn
abbrev pub text_asked : ℕ
text_asked = 5

-- StringBuilder.append: aload_0 aload_1 valueOf append areturn, and the steps of valueOf
abbrev pub appended : ℕ → ℕ
appended t = 5 + t

-- ArrayList.indexOf begins: iconst_0 istore_2
abbrev pub index_begun : ℕ
index_begun = 2

-- An element that isn't it: iload_2 aload_0 size if_icmpge,
-- aload_1 aload_0 iload_2 get equals ifne, iinc goto
abbrev pub passed_by : ℕ → ℕ
passed_by e = 4 + 6 + e + 2

-- The one that it is: iload_2 aload_0 size if_icmpge,
-- aload_1 aload_0 iload_2 get equals ifne, iload_2 ireturn
abbrev pub found_it : ℕ → ℕ
found_it e = 4 + 6 + e + 2

-- None is left: iload_2 aload_0 size if_icmpge, iconst_m1 ireturn
abbrev pub index_ended : ℕ
index_ended = 4 + 2

-- ArrayList.contains: aload_0 aload_1 indexOf iflt, iconst_1 ireturn or iconst_0 ireturn
abbrev pub contained : ℕ → ℕ
contained i = 4 + i + 2

-- ArrayList.remove. Of an element: aload_0 aload_1 indexOf istore_2 iload_2 ifge,
-- aload_0 iload_2 remove pop iconst_1 ireturn
abbrev pub removed : ℕ → ℕ
removed i = 6 + i + 6

-- Of what isn't there: aload_0 aload_1 indexOf istore_2 iload_2 ifge, iconst_0 ireturn
abbrev pub not_removed : ℕ → ℕ
not_removed i = 6 + i + 2

-- ArrayList.equals. Another object: aload_1 instanceof ifne, iconst_0 ireturn
abbrev pub no_list : ℕ
no_list = 3 + 2

-- Another length: aload_1 instanceof ifne, aload_1 checkcast astore_2,
-- aload_0 size aload_2 size if_icmpeq, iconst_0 ireturn
abbrev pub other_length : ℕ
other_length = 3 + 3 + 5 + 2

-- The same length: aload_1 instanceof ifne, aload_1 checkcast astore_2,
-- aload_0 size aload_2 size if_icmpeq, iconst_0 istore_3
abbrev pub same_length : ℕ
same_length = 3 + 3 + 5 + 2

-- Two equal elements: iload_3 aload_0 size if_icmpge,
-- aload_0 iload_3 get aload_2 iload_3 get equals ifne, iinc goto
abbrev pub equal_pair : ℕ → ℕ
equal_pair e = 4 + 8 + e + 2

-- Two unequal ones: iload_3 aload_0 size if_icmpge,
-- aload_0 iload_3 get aload_2 iload_3 get equals ifne, iconst_0 ireturn
abbrev pub unequal_pair : ℕ → ℕ
unequal_pair e = 4 + 8 + e + 2

-- None is left: iload_3 aload_0 size if_icmpge, iconst_1 ireturn
abbrev pub pairs_ended : ℕ
pairs_ended = 4 + 2

-- Hashed.find begins: aload_1 hashCode istore_2 iconst_0 istore_3
abbrev pub find_begun : ℕ → ℕ
find_begun h = 5 + h

-- An entry of another hash: iload_3 aload_0 $size if_icmpge,
-- aload_0 iload_3 $hash iload_2 if_icmpne, iinc goto
abbrev pub other_hash : ℕ
other_hash = 4 + 5 + 2

-- One of this hash and another key: iload_3 aload_0 $size if_icmpge,
-- aload_0 iload_3 $hash iload_2 if_icmpne, aload_1 aload_0 iload_3 $key equals ifne, iinc goto
abbrev pub other_key : ℕ → ℕ
other_key e = 4 + 5 + 6 + e + 2

-- The entry: iload_3 aload_0 $size if_icmpge, aload_0 iload_3 $hash iload_2 if_icmpne,
-- aload_1 aload_0 iload_3 $key equals ifne, iload_3 ireturn
abbrev pub key_found : ℕ → ℕ
key_found e = 4 + 5 + 6 + e + 2

-- None is left: iload_3 aload_0 $size if_icmpge, iconst_m1 ireturn
abbrev pub find_ended : ℕ
find_ended = 4 + 2

-- HashMap.get, and remove with $cut. Of a key: aload_0 aload_1 find istore_2 iload_2 iflt,
-- aload_0 iload_2 $value areturn
abbrev pub got : ℕ → ℕ
got f = 6 + f + 4

-- Of what isn't there: aload_0 aload_1 find istore_2 iload_2 iflt, aconst_null areturn
abbrev pub got_none : ℕ → ℕ
got_none f = 6 + f + 2

-- HashMap.put. Of a key that is there: aload_0 aload_1 find istore_3 iload_3 iflt,
-- aload_0 iload_3 aload_2 $set areturn
abbrev pub replaced : ℕ → ℕ
replaced f = 6 + f + 5

-- Of a new one: aload_0 aload_1 find istore_3 iload_3 iflt,
-- aload_0 aload_1 hashCode aload_1 aload_2 $add aconst_null areturn
abbrev pub put_new : ℕ → ℕ → ℕ
put_new f h = 6 + f + 8 + h

-- HashMap.containsKey, HashSet.contains: aload_0 aload_1 find iflt, iconst_1 ireturn or
-- iconst_0 ireturn
abbrev pub has_key : ℕ → ℕ
has_key f = 4 + f + 2

-- HashSet.add. Of an element that is there: aload_0 aload_1 find iflt, iconst_0 ireturn
abbrev pub added_before : ℕ → ℕ
added_before f = 4 + f + 2

-- Of a new one: aload_0 aload_1 find iflt,
-- aload_0 aload_1 hashCode aload_1 aconst_null $add iconst_1 ireturn
abbrev pub added_new : ℕ → ℕ → ℕ
added_new f h = 4 + f + 8 + h

-- HashSet.remove. Of an element: aload_0 aload_1 find istore_2 iload_2 iflt,
-- aload_0 iload_2 $cut pop iconst_1 ireturn
abbrev pub taken_out : ℕ → ℕ
taken_out f = 6 + f + 6

-- Of what isn't there: aload_0 aload_1 find istore_2 iload_2 iflt, iconst_0 ireturn
abbrev pub not_taken : ℕ → ℕ
not_taken f = 6 + f + 2

-- assertEquals and assertNotEquals. One that holds: aload_0 aload_1 equals ifne (ifeq), return
abbrev pub holds : ℕ → ℕ
holds e = 4 + e + 1

-- One that doesn't: aload_0 aload_1 equals ifne (ifeq), $fail, and the step that pops the frame
abbrev pub broken : ℕ → ℕ
broken e = 4 + e + 1 + 1
