-- What is left of an int at a kind (this project's own; JVMS 2.3, 6.5).
use Rattle.std.specs.Prelude.{ℤ, pos}
use Rattle.std.specs.Int.{w8, w16, int_wrap, int_rem_euclid}
use Rattle.class_model.specs.declared.kind.Kind.{Kind}
use Rattle.class_model.specs.declared.kind.Kind.TheVariants.{Boolean, Byte, Char, Short, Int, Long, Ref}

-- Of a boolean its low bit, of a byte, a char and a short its low bits, with a sign but for a char.
-- Other kinds leave it as it is.
abbrev pub narrowed : Kind → ℤ → ℤ
narrowed Boolean a = int_rem_euclid a (pos 2)
narrowed Byte a = int_wrap w8 a
narrowed Char a = int_rem_euclid a (pos 65536)
narrowed Short a = int_wrap w16 a
narrowed Int a = a
narrowed Long a = a
narrowed (Ref name) a = a
