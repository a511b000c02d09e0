use Rattle.std.proofs.Common.{◌≡◌, refl, ap}
use Rattle.program_rules.specs.Kinds.{OfBoolean, OfByte, OfChar, OfShort, OfInt, OfLong}
use Rattle.class_link.specs.Opcodes.{array_of}
use Rattle.type_rows.proofs.indices.array_at.Goals as goal

pub returns-then-number-eq4-clause-some : goal.returns-then-number-eq4-clause-some
returns-then-number-eq4-clause-some c = record { kind = OfBoolean; is = ap array_of c.if-number-eq4.true; name = c.requires.booleans; plain = refl }

pub returns-then-number-eq5-clause-some : goal.returns-then-number-eq5-clause-some
returns-then-number-eq5-clause-some c = record { kind = OfChar; is = ap array_of c.if-number-eq5.true; name = c.requires.chars; plain = refl }

pub returns-then-number-eq8-clause-some : goal.returns-then-number-eq8-clause-some
returns-then-number-eq8-clause-some c = record { kind = OfByte; is = ap array_of c.if-number-eq8.true; name = c.requires.bytes; plain = refl }

pub returns-then-number-eq9-clause-some : goal.returns-then-number-eq9-clause-some
returns-then-number-eq9-clause-some c = record { kind = OfShort; is = ap array_of c.if-number-eq9.true; name = c.requires.shorts; plain = refl }

pub returns-then-number-eq10-clause-some : goal.returns-then-number-eq10-clause-some
returns-then-number-eq10-clause-some c = record { kind = OfInt; is = ap array_of c.if-number-eq10.true; name = c.requires.ints; plain = refl }

pub returns-then-number-eq11-clause-some : goal.returns-then-number-eq11-clause-some
returns-then-number-eq11-clause-some c = record { kind = OfLong; is = ap array_of c.if-number-eq11.true; name = c.requires.longs; plain = refl }
