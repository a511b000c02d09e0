use Rattle.mt_attrs.proofs.Writing.{Written}
use Rattle.mt_attrs.specs.CodeParts.{table_bytes}
use Rattle.mt_attrs.specs.Layout.{inner_bound}
use Rattle.mt_attrs.proofs.write.write_each_table.Given as goal

abbrev pub invariant-loop-attr : goal.invariant-loop-attr
invariant-loop-attr l = Written (table_bytes l.starts) (inner_bound l.starts) l.attrs l.attr-index l.fn.out l.out
