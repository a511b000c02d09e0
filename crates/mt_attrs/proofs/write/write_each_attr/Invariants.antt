use Rattle.mt_attrs.proofs.Writing.{Written}
use Rattle.mt_attrs.specs.Attributes.{attr_bytes}
use Rattle.mt_attrs.specs.Layout.{attr_bound}
use Rattle.mt_attrs.proofs.write.write_each_attr.Given as goal

abbrev pub invariant-loop-attr : goal.invariant-loop-attr
invariant-loop-attr l = Written attr_bytes attr_bound l.attrs l.attr-index l.fn.out l.out
