use Rattle.std.proofs.Common.{◌≡◌, ◌++◌, take}
use Rattle.std.specs.List.{flat_map}
use Rattle.mt_attrs.specs.Frames.{vitem_bytes}
use Rattle.mt_attrs.proofs.write_tables.write_vitems.Given as goal

abbrev pub invariant-loop-item : goal.invariant-loop-item
invariant-loop-item l = l.out ≡ l.fn.out ++ flat_map (vitem_bytes l.starts) (take l.item-index l.items)
