-- No super is of a wrong kind in a program that was built.
use Rattle.std.proofs.Common.{◌≡◌, sym, subst, List, Result, Ok, Err, IfOk}
use Rattle.std.specs.Prelude.{OnOk}
use Rattle.class_link.specs.declared.loaded.ClassBody.{ClassBody}
use Rattle.class_link.specs.Info.{Info}
use Rattle.class_table.specs.Table.{look}
use Rattle.class_table.specs.Faults.{look_of, AreProgram, HasRightKinds}

pub right_kinds : {E : Type 0} (r : Result (List Info) E) (bs : List ClassBody) → OnOk r (AreProgram bs) → IfOk r (λ p. look p ≡ look_of bs) → IfOk r (λ p. HasRightKinds (look p))
right_kinds (Ok p) bs is looks = subst HasRightKinds (sym looks) is.kinds
right_kinds (Err e) bs is looks = tt
