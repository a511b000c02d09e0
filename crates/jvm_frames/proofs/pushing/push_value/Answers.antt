use Rattle.std.proofs.Common.{rules}
use Rattle.std.specs.Int.{w32, w64}
use Rattle.std.proofs.lemmas.Int.{to_z-of_z}
use mir.Val.{SFits}
use Rattle.jvm_frames.proofs.pushing.push_value.Goals as goal

pub returns-in-Int : goal.returns-in-Int
returns-in-Int c =
    let f : SFits w32 c.in-Int.z = search rules in
    rw c.in-Int.is (simp to_z-of_z at c.push_int.ensures)

pub returns-in-Long : goal.returns-in-Long
returns-in-Long c =
    let f : SFits w64 c.in-Long.z = search rules in
    rw c.in-Long.is (simp to_z-of_z at c.push_long.ensures)

pub returns-in-Ref : goal.returns-in-Ref
returns-in-Ref c = rw c.in-Ref.is c.push_reference.ensures

pub returns-in-Null : goal.returns-in-Null
returns-in-Null c = rw c.in-Null.is c.push_null.ensures
