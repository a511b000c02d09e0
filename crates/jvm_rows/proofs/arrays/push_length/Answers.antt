use Rattle.std.proofs.Common.{◌≡◌, rules, subst}
use Rattle.std.specs.Int.{w32}
use Rattle.std.proofs.lemmas.Int.{to_z-of_z}
use mir.Val.{SFits}
use Rattle.jvm_rows.specs.Effects.{Runs}
use Rattle.program_rules.specs.declared.value.Value.TheVariants.{Int}
use Rattle.jvm_rows.specs.Rows.{putting}
use Rattle.jvm_rows.proofs.Ends.{along, no_row}
use Rattle.jvm_rows.specs.Making.{length_of_row}
use Rattle.jvm_rows.proofs.Making.{length_is, no_length}
use Rattle.jvm_rows.proofs.arrays.push_length.Goals as goal

pub returns-in-Some : goal.returns-in-Some
returns-in-Some c =
    let f : SFits w32 c.in-Some.len = search rules in
    let p = c.args.p.now in
    let w = c.args.world.now in
    let old = c.args.frames.now in
    let new = c.put_within.new.frames in
    let is : c.int_value-value.result ≡ Int c.in-Some.len = simp to_z-of_z at c.int_value-value.ensures in
    along p (length_of_row c.args.object) (putting 1 (Int c.in-Some.len)) c.put_within.result old new w w
    (length_is p old w c.args.object c.in-Some.len c.in-Some.ensures.some)
    (subst (λ v. Runs p (putting 1 v) c.put_within.result old new w w) is (c.put_within.ensures p w))

pub returns-in-None : goal.returns-in-None
returns-in-None c =
    no_row c.args.p.now (length_of_row c.args.object) c.args.frames.now c.args.world.now
    (no_length c.args.p.now c.args.frames.now c.args.world.now c.args.object c.in-None.ensures.none)
