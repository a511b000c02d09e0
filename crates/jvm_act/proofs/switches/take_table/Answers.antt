use Rattle.std.proofs.Common.{rules, ◌∙◌, ap, sym, refl, subst, Some, None}
use Rattle.std.specs.Int.{w32}
use Rattle.std.proofs.lemmas.Int.{to_z-of_z}
use mir.Val.{SFits}
use Rattle.program_rules.specs.Instructions as def
use Rattle.class_link.specs.View.{table_of}
use Rattle.jvm_rows.specs.Plain.{RunsAs}
use Rattle.jvm_act.proofs.Rows.{no_table}
use Rattle.jvm_act.proofs.switches.take_table.Goals as goal

pub returns-in-Some-Table : goal.returns-in-Some-Table
returns-in-Some-Table c = λ p w.
    let old = c.args.frames.now in
    let new = c.switch_by_table.new.frames in
    let done = c.switch_by_table.result in
    let f : SFits w32 c.in-Some-Table.low = search rules in
    let one : RunsAs p (def.TableSwitch c.in-Some-Table.default c.in-Some-Table.low c.as_slice.result.now) done old new w w = simp to_z-of_z at (c.switch_by_table.ensures p w) in
    let two : RunsAs p (def.TableSwitch c.in-Some-Table.default c.in-Some-Table.low c.in-Some-Table.targets) done old new w w =
    subst (λ ts. RunsAs p (def.TableSwitch c.in-Some-Table.default c.in-Some-Table.low ts) done old new w w) c.as_slice.ensures one in
    subst (λ i. RunsAs p i done old new w w) (sym (ap table_of (sym c.in-Some-Table.ensures) ∙ ap (λ t. table_of (Some t)) c.in-Some-Table.field-0-is)) two

pub returns-in-Some-Lookup : goal.returns-in-Some-Lookup
returns-in-Some-Lookup c = λ p w.
    no_table p c.args.switches.now c.args.number (Some c.in-Some-Lookup.field-0.now) c.args.frames.now w c.in-Some-Lookup.ensures
    (ap (λ s. table_of (Some s)) c.in-Some-Lookup.field-0-is)

pub returns-in-None : goal.returns-in-None
returns-in-None c = λ p w. no_table p c.args.switches.now c.args.number None c.args.frames.now w c.in-None.ensures refl
