use Rattle.std.proofs.Common.{◌∙◌, sym, ap, List, slice_set, subst}
use Rattle.std.specs.Arc.{arc_value}
use Rattle.class_link.specs.Info.{Info}
use Rattle.mutant_runs.specs.Edited.{IsReadyBut}
use Rattle.mutant_runs.specs.Programs.{Makes}
use Rattle.mutant_runs.proofs.ProgramLaws.{set_back, makes_swap, makes_swap_back}
use Rattle.mutant_runs.proofs.MutantLaws.{ready_with, told_made, counted_made, most_made}
use Rattle.mutant_runs.proofs.NamedLaws.{named_made, named_back}
use Rattle.mutant_runs.proofs.on_mutant.run_mutant.Goals as goal

pub run_on-verdict-requires-clause-ready : goal.run_on-verdict-requires-clause-ready
run_on-verdict-requires-clause-ready c =
    let made : Makes c.args.program.now c.args.mutant.now c.in-Some.id.0 (arc_value c.in-Some.edited) = rw c.in-Some.is at c.in_ok-id.ensures.made in
    let P : List Info → Type 0 = λ w. IsReadyBut w c.args.mutant.now.class c.in-Some.id.0 in
    let ready : P c.swap-original.new.self = subst P (sym c.swap-original.ensures.program) (c.edited_are_ready.ensures c.args.program.now c.args.mutant.now c.in-Some.id.0 (arc_value c.in-Some.edited) c.is_program.ensures c.requires.ready made) in
    ready_with c.args.program.now c.swap-original.new.self c.args.mutant.now c.in-Some.id.0 (arc_value c.in-Some.edited) made c.swap-original.ensures.program ready c.requires.viable c.first_faults_are_found.ensures.accepted

pub swap-original-requires : goal.swap-original-requires
swap-original-requires c =
    let made : Makes c.args.program.now c.args.mutant.now c.in-Some.id.0 (arc_value c.in-Some.edited) = rw c.in-Some.is at c.in_ok-id.ensures.made in
    makes_swap c.args.program.now c.args.mutant.now c.in-Some.id.0 (arc_value c.in-Some.edited) made

pub swap-edited-requires : goal.swap-edited-requires
swap-edited-requires c =
    let made : Makes c.args.program.now c.args.mutant.now c.in-Some.id.0 (arc_value c.in-Some.edited) = rw c.in-Some.is at c.in_ok-id.ensures.made in
    rw c.swap-original.ensures.program (makes_swap_back c.args.program.now c.args.mutant.now c.in-Some.id.0 (arc_value c.swap-original.result) (arc_value c.in-Some.edited) made c.swap-original.ensures.other)

pub returns-clause-told : goal.returns-clause-told
returns-clause-told c =
    let made : Makes c.args.program.now c.args.mutant.now c.in-Some.id.0 (arc_value c.in-Some.edited) = rw c.in-Some.is at c.in_ok-id.ensures.made in
    let P : List Info → Type 0 = λ w. IsReadyBut w c.args.mutant.now.class c.in-Some.id.0 in
    let ready : P c.swap-original.new.self = subst P (sym c.swap-original.ensures.program) (c.edited_are_ready.ensures c.args.program.now c.args.mutant.now c.in-Some.id.0 (arc_value c.in-Some.edited) c.is_program.ensures c.requires.ready made) in
    told_made c.args.program.now c.swap-original.new.self c.args.mutant.now c.in-Some.id.0 (arc_value c.in-Some.edited) made c.swap-original.ensures.program ready c.requires.viable c.args.set.now.limits c.args.set.now.tests.now c.args.set.now.steps.now c.args.covering c.run_on-verdict.result c.run_on-verdict.ensures.told

pub returns-clause-steps : goal.returns-clause-steps
returns-clause-steps c =
    let made : Makes c.args.program.now c.args.mutant.now c.in-Some.id.0 (arc_value c.in-Some.edited) = rw c.in-Some.is at c.in_ok-id.ensures.made in
    let P : List Info → Type 0 = λ w. IsReadyBut w c.args.mutant.now.class c.in-Some.id.0 in
    let ready : P c.swap-original.new.self = subst P (sym c.swap-original.ensures.program) (c.edited_are_ready.ensures c.args.program.now c.args.mutant.now c.in-Some.id.0 (arc_value c.in-Some.edited) c.is_program.ensures c.requires.ready made) in
    counted_made c.args.program.now c.swap-original.new.self c.args.mutant.now c.in-Some.id.0 (arc_value c.in-Some.edited) made c.swap-original.ensures.program ready c.requires.viable c.args.set.now.limits c.args.set.now.tests.now c.args.set.now.steps.now c.args.covering c.run_on-verdict.result c.run_on-verdict.new.part c.args.part.now c.run_on-verdict.ensures.steps

pub returns-clause-most : goal.returns-clause-most
returns-clause-most c =
    let made : Makes c.args.program.now c.args.mutant.now c.in-Some.id.0 (arc_value c.in-Some.edited) = rw c.in-Some.is at c.in_ok-id.ensures.made in
    let P : List Info → Type 0 = λ w. IsReadyBut w c.args.mutant.now.class c.in-Some.id.0 in
    let ready : P c.swap-original.new.self = subst P (sym c.swap-original.ensures.program) (c.edited_are_ready.ensures c.args.program.now c.args.mutant.now c.in-Some.id.0 (arc_value c.in-Some.edited) c.is_program.ensures c.requires.ready made) in
    most_made c.args.program.now c.swap-original.new.self c.args.mutant.now c.in-Some.id.0 (arc_value c.in-Some.edited) made c.swap-original.ensures.program ready c.requires.viable c.args.set.now.limits c.args.set.now.tests.now c.args.set.now.steps.now c.args.covering c.run_on-verdict.new.part c.args.part.now c.run_on-verdict.ensures.most

pub returns-clause-same : goal.returns-clause-same
returns-clause-same c =
    c.swap-edited.ensures.program ∙ ap (λ p. slice_set p c.in-Some.id.0 (arc_value c.swap-original.result)) c.swap-original.ensures.program ∙ set_back c.args.program.now c.in-Some.id.0 (arc_value c.swap-original.result) (arc_value c.in-Some.edited) c.swap-original.ensures.other

pub run_on-verdict-requires-clause-named : goal.run_on-verdict-requires-clause-named
run_on-verdict-requires-clause-named c =
    let made : Makes c.args.program.now c.args.mutant.now c.in-Some.id.0 (arc_value c.in-Some.edited) = rw c.in-Some.is at c.in_ok-id.ensures.made in
    named_made c.args.program.now c.swap-original.new.self c.args.mutant.now c.in-Some.id.0 (arc_value c.in-Some.edited) made c.swap-original.ensures.program c.args.tables.now c.requires.named

pub returns-clause-named : goal.returns-clause-named
returns-clause-named c =
    let made : Makes c.args.program.now c.args.mutant.now c.in-Some.id.0 (arc_value c.in-Some.edited) = rw c.in-Some.is at c.in_ok-id.ensures.made in
    named_back c.args.program.now c.swap-original.new.self c.args.mutant.now c.in-Some.id.0 (arc_value c.in-Some.edited) made c.swap-original.ensures.program c.run_on-verdict.new.tables c.run_on-verdict.ensures.tables
