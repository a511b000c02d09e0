use Rattle.std.proofs.Common.{◌∙◌, sym, subst}
use Rattle.suite_workers.specs.Old.{FindsEdited}
use Rattle.suite_workers.specs.Standing.{base_of}
use Rattle.suite_workers.proofs.Finding.{finds_none, finds_so}
use Rattle.suite_workers.proofs.Running.{mutant_has_edit, mutant_within}
use Rattle.suite_workers.proofs.Works.{stays_work}
use Rattle.suite_workers.proofs.worker.find_in.Goals as goal

pub returns-then-is_empty-clause-found : goal.returns-then-is_empty-clause-found
returns-then-is_empty-clause-found c = finds_none (base_of c.args.stand.now) c.args.setup.now c.args.mutant c.args.test (sym c.is_empty.ensures ∙ c.if-is_empty.true)

pub place-requires-clause-number : goal.place-requires-clause-number
place-requires-clause-number c = mutant_within (base_of c.args.stand.now) c.args.setup.now c.args.mutant c.args.test c.requires.cell

pub place-requires-clause-fits : goal.place-requires-clause-fits
place-requires-clause-fits c = c.requires.work.starts.can.mutants

pub place-requires-clause-edit : goal.place-requires-clause-edit
place-requires-clause-edit c = mutant_has_edit (base_of c.args.stand.now) c.args.setup.now c.args.mutant c.args.test c.requires.cell

pub returns-clause-base : goal.returns-clause-base
returns-clause-base c = c.in_ok-place.ensures.stand.base

pub returns-clause-work : goal.returns-clause-work
returns-clause-work c = stays_work c.args.setup.now c.args.stand.now c.place.new.stand c.requires.work c.in_ok-place.ensures.stand

pub returns-clause-found : goal.returns-clause-found
returns-clause-found c =
    let finds = subst (λ swap. FindsEdited c.args.setup.now.look_ups.now c.args.test swap c.on_edited-found.result) c.swap_in-swap.ensures c.on_edited-found.ensures.finds in
    finds_so c.parts_are_of_applied.ensures (base_of c.args.stand.now) c.args.setup.now c.requires.work.starts c.args.mutant c.args.test c.place.new.stand c.in_ok-place.ensures.placed c.on_edited-found.result finds c.on_edited-found.ensures.there
