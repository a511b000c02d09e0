use Rattle.std.proofs.Common.{◌∙◌, sym}
use Rattle.suite_workers.specs.Standing.{base_of}
use Rattle.suite_workers.proofs.Standings.{already, bare_own, edit_own, fits_own, then_stand, then_stands}
use Rattle.suite_workers.proofs.standing.place.Goals as goal

pub returns-then-is_standing-clause-placed : goal.returns-then-is_standing-clause-placed
returns-then-is_standing-clause-placed c = already (base_of c.args.stand.now) c.args.history.now c.args.mutants.now c.args.number c.args.stand.now (sym c.is_standing.ensures ∙ c.if-is_standing.true) c.requires.stand

pub put_in-requires-clause-bare : goal.put_in-requires-clause-bare
put_in-requires-clause-bare c = bare_own (base_of c.args.stand.now) c.put_back.new.stand c.put_back.ensures

pub put_in-requires-clause-fits : goal.put_in-requires-clause-fits
put_in-requires-clause-fits c = fits_own (base_of c.args.stand.now) c.put_back.new.stand c.args.mutants.now c.args.number c.index-mutants-at.result c.put_back.ensures c.requires.fits c.requires.number c.index-mutants-at.is

pub put_in-requires-clause-edit : goal.put_in-requires-clause-edit
put_in-requires-clause-edit c = edit_own (base_of c.args.stand.now) c.put_back.new.stand c.args.mutants.now c.args.number c.index-mutants-at.result c.put_back.ensures c.requires.edit c.requires.number c.index-mutants-at.is

pub returns-clause-stand : goal.returns-clause-stand
returns-clause-stand c = then_stand (base_of c.args.stand.now) c.args.history.now c.args.mutants.now c.args.number c.index-mutants-at.result c.put_back.new.stand c.put_in.new.stand c.put_in.result c.put_back.ensures c.requires.number c.index-mutants-at.is c.put_in.ensures.placed c.put_in.ensures.err

pub returns-clause-placed : goal.returns-clause-placed
returns-clause-placed c = then_stands (base_of c.args.stand.now) c.args.history.now c.args.mutants.now c.args.number c.index-mutants-at.result c.put_back.new.stand c.put_in.new.stand c.put_in.result c.put_back.ensures c.requires.number c.index-mutants-at.is c.put_in.ensures.placed
