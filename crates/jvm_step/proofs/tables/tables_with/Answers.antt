use Rattle.jvm_step.proofs.tables.tables_with.Goals as goal

pub returns : goal.returns
returns c = record {
  classes = c.requires.classes;
  natives = c.requires.natives;
  lookups = c.in_ok-lookups.ensures;
  slots = c.new-slots.ensures c.args.p.now;
  layouts = c.new-layouts.ensures c.args.p.now;
  codes = c.new-codes.ensures c.args.p.now;
}
