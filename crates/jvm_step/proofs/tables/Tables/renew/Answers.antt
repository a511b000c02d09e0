use Rattle.jvm_step.proofs.Looked.{texts_found}
use Rattle.jvm_step.proofs.tables.Tables.renew.Goals as goal

pub returns : goal.returns
returns c = record {
  classes = c.requires.classes;
  natives = c.requires.natives;
  lookups = record {
    references = c.new-references.ensures c.args.p.now;
    selections = c.new-selections.ensures c.args.p.now;
    own = c.new-own.ensures c.args.p.now;
    text = texts_found c.args.p.now c.args.self.now.natives.known c.requires.natives.known;
  };
  slots = c.new-slots.ensures c.args.p.now;
  layouts = c.new-layouts.ensures c.args.p.now;
  codes = c.new-codes.ensures c.args.p.now;
}
