use Rattle.jvm_receivers.proofs.lookups.Lookups.new.Goals as goal

pub returns : goal.returns
returns c = record {
  references = c.new-references.ensures c.args.p.now;
  selections = c.new-selections.ensures c.args.p.now;
  own = c.new-own.ensures c.args.p.now;
  text = c.in_ok-text.ensures;
}
