use Rattle.std.proofs.Common.{◌≡◌, ◌∙◌, sym}
use Rattle.vframes.specs.Named.{name_at}
use Rattle.type_verifier.proofs.Lasting.{added_twice, lasts}
use Rattle.type_verifier.proofs.meanings.class_use.Goals as goal

pub returns-clause-adds : goal.returns-clause-adds
returns-clause-adds c = added_twice c.args.own.now.program.now c.args.names.now c.number.new.self c.number-2.new.self c.in_ok-number.ensures.adds c.in_ok-array.ensures.adds

pub returns-clause-class : goal.returns-clause-class
returns-clause-class c = record {
  number = lasts (λ ns. name_at ns c.in_ok-number.number ≡ c.args.name.now) c.number.new.self.list.items c.number-2.new.self.list.items c.in_ok-array.ensures.adds.more c.in_ok-number.ensures.number;
  array = λ more. c.in_ok-array.ensures.number more ∙ c.in_ok-array_text.ensures;
  own = sym c.eq-is_own.ensures;
  this = c.initialises_this.ensures;
}
