use Rattle.std.proofs.Common.{◌≡◌, ◌++◌, drop}
use Rattle.std.specs.Option.{option_map}
use Rattle.asm_words.specs.Quoted.{unquoted}
use Rattle.asm_words.specs.declared.quoted.Quote.TheVariants as quote
use Rattle.asm_words.proofs.quoted.unquoted.Given as goal

abbrev pub invariant-loop-unit : goal.invariant-loop-unit
invariant-loop-unit l = option_map (λ later. l.text ++ later) (unquoted l.state (drop l.unit-index l.units)) ≡ unquoted quote.Open l.units
