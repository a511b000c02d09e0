use Rattle.std.proofs.Common.{◌∙◌, sym, drop}
use Rattle.std.proofs.lemmas.Bool.{and_parts}
use Rattle.program_rules.specs.Names.{is_array_name}
use Rattle.jvm_type_rows.proofs.Described.{inside, brackets_next}
use Rattle.jvm_type_rows.proofs.within.common_brackets.Goals as goal

pub loop-count-preserved : goal.loop-count-preserved
loop-count-preserved c =
    let s = c.args.one.now in
    let t = c.args.other.now in
    let k = c.loop-count.count in
    let both = and_parts (is_array_name (drop k s)) (is_array_name (drop k t)) (sym c.both_brackets.ensures ∙ c.if-not-both_brackets.false) in
    record {
      one = inside s k both.0;
      other = inside t k both.1;
      within = λ names. c.loop-count.invariant.within names ∙ brackets_next names s t k both.0 both.1;
    }
