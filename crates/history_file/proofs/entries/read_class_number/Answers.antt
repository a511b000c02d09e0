use Rattle.std.proofs.Common.{◌∙◌, map, length, nat_le, sym}
use Rattle.std.proofs.lemmas.Bool.{leb-true}
use Rattle.history_rules.proofs.Parts.{and_both}
use Rattle.history_file.proofs.entries.read_class_number.Goals as goal

pub returns-clause-within : goal.returns-clause-within
returns-clause-within c =
    let pool = map (λ s. s.now) c.args.classes.now in
    leb-true c.in_ok-class.class (length pool) (and_both (nat_le c.in_ok-class.class (length pool)) _ (sym c.is_number.ensures ∙ c.if-not-is_number.false)).0
