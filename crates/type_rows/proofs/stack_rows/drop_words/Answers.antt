use Rattle.type_rows.proofs.stack_rows.drop_words.Goals as goal

pub returns-in_default : goal.returns-in_default
returns-in_default c ns = c.in_default.ensures.none ns _

pub returns : goal.returns
returns c ns = c.in-Some.ensures.some ns _
