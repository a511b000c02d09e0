use Rattle.std.proofs.Common.{◌≡◌, refl, ap, ◌∙◌, List, [], ◌∷◌, false}
use Rattle.std.specs.Prelude.{nat_eq, if◌then◌else◌}
use Rattle.program_rules.specs.Types as rules
use Rattle.type_rules.specs.Assignability.{width}
use Rattle.type_rules.specs.Rows.{Checked, takes_two, takes_word}
use Rattle.vframes.specs.View.{type_of, types_in}
use Rattle.vframes.proofs.stack.Stack.take_two.Goals as goal

-- under a word stands another
two_words : (t : rules.VType) (rest : List rules.VType) (go : List rules.VType → List rules.VType → Checked) → nat_eq (width t) 2 ≡ false → takes_two (t ∷ rest) go ≡ takes_word rest (λ u below. go (t ∷ u ∷ []) below)
two_words t rest go e = ap (λ b. if b then go (t ∷ []) rest else takes_word rest (λ u below. go (t ∷ u ∷ []) below)) e

pub returns-in_default-take_word-clause-none : goal.returns-in_default-take_word-clause-none
returns-in_default-take_word-clause-none c ns go =
    let t = type_of ns c.in-Some.upper in
    ap (λ l. takes_two (types_in ns l) go) c.in-Some.ensures.some
    ∙ two_words t (types_in ns c.pop.new.self) go (c.if-is_wide.ensures.word ns refl)
    ∙ c.in_default-take_word.ensures.none ns (λ u below. go (t ∷ u ∷ []) below)

pub returns-clause-some : goal.returns-clause-some
returns-clause-some c ns go =
    let t = type_of ns c.in-Some.upper in
    ap (λ l. takes_two (types_in ns l) go) c.in-Some.ensures.some
    ∙ two_words t (types_in ns c.pop.new.self) go (c.if-is_wide.ensures.word ns refl)
    ∙ c.in-Some-take_word.ensures.some ns (λ u below. go (t ∷ u ∷ []) below)
