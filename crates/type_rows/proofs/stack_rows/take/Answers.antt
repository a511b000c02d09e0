use Rattle.std.proofs.Common.{[], ◌∷◌}
use Rattle.type_rows.proofs.stack_rows.take.Goals as goal

pub returns-in_default-clause-none : goal.returns-in_default-clause-none
returns-in_default-clause-none c ns go =
    rw c.in-One.is (c.in_default.ensures.none ns (λ t rest. go (t ∷ []) rest))

pub returns-in-Some-clause-some : goal.returns-in-Some-clause-some
returns-in-Some-clause-some c ns go =
    rw c.in-One.is (c.in-Some.ensures.some ns (λ t rest. go (t ∷ []) rest))

pub returns-in_default-take_two-clause-none : goal.returns-in_default-take_two-clause-none
returns-in_default-take_two-clause-none c ns go = rw c.in-Two.is (c.in_default-take_two.ensures.none ns go)

pub returns-in-Some-take_two-clause-some : goal.returns-in-Some-take_two-clause-some
returns-in-Some-take_two-clause-some c ns go = rw c.in-Two.is (c.in-Some-take_two.ensures.some ns go)
