use Rattle.std.proofs.Common.{refl, sym, subst, ◌++◌}
use Rattle.std.specs.Option.{option_map}
use Rattle.class_link.specs.Symbols.{kind_of}
use Rattle.type_rows.specs.declared.site.Given.TheVariants as given
use Rattle.type_rows.specs.Sites.{IsGiven}
use Rattle.type_verifier.proofs.given.given_of.Goals as goal

pub returns-in_ok-given-in-Some-clause-given : goal.returns-in_ok-given-in-Some-clause-given
returns-in_ok-given-in-Some-clause-given c p more =
    subst (λ o. IsGiven p (c.kind_given.new.names.list.items ++ more) (option_map kind_of o) c.in_ok-given-in-Some.given) (sym c.in-Some.is)
    (c.in_ok-given-in-Some.ensures.given p more)

pub returns-in-None-clause-given : goal.returns-in-None-clause-given
returns-in-None-clause-given c p more =
    subst (λ o. IsGiven p (c.args.names.now.list.items ++ more) (option_map kind_of o) given.Nothing) (sym c.in-None.is)
    (record { nothing = refl; int = refl; long = refl; reference = λ t. refl })
