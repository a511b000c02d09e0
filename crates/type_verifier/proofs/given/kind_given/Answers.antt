use Rattle.std.proofs.Common.{refl, sym, ap, subst, ◌++◌, Some}
use Rattle.type_rules.specs.Assignability.{assignable}
use Rattle.program_rules.specs.Types.{Obj}
use Rattle.class_link.specs.Symbols.{kind_of}
use Rattle.vframes.specs.declared.slot_type.SlotType.TheVariants as slot
use Rattle.type_rows.specs.declared.site.Given.TheVariants as given
use Rattle.type_rows.specs.Sites.{IsGiven}
use Rattle.type_verifier.proofs.given.kind_given.Goals as goal

pub returns-in-Boolean-clause-given : goal.returns-in-Boolean-clause-given
returns-in-Boolean-clause-given c p more =
    subst (λ k. IsGiven p (c.args.names.now.list.items ++ more) (Some (kind_of k)) given.Int) (sym c.in-Boolean.is)
    (record { nothing = refl; int = refl; long = refl; reference = λ t. refl })

pub returns-in-Byte-clause-given : goal.returns-in-Byte-clause-given
returns-in-Byte-clause-given c p more =
    subst (λ k. IsGiven p (c.args.names.now.list.items ++ more) (Some (kind_of k)) given.Int) (sym c.in-Byte.is)
    (record { nothing = refl; int = refl; long = refl; reference = λ t. refl })

pub returns-in-Char-clause-given : goal.returns-in-Char-clause-given
returns-in-Char-clause-given c p more =
    subst (λ k. IsGiven p (c.args.names.now.list.items ++ more) (Some (kind_of k)) given.Int) (sym c.in-Char.is)
    (record { nothing = refl; int = refl; long = refl; reference = λ t. refl })

pub returns-in-Short-clause-given : goal.returns-in-Short-clause-given
returns-in-Short-clause-given c p more =
    subst (λ k. IsGiven p (c.args.names.now.list.items ++ more) (Some (kind_of k)) given.Int) (sym c.in-Short.is)
    (record { nothing = refl; int = refl; long = refl; reference = λ t. refl })

pub returns-in-Int-clause-given : goal.returns-in-Int-clause-given
returns-in-Int-clause-given c p more =
    subst (λ k. IsGiven p (c.args.names.now.list.items ++ more) (Some (kind_of k)) given.Int) (sym c.in-Int.is)
    (record { nothing = refl; int = refl; long = refl; reference = λ t. refl })

pub returns-in-Long-clause-given : goal.returns-in-Long-clause-given
returns-in-Long-clause-given c p more =
    subst (λ k. IsGiven p (c.args.names.now.list.items ++ more) (Some (kind_of k)) given.Long) (sym c.in-Long.is)
    (record { nothing = refl; int = refl; long = refl; reference = λ t. refl })

pub returns-in_ok-number-in-Ref-clause-given : goal.returns-in_ok-number-in-Ref-clause-given
returns-in_ok-number-in-Ref-clause-given c p more =
    subst (λ k. IsGiven p (c.number.new.self.list.items ++ more) (Some (kind_of k)) (given.Reference (slot.Obj c.in_ok-number-in-Ref.number))) (sym c.in-Ref.is)
    (record { nothing = refl; int = refl; long = refl; reference = λ t. ap (λ n. assignable p t (Obj n)) (sym (c.in_ok-number-in-Ref.ensures.number more)) })
