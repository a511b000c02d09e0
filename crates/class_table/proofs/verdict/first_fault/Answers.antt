use Rattle.std.proofs.Common.{◌∙◌, subst, map}
use Rattle.std.specs.Arc.{arc_value}
use Rattle.std.proofs.lemmas.List.{length-map}
use Rattle.class_table.specs.Table.{names, AreDistinct}
use Rattle.class_table.specs.declared.flaws.Flaw.TheVariants.{RepeatsName, MissesSuper, StandsAboveItself, NamesWrongKind}
use Rattle.class_table.specs.Flaws.{IsLeastFlawed}
use Rattle.class_table.proofs.Duplicates.{are_distinct, least_duplicate}
use Rattle.class_table.proofs.Verdicts.{missing_least, none_missing, cyclic_least, none_cyclic, wrong_least, none_wrong}
use Rattle.class_table.proofs.verdict.first_fault.Goals as goal

pub least_with-requires-clause-found : goal.least_with-requires-clause-found
least_with-requires-clause-found c = c.requires.found.right.each ∙ c.requires.found.linked.each ∙ length-map c.args.infos.now (λ i. arc_value i)

pub returns-in-Some : goal.returns-in-Some
returns-in-Some c =
    let p = map (λ i. arc_value i) c.args.infos.now in
    least_duplicate (names p) c.in-Some.name (subst (IsLeastFlawed RepeatsName p c.args.found.now) c.in-Some.is c.in_ok-name.ensures)

pub returns-in-Some-2 : goal.returns-in-Some-2
returns-in-Some-2 c =
    let p = map (λ i. arc_value i) c.args.infos.now in
    let distinct : AreDistinct (names p) = are_distinct (names p) (subst (IsLeastFlawed RepeatsName p c.args.found.now) c.in_default.is c.in_ok-name.ensures) in
    record {
      apart = distinct;
      least = missing_least p distinct c.in-Some-2.name (subst (IsLeastFlawed MissesSuper p c.args.found.now) c.in-Some-2.is c.in_ok-name-2.ensures);
    }

pub returns-in-Some-3 : goal.returns-in-Some-3
returns-in-Some-3 c =
    let p = map (λ i. arc_value i) c.args.infos.now in
    let found = c.args.found.now in
    let of = c.requires.found in
    let distinct : AreDistinct (names p) = are_distinct (names p) (subst (IsLeastFlawed RepeatsName p found) c.in_default.is c.in_ok-name.ensures) in
    let present = none_missing p distinct (subst (IsLeastFlawed MissesSuper p found) c.in_default-2.is c.in_ok-name-2.ensures) in
    record {
      apart = distinct;
      present = present;
      least = cyclic_least p distinct of.links of.linked present found of.right c.in-Some-3.name (subst (IsLeastFlawed StandsAboveItself p found) c.in-Some-3.is c.in_ok-name-3.ensures);
    }

pub returns-in-Some-4 : goal.returns-in-Some-4
returns-in-Some-4 c =
    let p = map (λ i. arc_value i) c.args.infos.now in
    let found = c.args.found.now in
    let of = c.requires.found in
    let distinct : AreDistinct (names p) = are_distinct (names p) (subst (IsLeastFlawed RepeatsName p found) c.in_default.is c.in_ok-name.ensures) in
    let present = none_missing p distinct (subst (IsLeastFlawed MissesSuper p found) c.in_default-2.is c.in_ok-name-2.ensures) in
    record {
      apart = distinct;
      present = present;
      acyclic = none_cyclic p distinct of.links of.linked present found of.right (subst (IsLeastFlawed StandsAboveItself p found) c.in_default-3.is c.in_ok-name-3.ensures);
      least = wrong_least p distinct c.in-Some-4.name (subst (IsLeastFlawed NamesWrongKind p found) c.in-Some-4.is c.in_ok-name-4.ensures);
    }

pub returns : goal.returns
returns c =
    let p = map (λ i. arc_value i) c.args.infos.now in
    let found = c.args.found.now in
    let of = c.requires.found in
    let distinct : AreDistinct (names p) = are_distinct (names p) (subst (IsLeastFlawed RepeatsName p found) c.in_default.is c.in_ok-name.ensures) in
    let present = none_missing p distinct (subst (IsLeastFlawed MissesSuper p found) c.in_default-2.is c.in_ok-name-2.ensures) in
    record {
      apart = distinct;
      present = present;
      acyclic = none_cyclic p distinct of.links of.linked present found of.right (subst (IsLeastFlawed StandsAboveItself p found) c.in_default-3.is c.in_ok-name-3.ensures);
      kinds = none_wrong p distinct (subst (IsLeastFlawed NamesWrongKind p found) c.in_default-4.is c.in_ok-name-4.ensures);
    }
