use Rattle.std.proofs.Common.{◌≡◌, ◌∙◌, sym, ap, subst, ℕ, List, Option}
use Rattle.std.specs.Prelude.{IfSome}
use Rattle.class_link.specs.declared.linked.LinkedClass.{LinkedClass}
use Rattle.class_link.specs.declared.loaded.ClassBody.TheVariants as body
use Rattle.class_link.specs.Edits.{IsEdited}
use Rattle.class_link.specs.Info.{Info, IsInfo}
use Rattle.class_link.proofs.EditLaws.{edited_info}
use Rattle.class_link.proofs.info.ClassInfo.edited.Goals as goal

made : (c : goal.In_ok-name) → IsInfo (record { name = c.in_ok-name.name; body = body.Edited c.args.file; linked = c.in-Some.linked })
made c =
    let old : Info = record { name = c.self.inside.name; body = c.self.inside.body; linked = c.self.inside.linked } in
    let of : old.body ≡ body.File c.args.file.original = ap (λ (i : Info). i.body) c.self.view_is ∙ c.requires.of in
    let P : Option LinkedClass → Type 0 = λ o. IfSome o (IsEdited old.linked c.args.file) in
    let is : IsEdited old.linked c.args.file c.in-Some.linked = subst P c.in-Some.is c.in_ok-linked.ensures in
    let Q : List ℕ → Type 0 = λ n. IsInfo (record { name = n; body = body.Edited c.args.file; linked = c.in-Some.linked }) in
    subst Q (sym c.in_ok-name.ensures) (edited_info old c.args.file c.in-Some.linked c.self.invariant of c.requires.alone is)

pub invariant_of-result : goal.invariant_of-result
invariant_of-result c = made c

pub returns-clause-class : goal.returns-clause-class
returns-clause-class c = (made c).linked
