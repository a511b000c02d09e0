use Rattle.std.proofs.Common.{◌≡◌, ◌∙◌, sym, ap, ◌++◌, List, map}
use Rattle.program_rules.specs.Types.{VType, Appended, Whole}
use Rattle.class_link.specs.View.{vtype_of, shape_of}
use Rattle.vframes.specs.View.{types_in}
use Rattle.type_verifier.proofs.Lasting.{lasts}
use Rattle.type_verifier.proofs.shapes.shape_by_number.Goals as goal

pub returns-in_ok-items-in-Appended-clause-shape :
    goal.returns-in_ok-items-in-Appended-clause-shape
returns-in_ok-items-in-Appended-clause-shape c = λ more.
    ap Appended (c.in_ok-items-in-Appended.ensures.types more ∙ ap (map vtype_of) c.as_slice.ensures)
    ∙ ap shape_of (sym c.in-Appended.is)

pub returns-in_ok-stack-in-Whole-clause-shape : goal.returns-in_ok-stack-in-Whole-clause-shape
returns-in_ok-stack-in-Whole-clause-shape c = λ more.
    let a = c.stated_types-in-Whole.new.names.list.items in
    let b = c.stated_types-in-Whole-2.new.names.list.items in
    let ls = c.in_ok-locals-in-Whole.locals.items in
    let locals = lasts (λ ns. types_in ns ls ≡ map vtype_of c.as_slice-in-Whole.result.now) a b c.in_ok-stack-in-Whole.ensures.adds.more c.in_ok-locals-in-Whole.ensures.types more in
    ap (λ l. Whole l (types_in (b ++ more) c.in_ok-stack-in-Whole.stack.items)) (locals ∙ ap (map vtype_of) c.as_slice-in-Whole.ensures)
    ∙ ap (λ l. Whole (map vtype_of c.in-Whole.locals) l) (c.in_ok-stack-in-Whole.ensures.types more ∙ ap (map vtype_of) c.as_slice-in-Whole-2.ensures)
    ∙ ap shape_of (sym c.in-Whole.is)
