use Rattle.std.proofs.Common.{true, false, sym, subst}
use Rattle.jvm_link.specs.Candidates.{AreSearched}
use Rattle.jvm_link.proofs.Searched.{array_searched, class_searched, searched_by}
use Rattle.jvm_link.proofs.family.search.Goals as goal

pub returns : goal.returns
returns c =
    let p = c.args.program.now in
    searched_by p c.args.id.0 c.args.array false _ c.if-array.false (class_searched p c.args.id.0 _ c.in_ok-searching.ensures)

pub returns-then-array : goal.returns-then-array
returns-then-array c =
    let p = c.args.program.now in
    let t = c.top-highest.result.0 in
    subst (AreSearched p c.args.id.0 c.args.array) (sym c.in_ok-alone.ensures)
    (searched_by p c.args.id.0 c.args.array true _ c.if-array.true (array_searched p c.args.id.0 t c.top-highest.ensures.within c.top-highest.ensures.top))
