use Rattle.std.proofs.Common.{◌∙◌, sym, ap, Some, cond}
use Rattle.std.specs.BTreeMap.{get, is_at}
use Rattle.std.specs.Cmp.Lexicographic.{slice_cmp, texts_ties}
use Rattle.std.specs.Ordering.{nat_cmp}
use Rattle.jvm_world.proofs.made.add_object.Goals as goal

pub returns : goal.returns
returns c n =
    let rest = get (slice_cmp nat_cmp) c.args.objects.now n in
    c.in_ok-insert.ensures.updates.0 n
    ∙ ap (λ k. cond (is_at (slice_cmp nat_cmp k) n) (Some c.args.object) rest) c.in_ok-copy.ensures
    ∙ ap (λ b. cond b (Some c.args.object) rest) (sym (texts_ties c.args.name.now n))
