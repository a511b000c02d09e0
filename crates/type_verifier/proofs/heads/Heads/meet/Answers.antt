use Rattle.std.proofs.Common.{◌≡◌, ◌∙◌, ℕ, Some, ap, sym, true, cond}
use Rattle.std.specs.Prelude.{not}
use Rattle.std.specs.BTreeMap.{get}
use Rattle.std.specs.BTreeSet.{contains}
use Rattle.std.specs.Cmp.Lexicographic.{slice_cmp}
use Rattle.std.specs.Ordering.{nat_cmp}
use Rattle.type_verifier.specs.Pairs.{pair_cmp}
use Rattle.type_verifier.proofs.Ties.{same_pair, pair_ties}
use Rattle.type_verifier.proofs.HeadLaws.{noted_on, noted_more, first_met}
use Rattle.type_verifier.proofs.heads.Heads.meet.Goals as goal

pub returns : goal.returns
returns c ms are =
    let m = c.args.method.now in
    let met = c.args.self.now.met in
    let before = c.args.self.now.words in
    let between = c.number.new.words in
    let behind = c.number-2.new.words in
    let a = c.in_ok-name.name in
    let b = c.in_ok-desc.desc in
    let one = c.in_ok-name.ensures are.numbers in
    let noted = noted_on before between met c.deref.result.now a ms one are in
    let two = c.in_ok-desc.ensures noted.numbers in
    let both = noted_on between behind met c.deref-2.result.now b ms two noted in
    let name : get (slice_cmp nat_cmp) behind m.name ≡ Some a = ap (get (slice_cmp nat_cmp) behind) (sym c.deref.ensures) ∙ two.kept c.deref.result.now a one.number in
    let desc : get (slice_cmp nat_cmp) behind m.desc ≡ Some b = ap (get (slice_cmp nat_cmp) behind) (sym c.deref-2.ensures) ∙ two.number in
    let adds : (q : ℕ × ℕ) → contains pair_cmp c.insert.new.self q ≡ cond (same_pair (a, b) q) true (contains pair_cmp met q) = λ q. c.in_ok-first.ensures.updates.0 q ∙ ap (λ t. cond t true (contains pair_cmp met q)) (sym (pair_ties (a, b) q)) in
    record {
      met = noted_more behind met c.insert.new.self m a b ms both name desc adds;
      first = c.in_ok-first.ensures.added ∙ ap not (first_met behind met c.insert.new.self m a b ms both name desc adds);
    }
