use Rattle.std.proofs.Common.{◌≡◌, ◌∙◌, arith, length, sym}
use Rattle.std.proofs.lemmas.Grind.{common_steps}
use Rattle.history_index.specs.Numbers.{pairs_in}
use Rattle.history_index.proofs.Testing.{pair_new}
use Rattle.history_index.proofs.pairs.Pairs.add.Goals as goal

pub returns : goal.returns
returns c =
    let many : c.len-number.result ≡ length (pairs_in c.args.self.now) = grind (arith, common_steps, c.len-number.ensures) in
    pair_new c.args.pair c.len-number.result c.args.self.now (record { numbers = c.insert.new.self; pairs = c.push.new.self }) c.requires.known (sym c.contains_key.ensures ∙ c.if-contains_key.false) many c.in_ok-insert.ensures.updates c.in_ok-push.ensures.items
