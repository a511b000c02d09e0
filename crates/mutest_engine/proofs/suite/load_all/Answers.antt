use Rattle.std.proofs.Common.{◌≡◌, ◌∙◌, List, ap, sym, subst}
use Rattle.std.specs.Prelude.{All}
use Rattle.std.proofs.lemmas.List.Elements.{All-push}
use Rattle.std.specs.Vec.Iter.{into_iter_items}
use Rattle.std.proofs.lemmas.Result.{err_from_is_err_and}
use Rattle.codec_rules.specs.Reading.{with_values}
use Rattle.mutest_engine.specs.SuiteFiles.{all_loaded, IsRead}
use Rattle.mutest_engine.specs.declared.suite.ClassFile.{ClassFile}
use Rattle.mutest_engine.proofs.SuiteLaws.{loads_end, loads_on}
use Rattle.mutest_engine.proofs.suite.load_all.Goals as goal

pub returns-in_err-one-clause-value : goal.returns-in_err-one-clause-value
returns-in_err-one-clause-value c =
    let p = err_from_is_err_and c.from_residual.result c.from_residual.ensures.1 in
    let so_far = subst (λ (files : List ClassFile). with_values c.loop-file.all (all_loaded files) ≡ all_loaded c.args.files) c.in-Some.ensures.steps.0 c.loop-file.invariant.told in
    rw (p.1, p.2) (λ r is. loads_end c.loop-file.all c.in-Some.file (into_iter_items c.next.new.self) r (all_loaded c.args.files) so_far (c.in_err-one.ensures.value r is))

pub loop-file-preserved : goal.loop-file-preserved
loop-file-preserved c =
    let so_far = subst (λ (files : List ClassFile). with_values c.loop-file.all (all_loaded files) ≡ all_loaded c.args.files) c.in-Some.ensures.steps.0 c.loop-file.invariant.told in
    let pushed = c.in_ok-push.ensures.ok in
    let told = loads_on c.loop-file.all c.in-Some.file (into_iter_items c.next.new.self) c.in_ok-one.one (all_loaded c.args.files) c.in_ok-one.ensures.value so_far in
    record {
      told = ap (λ l. with_values l (all_loaded (into_iter_items c.next.new.self))) pushed ∙ told;
      form = subst (All IsRead) (sym pushed) (All-push IsRead c.loop-file.all c.in_ok-one.one c.loop-file.invariant.form c.in_ok-one.ensures.form);
    }
