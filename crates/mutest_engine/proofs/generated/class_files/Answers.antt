use Rattle.std.proofs.Common.{◌≡◌, ℕ, List, [], ◌++◌, map, subst}
use Rattle.std.specs.Vec.Iter.{into_iter_items}
use Rattle.mutest_engine.specs.SuiteFiles.{file_at}
use Rattle.mutest_engine.proofs.JobLaws.{mapped_on}
use Rattle.mutest_engine.proofs.generated.class_files.Goals as goal

pub loop-bytes-preserved : goal.loop-bytes-preserved
loop-bytes-preserved c =
    let total = map (file_at []) c.args.files.items in
    let so_far = subst (λ (fs : List (List ℕ)). c.loop-bytes.all ++ map (file_at []) fs ≡ total) c.in-Some.ensures.steps.0 c.loop-bytes.invariant in
    mapped_on (file_at []) c.loop-bytes.all c.push.new.self c.in-Some.bytes c.without_path-file.result (into_iter_items c.next.new.self) total c.in_ok-push.ensures.ok c.without_path-file.ensures so_far
