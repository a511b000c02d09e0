use Rattle.std.proofs.Common.{◌≡◌, ◌⊎◌, ◌∙◌, List, map, ap, subst}
use Rattle.mutest_engine.specs.Answers.{answered, write_of}
use Rattle.mutest_engine.specs.Ends.{LeavesWrites, all_written, line_of}
use Rattle.mutest_engine.specs.declared.answer.Write.{Write as Written}
use Rattle.mutest_engine.specs.declared.status.Status.{Status}
use Rattle.mutest_engine.specs.declared.status.Status.TheVariants.{WantOfMemory}
use Rattle.mutest_engine.proofs.Ends.{Told, text_files, text_writes, unwritten_causes, unwritten_puts, unwritten_prints, unwritten_ends, unwritten_files}
use Rattle.mutest_engine.proofs.top_call.carry_out.Goals as goal

pub returns-in-Ok-clause-files : goal.returns-in-Ok-clause-files
returns-in-Ok-clause-files g c =
    let old = g.T.Tree.holds c.args.tree.now in
    text_files (map write_of c.args.answer.now.writes.items) c.args.answer.now.text old (g.T.Tree.holds c.replace_all.new.tree) c.put_text.result c.put_text.ensures.status (c.in-Ok.ensures.done ∙ ap (λ (ws : List Written). all_written (map write_of ws) old) c.as_slice.ensures.value)

pub returns-in-Err-clause-status : goal.returns-in-Err-clause-status
returns-in-Err-clause-status g c =
    let old = g.T.Tree.holds c.args.tree.now in
    let new = g.T.Tree.holds c.replace_all.new.tree in
    let u = c.in-Err.unwritten in
    let left = subst (λ (ws : List Written). LeavesWrites (map write_of ws) old new u) c.as_slice.ensures.value c.in-Err.ensures.left in
    let same = subst (λ (s : Status). (c.tell.result ≡ s) ⊎ (c.tell.result ≡ WantOfMemory)) c.unwritten_status.ensures c.tell.ensures.same in
    unwritten_ends (answered c.args.answer.now) old new u c.tell.result left same

pub returns-in-Err-clause-files : goal.returns-in-Err-clause-files
returns-in-Err-clause-files g c =
    let old = g.T.Tree.holds c.args.tree.now in
    let new = g.T.Tree.holds c.replace_all.new.tree in
    let u = c.in-Err.unwritten in
    let left = subst (λ (ws : List Written). LeavesWrites (map write_of ws) old new u) c.as_slice.ensures.value c.in-Err.ensures.left in
    let same = subst (λ (s : Status). (c.tell.result ≡ s) ⊎ (c.tell.result ≡ WantOfMemory)) c.unwritten_status.ensures c.tell.ensures.same in
    unwritten_files (map write_of c.args.answer.now.writes.items) old new u c.tell.result left same

pub returns-in-Err-clause-printed : goal.returns-in-Err-clause-printed
returns-in-Err-clause-printed g c =
    let old = g.T.Tree.holds c.args.tree.now in
    let new = g.T.Tree.holds c.replace_all.new.tree in
    let w0 = g.S.Sink.written c.args.out.now in
    let w1 = g.S.Sink.written c.tell.new.out in
    let f0 = g.S.Sink.faults c.args.out.now in
    let f1 = g.S.Sink.faults c.tell.new.out in
    let u = c.in-Err.unwritten in
    let left = subst (λ (ws : List Written). LeavesWrites (map write_of ws) old new u) c.as_slice.ensures.value c.in-Err.ensures.left in
    let same = subst (λ (s : Status). (c.tell.result ≡ s) ⊎ (c.tell.result ≡ WantOfMemory)) c.unwritten_status.ensures c.tell.ensures.same in
    let told = subst (λ (s : Status). Told f0 f1 w0 w1 (line_of s) c.tell.result) c.unwritten_status.ensures c.tell.ensures.printed in
    unwritten_prints f0 f1 w0 w1 (answered c.args.answer.now) old new u c.tell.result left same told

pub returns-in-Ok-clause-write_faults : goal.returns-in-Ok-clause-write_faults
returns-in-Ok-clause-write_faults g c = text_writes (g.T.Tree.writing c.args.tree.now) (g.T.Tree.writing c.replace_all.new.tree) c.args.answer.now.text c.put_text.result c.put_text.ensures.status

pub returns-in-Err-clause-write_faults : goal.returns-in-Err-clause-write_faults
returns-in-Err-clause-write_faults g c =
    let same = subst (λ (s : Status). (c.tell.result ≡ s) ⊎ (c.tell.result ≡ WantOfMemory)) c.unwritten_status.ensures c.tell.ensures.same in
    unwritten_causes (g.T.Tree.writing c.args.tree.now) (g.T.Tree.writing c.replace_all.new.tree) c.in-Err.unwritten c.tell.result c.in-Err.ensures.faults same

pub returns-in-Err-clause-put_faults : goal.returns-in-Err-clause-put_faults
returns-in-Err-clause-put_faults g c =
    let same = subst (λ (s : Status). (c.tell.result ≡ s) ⊎ (c.tell.result ≡ WantOfMemory)) c.unwritten_status.ensures c.tell.ensures.same in
    unwritten_puts (g.S.Sink.faults c.args.out.now) (g.S.Sink.faults c.tell.new.out) c.in-Err.unwritten c.tell.result same
