use Rattle.std.proofs.Common.{◌≡◌, ◌⊎◌, subst}
use Rattle.mutest_engine.specs.Ends.{line_of}
use Rattle.mutest_engine.specs.declared.status.Status.{Status}
use Rattle.mutest_engine.specs.declared.status.Status.TheVariants.{WantOfMemory}
use Rattle.mutest_engine.proofs.Ends.{Told, halt_prints, halt_writes, halt_puts}
use Rattle.mutest_engine.proofs.top_call.finish.Goals as goal

pub returns-in-Err-clause-printed : goal.returns-in-Err-clause-printed
returns-in-Err-clause-printed g c =
    let w0 = g.S.Sink.written c.args.out.now in
    let w1 = g.S.Sink.written c.tell.new.out in
    let f0 = g.S.Sink.faults c.args.out.now in
    let f1 = g.S.Sink.faults c.tell.new.out in
    let same = subst (λ (s : Status). (c.tell.result ≡ s) ⊎ (c.tell.result ≡ WantOfMemory)) c.halt_status.ensures c.tell.ensures.same in
    let told = subst (λ (s : Status). Told f0 f1 w0 w1 (line_of s) c.tell.result) c.halt_status.ensures c.tell.ensures.printed in
    rw c.in-Err.is (halt_prints f0 f1 w0 w1 c.in-Err.halt c.tell.result same told)

pub returns-in-Err-clause-write_faults : goal.returns-in-Err-clause-write_faults
returns-in-Err-clause-write_faults g c =
    let same = subst (λ (s : Status). (c.tell.result ≡ s) ⊎ (c.tell.result ≡ WantOfMemory)) c.halt_status.ensures c.tell.ensures.same in
    halt_writes (g.T.Tree.writing c.args.tree.now) (g.T.Tree.writing c.args.tree.now) c.in-Err.halt c.tell.result same

pub returns-in-Err-clause-put_faults : goal.returns-in-Err-clause-put_faults
returns-in-Err-clause-put_faults g c =
    let same = subst (λ (s : Status). (c.tell.result ≡ s) ⊎ (c.tell.result ≡ WantOfMemory)) c.halt_status.ensures c.tell.ensures.same in
    halt_puts (g.S.Sink.faults c.args.out.now) (g.S.Sink.faults c.tell.new.out) c.in-Err.halt c.tell.result same
