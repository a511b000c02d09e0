use Rattle.std.proofs.Common.{map, ℕ, sym, subst}
use Rattle.std.specs.Prelude.{Option}
use Rattle.mutest_engine.specs.Ends.{ReadsFailed, Prints}
use Rattle.mutest_engine.specs.Answers.{Answered}
use Rattle.mutest_engine.specs.Decided.{answer_of, bounds_of}
use Rattle.mutest_engine.specs.Promises.{LeavesOf}
use Rattle.mutest_engine.specs.Words.{words_of}
use Rattle.std.specs.Prelude.{string_bytes, Result}
use Rattle.mt_edge.specs.Files.{Files}
use Rattle.mutest_engine.specs.declared.refusal.Refusal.{Refusal}
use Rattle.mutest_engine.proofs.Ends.{agrees_by, untold_by, reads_by, prints_by, states_by, rose_by, stays_by, files_by, last_by, left_of}
use Rattle.mutest_engine.proofs.ScratchLaws.{leaves_scratch, leaves_seen}
use Rattle.mutest_engine.proofs.top_call.run.Goals as goal

pub returns-clause-status : goal.returns-clause-status
returns-clause-status g c =
    agrees_by (g.T.Tree.holds c.args.tree.now) (λ (files : Files). answer_of (map string_bytes c.args.words.now.items) files) c.answer_to-answer.result c.finish-status.result c.answer_to-answer.ensures.value c.finish-status.ensures.status

pub returns-clause-status_untold : goal.returns-clause-status_untold
returns-clause-status_untold g c = untold_by (words_of (map string_bytes c.args.words.now.items)) c.answer_to-answer.result c.finish-status.result c.answer_to-answer.ensures.untold c.finish-status.ensures.status

pub returns-clause-read_faults : goal.returns-clause-read_faults
returns-clause-read_faults g c =
    let r = g.T.Tree.reading in
    subst (λ (n : ℕ). ReadsFailed (r c.args.tree.now) n c.finish-status.result) (sym c.finish-status.ensures.unread)
    (reads_by (r c.args.tree.now) (r c.answer_to-answer.new.tree) c.answer_to-answer.result c.finish-status.result c.answer_to-answer.ensures.tree.1 c.finish-status.ensures.status)

pub returns-clause-printed : goal.returns-clause-printed
returns-clause-printed g c =
    let w = g.S.Sink.written in
    let f = g.S.Sink.faults in
    prints_by (g.T.Tree.holds c.args.tree.now) (λ (files : Files). answer_of (map string_bytes c.args.words.now.items) files) c.answer_to-answer.result (λ (stated : Result Answered Refusal). Prints (f c.args.out.now) (f c.finish-status.new.out) (w c.args.out.now) (w c.finish-status.new.out) stated c.finish-status.result) c.answer_to-answer.ensures.value c.finish-status.ensures.printed

pub returns-clause-printed_untold : goal.returns-clause-printed_untold
returns-clause-printed_untold g c =
    let w = g.S.Sink.written in
    let f = g.S.Sink.faults in
    states_by (words_of (map string_bytes c.args.words.now.items)) c.answer_to-answer.result (λ (stated : Result Answered Refusal). Prints (f c.args.out.now) (f c.finish-status.new.out) (w c.args.out.now) (w c.finish-status.new.out) stated c.finish-status.result) c.answer_to-answer.ensures.untold c.finish-status.ensures.printed

pub returns-clause-meter : goal.returns-clause-meter
returns-clause-meter g c =
    rose_by (g.T.Tree.holds c.args.tree.now) c.args.meter.now c.answer_to-answer.new.meter (λ (files : Files). bounds_of (map string_bytes c.args.words.now.items) files) c.answer_to-answer.result c.finish-status.result c.answer_to-answer.ensures.meter c.finish-status.ensures.status

pub returns-clause-meter_untold : goal.returns-clause-meter_untold
returns-clause-meter_untold g c = stays_by c.args.meter.now c.answer_to-answer.new.meter c.answer_to-answer.result c.finish-status.result c.answer_to-answer.ensures.stays c.answer_to-answer.ensures.later c.finish-status.ensures.status

pub returns-clause-files : goal.returns-clause-files
returns-clause-files g c =
    let h = g.T.Tree.holds in
    files_by (h c.args.tree.now) (h c.finish-status.new.tree) (λ (files : Files). answer_of (map string_bytes c.args.words.now.items) files) c.answer_to-answer.result c.finish-status.result c.answer_to-answer.ensures.value c.finish-status.ensures.status
    (left_of (h c.args.tree.now) (h c.finish-status.new.tree) c.answer_to-answer.result c.finish-status.result (subst (λ (old : Option Files). LeavesOf old (h c.finish-status.new.tree) c.answer_to-answer.result c.finish-status.result) c.answer_to-answer.ensures.tree.0.0 c.finish-status.ensures.files))

pub returns-clause-scratch : goal.returns-clause-scratch
returns-clause-scratch g c =
    let h = g.T.Tree.holds in
    let w = g.S.Sink.written in
    let f = g.S.Sink.faults in
    let words = map string_bytes c.args.words.now.items in
    let left = left_of (h c.args.tree.now) (h c.finish-status.new.tree) c.answer_to-answer.result c.finish-status.result (subst (λ (old : Option Files). LeavesOf old (h c.finish-status.new.tree) c.answer_to-answer.result c.finish-status.result) c.answer_to-answer.ensures.tree.0.0 c.finish-status.ensures.files) in
    leaves_scratch f w c.args.out.now c.finish-status.new.out c.answer_to-answer.result c.finish-status.result words (h c.args.tree.now) (h c.finish-status.new.tree) c.args.meter.now c.answer_to-answer.new.meter
    c.answer_to-answer.ensures.scratch c.answer_to-answer.ensures.scratch_meter c.finish-status.ensures.status c.finish-status.ensures.printed left

pub returns-clause-seen : goal.returns-clause-seen
returns-clause-seen g c =
    let h = g.T.Tree.holds in
    let w = g.S.Sink.written in
    let f = g.S.Sink.faults in
    let left = left_of (h c.args.tree.now) (h c.finish-status.new.tree) c.answer_to-answer.result c.finish-status.result (subst (λ (old : Option Files). LeavesOf old (h c.finish-status.new.tree) c.answer_to-answer.result c.finish-status.result) c.answer_to-answer.ensures.tree.0.0 c.finish-status.ensures.files) in
    leaves_seen f w c.args.out.now c.finish-status.new.out c.answer_to-answer.result c.finish-status.result (words_of (map string_bytes c.args.words.now.items)) (h c.args.tree.now) (h c.finish-status.new.tree) c.args.meter.now c.answer_to-answer.new.meter
    c.answer_to-answer.ensures.seen c.finish-status.ensures.status c.finish-status.ensures.printed left

pub returns-clause-last : goal.returns-clause-last
returns-clause-last g c =
    let h = g.T.Tree.holds in
    last_by (h c.args.tree.now) (h c.finish-status.new.tree) c.args.meter.now c.answer_to-answer.new.meter (λ (files : Files). bounds_of (map string_bytes c.args.words.now.items) files) c.answer_to-answer.result c.finish-status.result c.answer_to-answer.ensures.meter
    (left_of (h c.args.tree.now) (h c.finish-status.new.tree) c.answer_to-answer.result c.finish-status.result (subst (λ (old : Option Files). LeavesOf old (h c.finish-status.new.tree) c.answer_to-answer.result c.finish-status.result) c.answer_to-answer.ensures.tree.0.0 c.finish-status.ensures.files))
