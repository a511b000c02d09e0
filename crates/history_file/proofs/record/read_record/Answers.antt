use Rattle.std.proofs.Common.{◌∙◌, List, [], map, sym, ap, subst}
use Rattle.std.proofs.lemmas.Result.{err_from_is_err_and}
use Rattle.codec_rules.specs.Sequence.{or_fault}
use Rattle.history_rules.specs.declared.fault.HistoryFault.TheVariants.{HistoryBad}
use Rattle.history_rules.specs.Reading.{are_steps}
use Rattle.history_file.specs.declared.row.Entry.{Entry}
use Rattle.history_file.specs.Rows.{name_of, outcome_of}
use Rattle.history_file.specs.Texts.{texts_of}
use Rattle.history_file.specs.Reading.{entries_of, ArePresent}
use Rattle.history_file.proofs.Parts.{record_is, lines_fail, steps_pass, are_present}
use Rattle.history_file.proofs.Room.{pairs_room}
use Rattle.history_file.proofs.record.read_record.Goals as goal

pub read_entries-requires-clause-none : goal.read_entries-requires-clause-none
read_entries-requires-clause-none c =
    c.in_ok-end.ensures.told.marks c.args.stamp [] c.requires.stamp
    (c.in_ok-test_method.ensures.told.marks c.args.stamp [] c.requires.stamp
    (c.in_ok-test_class.ensures.told.marks c.args.stamp [] c.requires.stamp c.requires.none))

pub returns-in_err-reached-clause-read : goal.returns-in_err-reached-clause-read
returns-in_err-reached-clause-read c =
    let p = err_from_is_err_and c.from_residual-in_err-reached.result c.from_residual-in_err-reached.ensures.1 in
    rw (p.1, p.2) (lines_fail c.args.version (map (λ s. s.now) c.args.classes.now) c.args.used.now (name_of (texts_of c.read_name.new.texts) c.in_ok-test_class.test_class) (name_of (texts_of c.read_name-2.new.texts) c.in_ok-test_method.test_method) c.in_ok-heap.heap c.in_ok-depth.depth c.in_ok-limit.limit (outcome_of (texts_of c.read_end.new.texts) c.in_ok-end.end) c.in_ok-steps.steps (entries_of (map (λ s. s.now) c.args.classes.now) (texts_of c.read_entries.new.texts) c.in_ok-consulted.consulted) c.args.cur.now c.read_name.new.cur c.read_name-2.new.cur c.u4.new.self c.u4-2.new.self c.u8.new.self c.read_end.new.cur c.u8-2.new.self c.read_entries.new.cur c.in_err-reached.field-0.0
    c.in_ok-test_class.ensures.read c.in_ok-test_method.ensures.read (ap (or_fault HistoryBad) c.in_ok-heap.ensures) (ap (or_fault HistoryBad) c.in_ok-depth.ensures) (ap (or_fault HistoryBad) c.in_ok-limit.ensures) c.in_ok-end.ensures.read
    (steps_pass (are_steps c.in_ok-limit.limit (outcome_of (texts_of c.read_end.new.texts) c.in_ok-end.end)) c.read_end.new.cur c.u8-2.new.self c.in_ok-steps.steps c.in_ok-steps.ensures (sym (c.are_steps.ensures (texts_of c.read_end.new.texts)) ∙ c.if-not-are_steps.false)) c.in_ok-consulted.ensures.read (c.in_err-reached.ensures (entries_of (map (λ s. s.now) c.args.classes.now) (texts_of c.read_entries.new.texts) c.in_ok-consulted.consulted) (subst (λ (es : List Entry). ArePresent (entries_of (map (λ s. s.now) c.args.classes.now) (texts_of c.read_entries.new.texts) c.in_ok-consulted.consulted) es) (sym c.as_slice.ensures) (are_present (map (λ s. s.now) c.args.classes.now) (texts_of c.read_entries.new.texts) c.in_ok-consulted.consulted c.in_ok-consulted.ensures.told.entries))))

pub returns-clause-read : goal.returns-clause-read
returns-clause-read c =
    (record_is c.args.version (map (λ s. s.now) c.args.classes.now) c.args.used.now c.read_entries.new.used c.args.stamp (record { test_class = c.in_ok-test_class.test_class; test_method = c.in_ok-test_method.test_method; heap = c.in_ok-heap.heap; depth = c.in_ok-depth.depth; limit = c.in_ok-limit.limit; end = c.in_ok-end.end; steps = c.in_ok-steps.steps; consulted = c.in_ok-consulted.consulted; reached = c.in_ok-reached.reached }) c.args.texts.now c.read_name.new.texts c.read_name-2.new.texts c.read_end.new.texts c.read_entries.new.texts c.args.cur.now c.read_name.new.cur c.read_name-2.new.cur c.u4.new.self c.u4-2.new.self c.u8.new.self c.read_end.new.cur c.u8-2.new.self c.read_entries.new.cur c.read_pairs.new.cur
    c.in_ok-test_class.ensures.read c.in_ok-test_class.ensures.told c.in_ok-test_method.ensures.read c.in_ok-test_method.ensures.told (ap (or_fault HistoryBad) c.in_ok-heap.ensures) (ap (or_fault HistoryBad) c.in_ok-depth.ensures) (ap (or_fault HistoryBad) c.in_ok-limit.ensures) c.in_ok-end.ensures.read c.in_ok-end.ensures.told
    (steps_pass (are_steps c.in_ok-limit.limit (outcome_of (texts_of c.read_end.new.texts) c.in_ok-end.end)) c.read_end.new.cur c.u8-2.new.self c.in_ok-steps.steps c.in_ok-steps.ensures (sym (c.are_steps.ensures (texts_of c.read_end.new.texts)) ∙ c.if-not-are_steps.false)) c.in_ok-consulted.ensures.read c.in_ok-consulted.ensures.told (c.in_ok-reached.ensures (entries_of (map (λ s. s.now) c.args.classes.now) (texts_of c.read_entries.new.texts) c.in_ok-consulted.consulted) (subst (λ (es : List Entry). ArePresent (entries_of (map (λ s. s.now) c.args.classes.now) (texts_of c.read_entries.new.texts) c.in_ok-consulted.consulted) es) (sym c.as_slice.ensures) (are_present (map (λ s. s.now) c.args.classes.now) (texts_of c.read_entries.new.texts) c.in_ok-consulted.consulted c.in_ok-consulted.ensures.told.entries)))).0

pub returns-clause-told : goal.returns-clause-told
returns-clause-told c =
    (record_is c.args.version (map (λ s. s.now) c.args.classes.now) c.args.used.now c.read_entries.new.used c.args.stamp (record { test_class = c.in_ok-test_class.test_class; test_method = c.in_ok-test_method.test_method; heap = c.in_ok-heap.heap; depth = c.in_ok-depth.depth; limit = c.in_ok-limit.limit; end = c.in_ok-end.end; steps = c.in_ok-steps.steps; consulted = c.in_ok-consulted.consulted; reached = c.in_ok-reached.reached }) c.args.texts.now c.read_name.new.texts c.read_name-2.new.texts c.read_end.new.texts c.read_entries.new.texts c.args.cur.now c.read_name.new.cur c.read_name-2.new.cur c.u4.new.self c.u4-2.new.self c.u8.new.self c.read_end.new.cur c.u8-2.new.self c.read_entries.new.cur c.read_pairs.new.cur
    c.in_ok-test_class.ensures.read c.in_ok-test_class.ensures.told c.in_ok-test_method.ensures.read c.in_ok-test_method.ensures.told (ap (or_fault HistoryBad) c.in_ok-heap.ensures) (ap (or_fault HistoryBad) c.in_ok-depth.ensures) (ap (or_fault HistoryBad) c.in_ok-limit.ensures) c.in_ok-end.ensures.read c.in_ok-end.ensures.told
    (steps_pass (are_steps c.in_ok-limit.limit (outcome_of (texts_of c.read_end.new.texts) c.in_ok-end.end)) c.read_end.new.cur c.u8-2.new.self c.in_ok-steps.steps c.in_ok-steps.ensures (sym (c.are_steps.ensures (texts_of c.read_end.new.texts)) ∙ c.if-not-are_steps.false)) c.in_ok-consulted.ensures.read c.in_ok-consulted.ensures.told (c.in_ok-reached.ensures (entries_of (map (λ s. s.now) c.args.classes.now) (texts_of c.read_entries.new.texts) c.in_ok-consulted.consulted) (subst (λ (es : List Entry). ArePresent (entries_of (map (λ s. s.now) c.args.classes.now) (texts_of c.read_entries.new.texts) c.in_ok-consulted.consulted) es) (sym c.as_slice.ensures) (are_present (map (λ s. s.now) c.args.classes.now) (texts_of c.read_entries.new.texts) c.in_ok-consulted.consulted c.in_ok-consulted.ensures.told.entries)))).1

pub returns-clause-room : goal.returns-clause-room
returns-clause-room c =
    let pool = map (λ s. s.now) c.args.classes.now in
    let es = entries_of pool (texts_of c.read_entries.new.texts) c.in_ok-consulted.consulted in
    let present = subst (λ (xs : List Entry). ArePresent es xs) (sym c.as_slice.ensures) (are_present pool (texts_of c.read_entries.new.texts) c.in_ok-consulted.consulted c.in_ok-consulted.ensures.told.entries) in
    pairs_room c.read_entries.new.texts es c.read_entries.new.cur c.read_pairs.new.cur c.in_ok-reached.reached (c.in_ok-reached.ensures es present) c.in_ok-consulted.ensures.room
