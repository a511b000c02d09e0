use Rattle.std.proofs.Common.{◌≡◌, ◌+◌, length, map, slice_index_or, arith}
use Rattle.class_model.specs.Text.{text}
use Rattle.history_rules.specs.Entries.{entry_bytes}
use Rattle.history_file.specs.Rows.{entry_of, name_of}
use Rattle.history_file.proofs.Spelled.{no_entry, longer_at, entry_long, all_long}
use Rattle.history_file.proofs.lengths.entries_len.Goals as goal

pub loop-entry-preserved : goal.loop-entry-preserved
loop-entry-preserved c = λ classes pool.
    let ts = map (λ s. s.now) c.args.texts.now in
    let e = slice_index_or c.args.entries.now c.loop-entry.entry-index no_entry in
    let one = longer_at (entry_bytes pool) (entry_of ts classes) c.args.entries.now c.loop-entry.entry-index no_entry c.loop-entry-test.true in
    let long : length (entry_bytes pool (entry_of ts classes e)) ≡ length (text (name_of ts e.name)) + 6 = entry_long pool (entry_of ts classes e) in
    let told = c.text_len.ensures in
    let before = c.loop-entry.invariant classes pool in
    omega (arith, one, long, told, before)

pub returns : goal.returns
returns c = λ classes pool.
    let all = all_long (entry_bytes pool) (entry_of (map (λ s. s.now) c.args.texts.now) classes) c.args.entries.now c.loop-entry.entry-index c.loop-entry-test.false in
    let before = c.loop-entry.invariant classes pool in
    omega (arith, all, before)
