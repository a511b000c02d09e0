use Rattle.std.proofs.Common.{◌≡◌, ◌∙◌, ◌+◌, ◌*◌, ℕ, List, length, map, ap, arith}
use Rattle.std.specs.List.{flat_map}
use Rattle.class_model.specs.Text.{text}
use Rattle.history_rules.specs.Entries.{entry_bytes}
use Rattle.history_rules.specs.Spelling.{outcome_content, record_bytes}
use Rattle.history_rules.specs.Histories.{told_length}
use Rattle.history_file.specs.declared.row.Entry.{Entry}
use Rattle.history_file.specs.Rows.{name_of, outcome_of, record_of}
use Rattle.history_file.specs.Reading.{entries_of}
use Rattle.history_file.proofs.Spelled.{row_long}
use Rattle.history_file.proofs.lengths.row_len.Goals as goal

pub text_len-requires-clause-there : goal.text_len-requires-clause-there
text_len-requires-clause-there c = c.requires.there.1.class

pub text_len-requires-2-clause-there : goal.text_len-requires-2-clause-there
text_len-requires-2-clause-there c = c.requires.there.1.method

pub end_len-requires-clause-there : goal.end_len-requires-clause-there
end_len-requires-clause-there c = c.requires.there.1.thrown

pub returns : goal.returns
returns c = λ classes pool.
    let ts = map (λ s. s.now) c.args.texts.now in
    let r = c.args.row.now in
    let bytes = record_bytes 2 pool (record_of ts classes r) in
    let es = flat_map (entry_bytes pool) (entries_of classes ts r.consulted) in
    let o = outcome_content 2 (outcome_of ts r.end) in
    let long : length bytes ≡ length (text (name_of ts r.test_class)) + length (text (name_of ts r.test_method)) + 37 + length o + length es + length r.reached * 6 = row_long pool (record_of ts classes r) in
    let a : c.text_len.result ≡ length (text (name_of ts r.test_class)) = c.text_len.ensures in
    let b : c.text_len-2.result ≡ length (text (name_of ts r.test_method)) = c.text_len-2.ensures in
    let e : c.entries_len-entries.result ≡ told_length (length es) = c.entries_len-entries.ensures classes pool ∙ ap (λ (xs : List Entry). told_length (length (flat_map (entry_bytes pool) (entries_of classes ts xs)))) c.as_slice.ensures in
    let n : c.lines_len-lines.result ≡ told_length (length r.reached * 6) = c.lines_len-lines.ensures ∙ ap (λ (k : ℕ). told_length (k * 6)) c.len.ensures in
    let m : c.end_len.result ≡ told_length (length o) = c.end_len.ensures in
    omega (arith, long, a, b, e, n, m)
