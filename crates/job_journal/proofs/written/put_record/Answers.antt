use Rattle.std.proofs.Common.{◌∙◌, ◌++◌, [], ℕ, List, sym, ap, subst}
use Rattle.std.specs.Prelude.{All}
use Rattle.history_rules.specs.Items.{counted_bytes}
use Rattle.history_rules.specs.Entries.{Entry, entry_bytes, pair_bytes}
use Rattle.job_journal.specs.Adding.{IsWritten}
use Rattle.job_journal.proofs.Putting.{nine_written, all_entries}
use Rattle.job_journal.proofs.written.put_record.Goals as goal

pub put_entries-requires-clause-each : goal.put_entries-requires-clause-each
put_entries-requires-clause-each c =
    subst (λ (es : List Entry). All (IsWritten c.args.numbers.now) es) (sym c.as_slice.ensures) (all_entries c.args.numbers.now [] c.args.r.now.consulted c.requires.form.names c.requires.numbers)

pub returns : goal.returns
returns c =
    nine_written c.args.out.now _ _ _ _ _ _ _ _ _ c.put_name.new.out c.put_name-2.new.out c.put_u4.new.out c.put_u4-2.new.out c.put_u8.new.out c.put_outcome.new.out c.put_u8-2.new.out c.put_entries.new.out c.put_pairs.new.out
    c.in_ok-put_name.ensures c.in_ok-put_name-2.ensures c.in_ok-put_u4.ensures.ok c.in_ok-put_u4-2.ensures.ok c.in_ok-put_u8.ensures.ok c.in_ok-put_outcome.ensures c.in_ok-put_u8-2.ensures.ok
    (c.in_ok-put_entries.ensures ∙ ap (λ (es : List Entry). c.put_u8-2.new.out ++ counted_bytes (entry_bytes c.args.numbers.now) es) c.as_slice.ensures)
    (c.in_ok-put_pairs.ensures ∙ ap (λ (ps : List (ℕ × ℕ)). c.put_entries.new.out ++ counted_bytes pair_bytes ps) c.as_slice-2.ensures)
