use Rattle.std.proofs.Common.{◌≡◌, ◌∙◌, ◌<◌, ◌^◌, ◌++◌, [], ℕ, List, length, map, ap, subst, sym}
use Rattle.std.specs.Prelude.{All}
use Rattle.std.proofs.lemmas.List.{length-map}
use Rattle.history_rules.specs.Items.{counted_bytes}
use Rattle.history_rules.specs.Entries.{entry_bytes, pair_bytes}
use Rattle.history_file.specs.declared.row.Entry.{Entry}
use Rattle.history_file.specs.Rows.{entry_of}
use Rattle.history_file.specs.Reading.{entries_of}
use Rattle.history_file.specs.Writing.{IsWrittenEntry, classes_of, used_by}
use Rattle.history_file.proofs.Spelled.{then_written}
use Rattle.history_file.proofs.Writings.{entries_written}
use Rattle.history_file.proofs.write.put_row.Goals as goal

pub put_text-requires-clause-text : goal.put_text-requires-clause-text
put_text-requires-clause-text c = (c.requires.row.row.class, c.requires.row.form.class)

pub put_text-requires-2-clause-text : goal.put_text-requires-2-clause-text
put_text-requires-2-clause-text c = (c.requires.row.row.method, c.requires.row.form.method)

pub put_end-requires-clause-there : goal.put_end-requires-clause-there
put_end-requires-clause-there c = c.requires.row.row.thrown

pub put_end-requires-clause-form : goal.put_end-requires-clause-form
put_end-requires-clause-form c = c.requires.row.form.outcome

pub put_entries-requires-clause-few : goal.put_entries-requires-clause-few
put_entries-requires-clause-few c =
    subst (λ (es : List Entry). length es < 2 ^ 32) (sym c.as_slice.ensures)
    (subst (λ (n : ℕ). n < 2 ^ 32) (length-map c.args.row.now.consulted (entry_of (map (λ s. s.now) c.args.texts.now) (classes_of c.args.order.now))) c.requires.row.form.few_names)

pub put_entries-requires-clause-entries : goal.put_entries-requires-clause-entries
put_entries-requires-clause-entries c =
    subst (λ (es : List Entry). All (IsWrittenEntry (map (λ s. s.now) c.args.texts.now) c.args.order.now) es) (sym c.as_slice.ensures)
    (entries_written (map (λ s. s.now) c.args.texts.now) c.args.order.now (record { classes = c.requires.row.used; names = [] }) c.args.row.now.consulted c.requires.row.row.names c.requires.row.form.names)

pub put_pairs-requires : goal.put_pairs-requires
put_pairs-requires c = subst (λ (ps : List (ℕ × ℕ)). length ps < 2 ^ 32) (sym c.as_slice-2.ensures) c.requires.row.form.few_lines

pub returns : goal.returns
returns c =
    let ts = map (λ s. s.now) c.args.texts.now in
    let entries : c.put_entries.new.out ≡ c.put_u8-2.new.out ++ counted_bytes (entry_bytes (used_by c.args.order.now)) (entries_of (classes_of c.args.order.now) ts c.args.row.now.consulted) =
    c.in_ok-put_entries.ensures ∙ ap (λ (es : List Entry). c.put_u8-2.new.out ++ counted_bytes (entry_bytes (used_by c.args.order.now)) (entries_of (classes_of c.args.order.now) ts es)) c.as_slice.ensures in
    let pairs : c.put_pairs.new.out ≡ c.put_entries.new.out ++ counted_bytes pair_bytes c.args.row.now.reached = c.in_ok-put_pairs.ensures ∙ ap (λ (ps : List (ℕ × ℕ)). c.put_entries.new.out ++ counted_bytes pair_bytes ps) c.as_slice-2.ensures in
    then_written c.args.out.now c.put_text.new.out c.put_pairs.new.out _ _ c.in_ok-put_text.ensures
    (then_written c.put_text.new.out c.put_text-2.new.out c.put_pairs.new.out _ _ c.in_ok-put_text-2.ensures
    (then_written c.put_text-2.new.out c.put_u4.new.out c.put_pairs.new.out _ _ c.in_ok-put_u4.ensures.ok
    (then_written c.put_u4.new.out c.put_u4-2.new.out c.put_pairs.new.out _ _ c.in_ok-put_u4-2.ensures.ok
    (then_written c.put_u4-2.new.out c.put_u8.new.out c.put_pairs.new.out _ _ c.in_ok-put_u8.ensures.ok
    (then_written c.put_u8.new.out c.put_end.new.out c.put_pairs.new.out _ _ c.in_ok-put_end.ensures
    (then_written c.put_end.new.out c.put_u8-2.new.out c.put_pairs.new.out _ _ c.in_ok-put_u8-2.ensures.ok
    (then_written c.put_u8-2.new.out c.put_entries.new.out c.put_pairs.new.out _ _ entries pairs)))))))
