use Rattle.std.proofs.Common.{ℕ, [], List, length, subst, sym}
use Rattle.std.proofs.lemmas.List.Elements.{All-get_or}
use Rattle.history_rules.specs.Histories.{classes_behind, classes_used}
use Rattle.history_file.specs.declared.row.Entry.{Entry}
use Rattle.history_file.specs.declared.row.Row.{Row}
use Rattle.history_file.specs.Reading.{entries_of}
use Rattle.history_file.specs.Writing.{AreEntries, UsesMore, classes_of, used_by, records_in}
use Rattle.history_file.proofs.Orders.{row_put}
use Rattle.history_file.proofs.Spelled.{take_all}
use Rattle.history_file.proofs.order.Order.put_rows.Goals as goal

pub put_entries-requires-clause-order : goal.put_entries-requires-clause-order
put_entries-requires-clause-order c = (c.loop-row.invariant []).order

pub put_entries-requires-clause-there : goal.put_entries-requires-clause-there
put_entries-requires-clause-there c =
    subst (λ (es : List Entry). AreEntries (length (classes_of c.loop-row.self)) es) (sym c.as_slice.ensures)
    (subst (λ (cs : List (List ℕ)). AreEntries (length cs) c.row-item.result.consulted) (sym (c.loop-row.invariant []).classes)
    (subst (λ (r : Row). AreEntries (length (classes_of c.args.self.now)) r.consulted) (sym c.row-item.is) (All-get_or (λ (r : Row). AreEntries (length (classes_of c.args.self.now)) r.consulted) c.args.rows.now c.loop-row.row-index c.row-item.result c.loop-row-test.true c.requires.there)))

pub loop-row-preserved : goal.loop-row-preserved
loop-row-preserved c =
    row_put c.args.self.now c.loop-row.self c.put_entries.new.self c.args.rows.now c.loop-row.row-index c.row-item.result c.loop-row-test.true c.loop-row.invariant
    (λ texts. subst (λ (r : Row). UsesMore c.loop-row.self c.put_entries.new.self (classes_used (used_by c.loop-row.self) (entries_of (classes_of c.loop-row.self) texts r.consulted))) c.row-item.is
    (subst (λ (es : List Entry). UsesMore c.loop-row.self c.put_entries.new.self (classes_used (used_by c.loop-row.self) (entries_of (classes_of c.loop-row.self) texts es))) c.as_slice.ensures (c.in_ok-put_entries.ensures texts)))

pub returns : goal.returns
returns c = λ texts.
    subst (λ (rs : List Row). UsesMore c.args.self.now c.loop-row.self (classes_behind (used_by c.args.self.now) (records_in texts (classes_of c.args.self.now) rs))) (take_all c.args.rows.now c.loop-row.row-index c.loop-row-test.false) (c.loop-row.invariant texts)
