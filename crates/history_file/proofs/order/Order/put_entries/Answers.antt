use Rattle.std.proofs.Common.{◌≤◌, ℕ, [], List, length, slice_index_or, subst, sym}
use Rattle.std.proofs.lemmas.List.Elements.{All-get_or}
use Rattle.history_rules.specs.Histories.{classes_used}
use Rattle.history_file.specs.declared.row.Entry.{Entry}
use Rattle.history_file.specs.Reading.{entries_of}
use Rattle.history_file.specs.Writing.{UsesMore, classes_of, used_by}
use Rattle.history_file.proofs.Orders.{entry_put}
use Rattle.history_file.proofs.Spelled.{no_entry, take_all}
use Rattle.history_file.proofs.order.Order.put_entries.Goals as goal

pub put-requires-clause-order : goal.put-requires-clause-order
put-requires-clause-order c = (c.loop-entry.invariant []).order

pub put-requires-clause-there : goal.put-requires-clause-there
put-requires-clause-there c =
    subst (λ (cs : List (List ℕ)). (slice_index_or c.args.entries.now c.loop-entry.entry-index no_entry).class ≤ length cs) (sym (c.loop-entry.invariant []).classes)
    (All-get_or (λ (e : Entry). e.class ≤ length (classes_of c.args.self.now)) c.args.entries.now c.loop-entry.entry-index no_entry c.loop-entry-test.true c.requires.there)

pub loop-entry-preserved : goal.loop-entry-preserved
loop-entry-preserved c =
    entry_put c.args.self.now c.loop-entry.self c.put.new.self c.args.entries.now c.loop-entry.entry-index no_entry c.loop-entry-test.true c.loop-entry.invariant c.in_ok-put.ensures

pub returns : goal.returns
returns c = λ texts.
    subst (λ (es : List Entry). UsesMore c.args.self.now c.loop-entry.self (classes_used (used_by c.args.self.now) (entries_of (classes_of c.args.self.now) texts es))) (take_all c.args.entries.now c.loop-entry.entry-index c.loop-entry-test.false) (c.loop-entry.invariant texts)
