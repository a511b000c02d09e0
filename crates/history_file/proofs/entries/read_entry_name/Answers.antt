use Rattle.std.proofs.Common.{◌∙◌, ◌<◌, ℕ, List, length, Ok, Err, sym, ap, subst}
use Rattle.history_rules.specs.declared.fault.HistoryFault.TheVariants.{HistoryBad}
use Rattle.history_file.specs.Rows.{name_of}
use Rattle.history_file.proofs.EntryNames.{name_passes, name_fails}
use Rattle.history_file.proofs.entries.read_entry_name.Goals as goal

pub returns-then-not-fresh-clause-read : goal.returns-then-not-fresh-clause-read
returns-then-not-fresh-clause-read c = λ numbers h known.
    let told = c.in_ok-placed.ensures.told in
    let m = c.mark-fresh.ensures.marked numbers (told.marks c.args.stamp numbers c.requires.stamp h) in
    name_fails c.args.texts.now c.read_placed_name.new.texts c.in_ok-placed.placed.0 numbers c.args.cur.now c.read_placed_name.new.cur c.mark-fresh.result told h.within c.in_ok-placed.ensures.read m.0 c.if-not-fresh.true
    ∙ ap (λ (at : ℕ). Err (HistoryBad at)) (sym c.in_ok-placed.ensures.place)

pub returns-clause-read : goal.returns-clause-read
returns-clause-read c = λ numbers h.
    let told = c.in_ok-placed.ensures.told in
    let m = c.mark-fresh.ensures.marked numbers (told.marks c.args.stamp numbers c.requires.stamp h) in
    name_passes c.args.texts.now c.read_placed_name.new.texts c.in_ok-placed.placed.0 numbers c.args.cur.now c.read_placed_name.new.cur c.mark-fresh.result told h.within c.in_ok-placed.ensures.read m.0 c.if-not-fresh.false
    ∙ ap (λ (ts : List (List ℕ)). Ok (name_of ts c.in_ok-placed.placed.0, c.read_placed_name.new.cur)) (sym c.mark-fresh.ensures.texts)

pub returns-clause-told : goal.returns-clause-told
returns-clause-told c = λ numbers h.
    let told = c.in_ok-placed.ensures.told in
    let m = c.mark-fresh.ensures.marked numbers (told.marks c.args.stamp numbers c.requires.stamp h) in
    record {
      within = subst (λ (ts : List (List ℕ)). c.in_ok-placed.placed.0 < length ts) (sym c.mark-fresh.ensures.texts) told.within;
      grown = record { known = c.mark-fresh.ensures.known; more = told.grown.more; texts = c.mark-fresh.ensures.texts ∙ told.grown.texts };
      marked = m.1;
    }
