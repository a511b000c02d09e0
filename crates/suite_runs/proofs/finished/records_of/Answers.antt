use Rattle.std.proofs.Common.{List, ◌++◌, subst, sym}
use Rattle.std.specs.Prelude.{All, Err}
use Rattle.std.proofs.lemmas.Result.{err_from_is_err_and}
use Rattle.new_history.specs.Needed.{IsNeeded}
use Rattle.new_history.specs.declared.needed.Needed.{Needed}
use Rattle.suite_runs.specs.Ending.{numbered_in}
use Rattle.suite_runs.specs.Keeping.{AddsKept, AreKeptAs, PutEnds}
use Rattle.suite_runs.proofs.Keeps.{adds_both, all_of, are_kept, no_history, puts_first, puts_second}
use Rattle.suite_runs.proofs.finished.records_of.Goals as goal

pub put_needed-requires : goal.put_needed-requires
put_needed-requires c = (numbered_in c.args.old, all_of c.args.old c.args.originals.now c.requires.originals)

pub put_needed-requires-2 : goal.put_needed-requires-2
put_needed-requires-2 c = (numbered_in c.args.old, all_of c.args.old c.args.others.now c.requires.others)

pub returns-in_err-put_needed : goal.returns-in_err-put_needed
returns-in_err-put_needed c =
    let o = c.args.old in
    let h = numbered_in o in
    let ks = c.args.originals.now in
    let ls = c.args.others.now in
    let first = all_of o ks c.requires.originals in
    let second = all_of o ls c.requires.others in
    let f = c.in_err-put_needed.field-0.0 in
    let p = err_from_is_err_and c.from_residual-in_err-put_needed.result c.from_residual-in_err-put_needed.ensures.1 in
    rw (p.1, p.2) (puts_first o ks ls c.put_needed.new.all.items f (subst (λ (xs : List Needed). PutEnds h ks xs c.put_needed.new.all.items (Err f)) c.in_ok-needed.ensures (c.in_err-put_needed.ensures h first)))

pub returns-in_err-put_needed-2 : goal.returns-in_err-put_needed-2
returns-in_err-put_needed-2 c =
    let o = c.args.old in
    let h = numbered_in o in
    let ks = c.args.originals.now in
    let ls = c.args.others.now in
    let first = all_of o ks c.requires.originals in
    let second = all_of o ls c.requires.others in
    let f = c.in_err-put_needed-2.field-0.0 in
    let p = err_from_is_err_and c.from_residual-in_err-put_needed-2.result c.from_residual-in_err-put_needed-2.ensures.1 in
    rw (p.1, p.2) (puts_second o ks ls c.put_needed.new.all.items c.put_needed-2.new.all.items f (c.in_err-put_needed-2.ensures h second))

pub history_of-requires : goal.history_of-requires
history_of-requires c =
    let o = c.args.old in
    let h = numbered_in o in
    let ks = c.args.originals.now in
    let ls = c.args.others.now in
    let first = all_of o ks c.requires.originals in
    let second = all_of o ls c.requires.others in
    let a = subst (λ (xs : List Needed). AddsKept h ks xs c.put_needed.new.all.items) c.in_ok-needed.ensures (c.in_ok-put_needed.ensures h first) in
    let b = c.in_ok-put_needed-2.ensures h second in
    let are = adds_both h ks ls c.put_needed.new.all.items c.put_needed-2.new.all.items a b in
    subst (All (IsNeeded h)) (sym c.as_slice.ensures.value) are.needed

pub returns-in_err-history : goal.returns-in_err-history
returns-in_err-history c =
    let o = c.args.old in
    let h = numbered_in o in
    let ks = c.args.originals.now in
    let ls = c.args.others.now in
    let first = all_of o ks c.requires.originals in
    let second = all_of o ls c.requires.others in
    let a = subst (λ (xs : List Needed). AddsKept h ks xs c.put_needed.new.all.items) c.in_ok-needed.ensures (c.in_ok-put_needed.ensures h first) in
    let b = c.in_ok-put_needed-2.ensures h second in
    let are = adds_both h ks ls c.put_needed.new.all.items c.put_needed-2.new.all.items a b in
    let p = err_from_is_err_and c.from_residual-in_err-history.result c.from_residual-in_err-history.ensures.1 in
    rw (p.1, p.2) (no_history o (ks ++ ls) c.as_slice.result.now c.in_err-history.field-0.0 (subst (AreKeptAs h (ks ++ ls)) (sym c.as_slice.ensures.value) are) c.in_err-history.ensures)

pub returns : goal.returns
returns c =
    let o = c.args.old in
    let h = numbered_in o in
    let ks = c.args.originals.now in
    let ls = c.args.others.now in
    let first = all_of o ks c.requires.originals in
    let second = all_of o ls c.requires.others in
    let a = subst (λ (xs : List Needed). AddsKept h ks xs c.put_needed.new.all.items) c.in_ok-needed.ensures (c.in_ok-put_needed.ensures h first) in
    let b = c.in_ok-put_needed-2.ensures h second in
    let are = adds_both h ks ls c.put_needed.new.all.items c.put_needed-2.new.all.items a b in
    are_kept o (ks ++ ls) c.as_slice.result.now c.in_ok-history.history (subst (AreKeptAs h (ks ++ ls)) (sym c.as_slice.ensures.value) are) c.in_ok-history.ensures
