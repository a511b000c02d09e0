use Rattle.std.proofs.Common.{◌∙◌, ◌<◌, ◌^◌, ◌++◌, ℕ, List, length, map, ap, subst, sym, arith}
use Rattle.std.specs.Prelude.{All}
use Rattle.history_rules.specs.Histories.{contents_bytes, told_length}
use Rattle.history_rules.specs.Laws.{AreDifferent}
use Rattle.history_file.specs.declared.row.Row.{Row}
use Rattle.history_file.specs.Rows.{IsRow}
use Rattle.history_file.specs.Writing.{AreNames, AreRows, classes_of, used_by, contents_under, records_in}
use Rattle.history_file.proofs.Writings.{ready, rows_numbered, too_long_of, can_write_of, written_of}
use Rattle.history_file.proofs.write.write_history.Goals as goal

pub of-requires-clause-different : goal.of-requires-clause-different
of-requires-clause-different c = subst AreDifferent (sym c.classes-classes.ensures) c.texts-texts.ensures.known.classes

pub of-requires-clause-few : goal.of-requires-clause-few
of-requires-clause-few c = subst (λ (cs : List (List ℕ)). length cs < 2 ^ 32) (sym c.classes-classes.ensures) c.texts-texts.ensures.known.few_classes

pub of-requires-clause-rows : goal.of-requires-clause-rows
of-requires-clause-rows c =
    let n = c.args.history.now in
    subst (λ (cs : List (List ℕ)). AreRows (length cs) c.rows-rows.result.now) (sym c.classes-classes.ensures)
    (subst (λ (rs : List Row). AreRows (length n.classes) rs) (sym c.rows-rows.ensures) (rows_numbered (length n.texts) (length n.classes) n.rows c.texts-texts.ensures.known.rows))

pub history_len-len-requires-clause-names : goal.history_len-len-requires-clause-names
history_len-len-requires-clause-names c = subst AreNames (sym c.texts-texts.ensures.texts) c.texts-texts.ensures.known.texts

pub history_len-len-requires-clause-there : goal.history_len-len-requires-clause-there
history_len-len-requires-clause-there c =
    let n = c.args.history.now in (
      length n.classes,
      subst (λ (ts : List (List ℕ)). All (IsRow (length ts) (length n.classes)) c.rows-rows.result.now) (sym c.texts-texts.ensures.texts)
          (subst (λ (rs : List Row). All (IsRow (length n.texts) (length n.classes)) rs) (sym c.rows-rows.ensures) c.texts-texts.ensures.known.rows),
    )

pub returns-then-len-gt-MOST : goal.returns-then-len-gt-MOST
returns-then-len-gt-MOST c = λ known.
    let ts = map (λ s. s.now) c.texts-texts.result.now in
    let o = c.in_ok-order.order in
    let r = ready c.args.history.now ts (map (λ s. s.now) c.classes-classes.result.now) o c.rows-rows.result.now c.texts-texts.ensures.texts c.classes-classes.ensures c.rows-rows.ensures c.texts-texts.ensures.known c.requires c.in_ok-order.ensures.classes c.in_ok-order.ensures.used in
    let len = c.history_len-len.ensures c.args.profile (classes_of o) ∙ ap (λ (cs : List (List ℕ)). told_length (length (contents_bytes (contents_under c.args.profile cs (records_in ts (classes_of o) c.rows-rows.result.now))))) c.used.ensures in
    too_long_of c.args.profile c.history_len-len.result c.args.history.now ts o c.rows-rows.result.now r len c.if-len-gt-MOST.true

pub put_history-requires-clause-names : goal.put_history-requires-clause-names
put_history-requires-clause-names c = subst AreNames (sym c.texts-texts.ensures.texts) c.texts-texts.ensures.known.texts

pub put_history-requires-clause-few : goal.put_history-requires-clause-few
put_history-requires-clause-few c =
    let ts = map (λ s. s.now) c.texts-texts.result.now in
    let o = c.in_ok-order.order in
    let r = ready c.args.history.now ts (map (λ s. s.now) c.classes-classes.result.now) o c.rows-rows.result.now c.texts-texts.ensures.texts c.classes-classes.ensures c.rows-rows.ensures c.texts-texts.ensures.known c.requires c.in_ok-order.ensures.classes c.in_ok-order.ensures.used in
    let len = c.history_len-len.ensures c.args.profile (classes_of o) ∙ ap (λ (cs : List (List ℕ)). told_length (length (contents_bytes (contents_under c.args.profile cs (records_in ts (classes_of o) c.rows-rows.result.now))))) c.used.ensures in
    (can_write_of c.args.profile c.history_len-len.result c.args.history.now ts o c.rows-rows.result.now r len c.if-len-gt-MOST.false (omega (arith, c.ranges.profile))).few

pub put_history-requires-clause-short : goal.put_history-requires-clause-short
put_history-requires-clause-short c =
    let ts = map (λ s. s.now) c.texts-texts.result.now in
    let o = c.in_ok-order.order in
    let r = ready c.args.history.now ts (map (λ s. s.now) c.classes-classes.result.now) o c.rows-rows.result.now c.texts-texts.ensures.texts c.classes-classes.ensures c.rows-rows.ensures c.texts-texts.ensures.known c.requires c.in_ok-order.ensures.classes c.in_ok-order.ensures.used in
    let len = c.history_len-len.ensures c.args.profile (classes_of o) ∙ ap (λ (cs : List (List ℕ)). told_length (length (contents_bytes (contents_under c.args.profile cs (records_in ts (classes_of o) c.rows-rows.result.now))))) c.used.ensures in
    (can_write_of c.args.profile c.history_len-len.result c.args.history.now ts o c.rows-rows.result.now r len c.if-len-gt-MOST.false (omega (arith, c.ranges.profile))).short

pub put_history-requires-clause-rows : goal.put_history-requires-clause-rows
put_history-requires-clause-rows c =
    let ts = map (λ s. s.now) c.texts-texts.result.now in
    let o = c.in_ok-order.order in
    let r = ready c.args.history.now ts (map (λ s. s.now) c.classes-classes.result.now) o c.rows-rows.result.now c.texts-texts.ensures.texts c.classes-classes.ensures c.rows-rows.ensures c.texts-texts.ensures.known c.requires c.in_ok-order.ensures.classes c.in_ok-order.ensures.used in
    let len = c.history_len-len.ensures c.args.profile (classes_of o) ∙ ap (λ (cs : List (List ℕ)). told_length (length (contents_bytes (contents_under c.args.profile cs (records_in ts (classes_of o) c.rows-rows.result.now))))) c.used.ensures in
    (can_write_of c.args.profile c.history_len-len.result c.args.history.now ts o c.rows-rows.result.now r len c.if-len-gt-MOST.false (omega (arith, c.ranges.profile))).rows

pub returns : goal.returns
returns c =
    let ts = map (λ s. s.now) c.texts-texts.result.now in
    let o = c.in_ok-order.order in
    let r = ready c.args.history.now ts (map (λ s. s.now) c.classes-classes.result.now) o c.rows-rows.result.now c.texts-texts.ensures.texts c.classes-classes.ensures c.rows-rows.ensures c.texts-texts.ensures.known c.requires c.in_ok-order.ensures.classes c.in_ok-order.ensures.used in
    let len = c.history_len-len.ensures c.args.profile (classes_of o) ∙ ap (λ (cs : List (List ℕ)). told_length (length (contents_bytes (contents_under c.args.profile cs (records_in ts (classes_of o) c.rows-rows.result.now))))) c.used.ensures in
    written_of c.args.profile c.history_len-len.result c.args.history.now ts o c.rows-rows.result.now c.put_history.new.out r len c.if-len-gt-MOST.false
    (c.in_ok-put_history.ensures ∙ ap (λ (x : List ℕ). x ++ contents_bytes (contents_under c.args.profile (used_by o) (records_in ts (classes_of o) c.rows-rows.result.now))) c.in_ok-out.ensures)
