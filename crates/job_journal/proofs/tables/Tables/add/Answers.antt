use Rattle.std.proofs.Common.{◌≡◌, ◌∙◌, ◌++◌, [], ℕ, List, Some, is_some, sym, ap, subst}
use Rattle.std.specs.Prelude.{All, if◌then◌else◌}
use Rattle.program_rules.specs.Names.{same}
use Rattle.history_rules.specs.Entries.{Entry}
use Rattle.history_rules.specs.Histories.{classes_used}
use Rattle.run_journal.specs.Entries.{entry_bytes, good_entry}
use Rattle.run_journal.specs.Contents.{record_content}
use Rattle.run_journal.specs.Laws.{Begins}
use Rattle.job_journal.specs.Adding.{HasNumbers, class_entries}
use Rattle.job_journal.specs.Numbers.{kept_at}
use Rattle.job_journal.specs.Tables.{HasAdded, IsShort}
use Rattle.job_journal.proofs.Added.{all_numbers}
use Rattle.job_journal.proofs.Numbered.{set_key}
use Rattle.job_journal.proofs.ContentsApart.{short_all, there, not_there, grown, one_more, used_more}
use Rattle.job_journal.proofs.tables.Tables.add.Goals as goal

pub put_classes-requires : goal.put_classes-requires
put_classes-requires c = subst (λ (es : List Entry). All IsShort es) (sym c.as_slice-entries.ensures) (short_all [] c.args.r.now.consulted c.requires.names)

pub record_content-requires-clause-numbers : goal.record_content-requires-clause-numbers
record_content-requires-clause-numbers c =
    let used = c.in_ok-put_classes.ensures.0 ∙ ap (λ (es : List Entry). classes_used c.args.self.now.numbers es) c.as_slice-entries.ensures in
    subst (λ (cs : List (List ℕ)). HasNumbers cs c.args.r.now) (sym used) (all_numbers c.args.self.now.numbers c.args.r.now.consulted)

pub returns-then-contains_key : goal.returns-then-contains_key
returns-then-contains_key c = λ added h.
    let cs = c.args.self.now.numbers in
    let ds = c.put_classes.new.numbers in
    let m = c.args.self.now.contents in
    let used = c.in_ok-put_classes.ensures.0 ∙ ap (λ (es : List Entry). classes_used cs es) c.as_slice-entries.ensures in
    let is : c.as_slice-bytes.result.now ≡ record_content ds c.args.r.now = c.as_slice-bytes.ensures ∙ c.in_ok-content.ensures in
    let some = ap (λ (q : List ℕ). is_some (kept_at m q)) (sym is) ∙ sym c.contains_key.ensures ∙ c.if-contains_key.true in
    let t = there cs ds m added c.args.r.now used c.len-count.ensures.few c.requires h some in
    (t.0, subst (λ (x : List (List ℕ)). HasAdded x m added) (sym t.1) h, t.1)

pub returns : goal.returns
returns c =
    let cs = c.args.self.now.numbers in
    let ds = c.put_classes.new.numbers in
    let m = c.args.self.now.contents in
    let r = c.args.r.now in
    let used = c.in_ok-put_classes.ensures.0 ∙ ap (λ (es : List Entry). classes_used cs es) c.as_slice-entries.ensures in
    let own = subst (λ (x : List (List ℕ)). HasNumbers x r) (sym used) (all_numbers cs r.consulted) in
    let begins = subst (λ (x : List (List ℕ)). Begins cs x) (sym used) (used_more cs r.consulted) in
    let is : c.as_slice-bytes.result.now ≡ record_content ds r = c.as_slice-bytes.ensures ∙ c.in_ok-content.ensures in
    let key = c.into_vec-key.ensures ∙ c.in_ok-content.ensures in
    let none = ap (λ (q : List ℕ). is_some (kept_at m q)) (sym is) ∙ sym c.contains_key.ensures ∙ c.if-contains_key.false in
    let front = c.in_ok-put_classes.ensures.1 ∙ ap (λ (x : List ℕ). x ++ class_entries cs c.as_slice-entries.result.now) c.new-piece.ensures ∙ ap (λ (es : List Entry). class_entries cs es) c.as_slice-entries.ensures in
    let piece =
    c.in_ok-put_entry.ensures
    ∙ ap (λ (x : List ℕ). x ++ entry_bytes (good_entry c.as_slice-bytes.result.now)) front
    ∙ ap (λ (x : List ℕ). class_entries cs r.consulted ++ entry_bytes (good_entry x)) is
    ∙ ap (λ (x : List (List ℕ)). class_entries cs r.consulted ++ entry_bytes (good_entry (record_content x r))) used in (
      piece,
      used,
      c.len-count.ensures.few,
      λ added h. (
        not_there cs ds m added r begins h none,
        one_more ds m c.insert.new.self added r c.requires own (grown cs ds m added begins h)
            (λ q. set_key c.into_vec-key.result tt m c.insert.new.self c.in_ok-insert.ensures.updates q ∙ ap (λ (z : List ℕ). if same z q then Some tt else kept_at m q) key),
      ),
    )
