-- What is read as a whole journal is spelled as one, and back.
use Rattle.std.proofs.Common.{◌≡◌, ◌∙◌, ℕ, zero, suc, ◌+◌, ◌<◌, Bool, true, false, List, [], ◌∷◌, ◌++◌, length, take, drop, Option, Some, None, refl, sym, ap, subst, append_assoc, append-nil, arith, length-append}
use Rattle.std.specs.Prelude.{fold, ◌/◌, ◌%◌, ◌≤◌, if◌then◌else◌}
use Rattle.std.specs.List.{flat_map, AllByRecursion}
use Rattle.std.proofs.lemmas.List.{take-append-drop}
use Rattle.std.proofs.Common.{length-drop}
use Rattle.history_rules.specs.Items.{AllBy, known_by}
use Rattle.run_journal.specs.Entries.{Entry, IsChunk, chunk_bytes, header, entry_bytes, content_of, mark_of, cut_into, good_entry}
use Rattle.run_journal.specs.Contents.{Item, Known, no_known, item_of, with_item}
use Rattle.run_journal.specs.Reading.{Stage, Head, Open, Chunk, Ended, Bad, Progress, behind_good, behind_mark, start, read_on, reading_of, step, closing_of, IsRead, IsWhole, behind_head}
use Rattle.run_journal.specs.Laws.{SaysSomething, IsEntry, with_said, with_entry, IsJournal, WholeIsSpelled, ClosingIsRead, BeginningsAreRead, WrittenIsRead, SaysFirst}
use Rattle.run_journal.proofs.Steps.{stand, on_append, chunks_read, head_read, closing_read, read_before, says_first}

abbrev Whole : Known → Progress → Type 0
Whole k p = IsWhole p × (p.known ≡ k)

-- ---- one entry

marked : (a : ℕ) (content : List ℕ) (good : Bool) (k : Known) (o : Option Item) → item_of k.classes content ≡ o → SaysSomething good o → Whole (with_said k good o) (read_on (stand a (Open content) k) (0 ∷ mark_of good ∷ []))
marked a content false k o e says = (refl, refl)
marked a content true k None e says = absurd says
marked a content true k (Some item) e says =
    let p = stand (a + 1) (Ended content) k in
    let f = ap (λ (x : Option Item). behind_good p x) e in
    (ap (λ (q : Progress). q.stage) f, ap (λ (q : Progress). q.known) f)

pub entry_read : (p : Progress) (e : Entry) → IsWhole p → IsEntry p.known e → Whole (with_entry p.known e) (read_on p (entry_bytes e))
entry_read p e whole form =
    let r = chunks_read p.at [] e.chunks p.known form.0 in
    let m = marked r.0 (content_of e) e.good p.known (item_of p.known.classes (content_of e)) refl form.1 in
    let front : read_on p (flat_map chunk_bytes e.chunks) ≡ stand r.0 (Open (content_of e)) p.known = ap (λ (s : Stage). read_on (stand p.at s p.known) (flat_map chunk_bytes e.chunks)) whole ∙ r.1 in
    let all = on_append p (flat_map chunk_bytes e.chunks) (0 ∷ mark_of e.good ∷ []) ∙ ap (λ (q : Progress). read_on q (0 ∷ mark_of e.good ∷ [])) front in
    subst (λ (q : Progress). Whole (with_entry p.known e) q) (sym all) m

pub entries_read : (p : Progress) (es : List Entry) → IsWhole p → AllBy IsEntry with_entry p.known es → Whole (known_by with_entry p.known es) (read_on p (flat_map entry_bytes es))
entries_read p [] whole form = (whole, refl)
entries_read p (e ∷ es) whole form =
    let one = entry_read p e whole form.0 in
    let q = read_on p (entry_bytes e) in
    let more = entries_read q es one.0 (subst (λ (k : Known). AllBy IsEntry with_entry k es) (sym one.1) form.1) in
    let m : Whole (known_by with_entry (with_entry p.known e) es) (read_on q (flat_map entry_bytes es)) = subst (λ (k : Known). Whole (known_by with_entry k es) (read_on q (flat_map entry_bytes es))) one.1 more in
    subst (λ (x : Progress). Whole (known_by with_entry (with_entry p.known e) es) x) (sym (on_append p (entry_bytes e) (flat_map entry_bytes es))) m

header_read : (profile : ℕ) → Whole no_known (read_on (start profile) (header profile))
header_read profile = let r = head_read 0 0x4d (0x54 ∷ 0x4a ∷ 0x52 ∷ 0 ∷ 1 ∷ profile / 256 ∷ profile % 256 ∷ []) no_known in (ap (λ (q : Progress). q.stage) r.1, ap (λ (q : Progress). q.known) r.1)

pub journal_read : (profile : ℕ) (es : List Entry) → AllBy IsEntry with_entry no_known es → Whole (known_by with_entry no_known es) (reading_of profile (header profile ++ flat_map entry_bytes es))
journal_read profile es form =
    let h = header_read profile in
    let p = read_on (start profile) (header profile) in
    let all = entries_read p es h.0 (subst (λ (k : Known). AllBy IsEntry with_entry k es) (sym h.1) form) in
    let m : Whole (known_by with_entry no_known es) (read_on p (flat_map entry_bytes es)) = subst (λ (k : Known). Whole (known_by with_entry k es) (read_on p (flat_map entry_bytes es))) h.1 all in
    subst (λ (x : Progress). Whole (known_by with_entry no_known es) x) (sym (on_append (start profile) (header profile) (flat_map entry_bytes es))) m

-- ---- the laws but one

pub closing_is_read : ClosingIsRead
closing_is_read profile bytes good =
    let p = reading_of profile bytes in
    let r = closing_read p.at p.stage p.known good in
    subst (λ (x : Progress). Whole p.known x) (sym (on_append (start profile) bytes (closing_of p.stage))) r

pub beginnings_are_read : BeginningsAreRead
beginnings_are_read profile bytes more good =
    let p = reading_of profile bytes in
    let all = on_append (start profile) bytes more in (
      read_before p more (subst (λ (x : Progress). IsRead x) all good),
      subst (λ (x : Progress). SaysFirst p x) (sym all) (says_first p more),
    )

pub cut_flat : (turns : ℕ) (bytes : List ℕ) → length bytes ≤ turns → flat_map (λ chunk. chunk) (cut_into turns bytes) ≡ bytes
cut_flat zero [] le = refl
cut_flat zero (b ∷ bs) le = absurd (omega (arith, le))
cut_flat (suc turns) [] le = refl
cut_flat (suc turns) (b ∷ bs) le =
    ap (λ (x : List ℕ). take 255 (b ∷ bs) ++ x) (cut_flat turns (drop 255 (b ∷ bs)) (omega (arith, le, length-drop 255 (b ∷ bs)))) ∙ take-append-drop 255 (b ∷ bs)

pub cut_chunks : (turns : ℕ) (bytes : List ℕ) → AllByRecursion IsChunk (cut_into turns bytes)
cut_chunks zero bytes = tt
cut_chunks (suc turns) [] = tt
cut_chunks (suc turns) (b ∷ bs) = (omega arith, cut_chunks turns (drop 255 (b ∷ bs)))

pub written_is_read : WrittenIsRead
written_is_read profile bytes content item whole says =
    let p = reading_of profile bytes in
    let e = good_entry content in
    let flat : content_of e ≡ content = cut_flat (length content) content (omega arith) in
    let said : item_of p.known.classes (content_of e) ≡ Some item = ap (λ (c : List ℕ). item_of p.known.classes c) flat ∙ says in
    let r = entry_read p e whole (cut_chunks (length content) content, subst (λ (o : Option Item). SaysSomething true o) (sym said) tt) in
    let k : with_entry p.known e ≡ with_item p.known item = ap (λ (o : Option Item). with_said p.known true o) said in
    subst (λ (x : Progress). Whole (with_item p.known item) x) (sym (on_append (start profile) bytes (entry_bytes e))) (r.0, r.1 ∙ k)
