-- What is read as a whole journal is spelled as one.
use Rattle.std.proofs.Common.{◌≡◌, ◌∙◌, ℕ, zero, suc, ◌+◌, ◌<◌, ◌≤◌, Bool, true, false, List, [], ◌∷◌, ◌++◌, length, Option, Some, None, refl, sym, ap, subst, append_assoc, append-nil, nat_eq, arith, length-append}
use Rattle.std.specs.Prelude.{◌==◌, if◌then◌else◌}
use Rattle.std.specs.List.{flat_map, AllByRecursion}
use Rattle.std.proofs.lemmas.Grind.{flat_map-append}
use Rattle.codec_rules.specs.Input.{IsBytes}
use Rattle.history_rules.specs.Items.{AllBy, known_by}
use Rattle.run_journal.specs.Entries.{Entry, IsChunk, chunk_bytes, header, entry_bytes, content_of, mark_of}
use Rattle.run_journal.specs.Contents.{Item, Known, no_known, item_of, with_item}
use Rattle.run_journal.specs.Reading.{Stage, Head, Open, Chunk, Ended, Bad, Progress, item_place, behind_head, in_head, behind_good, behind_mark, moved, step_in, step, start, read_on, reading_of, IsWhole}
use Rattle.run_journal.specs.Laws.{SaysSomething, IsEntry, with_said, with_entry, IsJournal, WholeIsSpelled}
use Rattle.run_journal.proofs.Spelt.{journal_read}

abbrev flat : List (List ℕ) → List ℕ
flat cs = flat_map (λ (c : List ℕ). c) cs

-- whole entries, and behind them this
record Entered (profile : ℕ) (done : List ℕ) (tail : List ℕ) (k : Known) : Type 0 where
  entries : List Entry
  form : AllBy IsEntry with_entry no_known entries
  text : done ≡ (header profile ++ flat_map entry_bytes entries) ++ tail
  said : k ≡ known_by with_entry no_known entries

-- chunks of an entry, and behind them this
record Opened (profile : ℕ) (done : List ℕ) (tail : List ℕ) (content : List ℕ) (k : Known) : Type 0 where
  chunks : List (List ℕ)
  each : AllByRecursion IsChunk chunks
  joined : content ≡ flat chunks
  behind : Entered profile done (flat_map chunk_bytes chunks ++ tail) k

-- a chunk that lacks so many bytes and one more
record Torn (profile : ℕ) (done : List ℕ) (n : ℕ) (content : List ℕ) (k : Known) : Type 0 where
  part : List ℕ
  before : List ℕ
  len : ℕ
  is_len : len ≡ suc (length part + n)
  joined : content ≡ before ++ part
  opened : Opened profile done (len ∷ part) before k

abbrev SpeltAt : ℕ → List ℕ → Known → Stage → Type 0
SpeltAt profile done k (Head h hs) = (done ++ h ∷ hs ≡ header profile) × (k ≡ no_known)
SpeltAt profile done k (Open content) = Opened profile done [] content k
SpeltAt profile done k (Chunk n content) = Torn profile done n content k
SpeltAt profile done k (Ended content) = Opened profile done (0 ∷ []) content k
SpeltAt profile done k (Bad at) = Unit {0}

-- ---- more bytes

entered_more : (profile : ℕ) (done tail more : List ℕ) (k : Known) → Entered profile done tail k → Entered profile (done ++ more) (tail ++ more) k
entered_more profile done tail more k e = record {
  entries = e.entries;
  form = e.form;
  text = ap (λ (x : List ℕ). x ++ more) e.text ∙ append_assoc (header profile ++ flat_map entry_bytes e.entries) tail more;
  said = e.said;
}

opened_more : (profile : ℕ) (done tail more content : List ℕ) (k : Known) → Opened profile done tail content k → Opened profile (done ++ more) (tail ++ more) content k
opened_more profile done tail more content k o = record {
  chunks = o.chunks;
  each = o.each;
  joined = o.joined;
  behind = subst (λ (x : List ℕ). Entered profile (done ++ more) x k) (append_assoc (flat_map chunk_bytes o.chunks) tail more) (entered_more profile done (flat_map chunk_bytes o.chunks ++ tail) more k o.behind);
}

all_more : (cs : List (List ℕ)) (c : List ℕ) → AllByRecursion IsChunk cs → IsChunk c → AllByRecursion IsChunk (cs ++ c ∷ [])
all_more [] c all is = (is, tt)
all_more (d ∷ ds) c all is = (all.0, all_more ds c all.1 is)

-- a chunk is whole
chunk_closed : (profile : ℕ) (done part before : List ℕ) (len : ℕ) (k : Known) → len ≡ length part → 0 < length part → Opened profile done (len ∷ part) before k → Opened profile done [] (before ++ part) k
chunk_closed profile done part before len k e lt o = record {
  chunks = o.chunks ++ part ∷ [];
  each = all_more o.chunks part o.each lt;
  joined = ap (λ (x : List ℕ). x ++ part) o.joined ∙ sym (flat_map-append (λ (c : List ℕ). c) o.chunks (part ∷ []) ∙ ap (λ (x : List ℕ). flat o.chunks ++ x) (append-nil part));
  behind =
      (let one : flat_map chunk_bytes (o.chunks ++ part ∷ []) ++ [] ≡ flat_map chunk_bytes o.chunks ++ len ∷ part =
      append-nil (flat_map chunk_bytes (o.chunks ++ part ∷ []))
      ∙ flat_map-append chunk_bytes o.chunks (part ∷ [])
      ∙ ap (λ (x : List ℕ). flat_map chunk_bytes o.chunks ++ x) (append-nil (length part ∷ part))
      ∙ ap (λ (n : ℕ). flat_map chunk_bytes o.chunks ++ n ∷ part) (sym e) in
      subst (λ (x : List ℕ). Entered profile done x k) (sym one) o.behind);
}

-- ---- entries

known_more : (k : Known) (es : List Entry) (e : Entry) → known_by with_entry k (es ++ e ∷ []) ≡ with_entry (known_by with_entry k es) e
known_more k [] e = refl
known_more k (d ∷ ds) e = known_more (with_entry k d) ds e

form_more : (k : Known) (es : List Entry) (e : Entry) → AllBy IsEntry with_entry k es → IsEntry (known_by with_entry k es) e → AllBy IsEntry with_entry k (es ++ e ∷ [])
form_more k [] e all is = (is, tt)
form_more k (d ∷ ds) e all is = (all.0, form_more (with_entry k d) ds e all.1 is)

-- an entry is whole
entry_closed : (profile : ℕ) (done content : List ℕ) (good : Bool) (k : Known) (o : Opened profile done (0 ∷ []) content k) → SaysSomething good (item_of k.classes content) → Opened profile (done ++ mark_of good ∷ []) [] [] (with_said k good (item_of k.classes content))
entry_closed profile done content good k o says =
    let es = o.behind.entries in
    let e : Entry = record { chunks = o.chunks; good = good } in
    let l = known_by with_entry no_known es in
    let is : IsEntry l e = (o.each, subst (λ (x : List ℕ). SaysSomething good (item_of l.classes x)) o.joined (subst (λ (m : Known). SaysSomething good (item_of m.classes content)) o.behind.said says)) in
    let front = header profile ++ flat_map entry_bytes es in
    let cb = flat_map chunk_bytes o.chunks in
    let text : done ++ mark_of good ∷ [] ≡ (header profile ++ flat_map entry_bytes (es ++ e ∷ [])) ++ [] =
    ap (λ (x : List ℕ). x ++ mark_of good ∷ []) o.behind.text
    ∙ append_assoc front (cb ++ 0 ∷ []) (mark_of good ∷ [])
    ∙ ap (λ (x : List ℕ). front ++ x) (append_assoc cb (0 ∷ []) (mark_of good ∷ []))
    ∙ append_assoc (header profile) (flat_map entry_bytes es) (entry_bytes e)
    ∙ ap (λ (x : List ℕ). header profile ++ x) (sym (flat_map-append entry_bytes es (e ∷ []) ∙ ap (λ (x : List ℕ). flat_map entry_bytes es ++ x) (append-nil (entry_bytes e))))
    ∙ sym (append-nil (header profile ++ flat_map entry_bytes (es ++ e ∷ []))) in
    let said : with_said k good (item_of k.classes content) ≡ known_by with_entry no_known (es ++ e ∷ []) =
    ap (λ (m : Known). with_said m good (item_of m.classes content)) o.behind.said
    ∙ ap (λ (x : List ℕ). with_said l good (item_of l.classes x)) o.joined
    ∙ sym (known_more no_known es e) in
    record {
      chunks = [];
      each = tt;
      joined = refl;
      behind = record { entries = es ++ e ∷ []; form = form_more no_known es e o.behind.form is; text = text; said = said };
    }

-- ---- one step

eq_of : (a b : ℕ) → nat_eq a b ≡ true → a ≡ b
eq_of a b h = grind (arith, h)

head_step : (profile : ℕ) (done : List ℕ) (k : Known) (at h : ℕ) (hs : List ℕ) (b : ℕ) (same : Bool) → same ≡ nat_eq b h → SpeltAt profile done k (Head h hs) → SpeltAt profile (done ++ b ∷ []) k (if same then behind_head hs else Bad (item_place at))
head_step profile done k at h hs b false e s = tt
head_step profile done k at h [] b true e s =
    let is : b ≡ h = eq_of b h (sym e) in
    record {
      chunks = [];
      each = tt;
      joined = refl;
      behind = record {
        entries = [];
        form = tt;
        text = ap (λ (x : ℕ). done ++ x ∷ []) is ∙ s.0 ∙ sym (append-nil (header profile)) ∙ sym (append-nil (header profile ++ []));
        said = s.1;
      };
    }
head_step profile done k at h (g ∷ gs) b true e s =
    let is : b ≡ h = eq_of b h (sym e) in
    (append_assoc done (b ∷ []) (g ∷ gs) ∙ ap (λ (x : ℕ). done ++ x ∷ g ∷ gs) is ∙ s.0, s.1)

length_step : (profile : ℕ) (done content : List ℕ) (k : Known) (b : ℕ) → Opened profile done [] content k → SpeltAt profile (done ++ b ∷ []) k (step_in (Open content) (record { at = 0; stage = Open content; known = k }) b).stage
length_step profile done content k zero o = opened_more profile done [] (0 ∷ []) content k o
length_step profile done content k (suc n) o = record {
  part = [];
  before = content;
  len = suc n;
  is_len = (let e : suc n ≡ suc (0 + n) = omega arith in e);
  joined = sym (append-nil content);
  opened = opened_more profile done [] (suc n ∷ []) content k o;
}

chunk_step : (profile : ℕ) (done content : List ℕ) (k : Known) (n b : ℕ) → Torn profile done n content k → SpeltAt profile (done ++ b ∷ []) k (step_in (Chunk n content) (record { at = 0; stage = Chunk n content; known = k }) b).stage
chunk_step profile done content k zero b t =
    let more = opened_more profile done (t.len ∷ t.part) (b ∷ []) t.before k t.opened in
    let l = length-append t.part (b ∷ []) in
    let i = t.is_len in
    let len : t.len ≡ length (t.part ++ b ∷ []) = omega (arith, l, i) in
    let closed = chunk_closed profile (done ++ b ∷ []) (t.part ++ b ∷ []) t.before t.len k len (omega (arith, l)) more in
    subst (λ (x : List ℕ). Opened profile (done ++ b ∷ []) [] x k) (sym (append_assoc t.before t.part (b ∷ [])) ∙ ap (λ (x : List ℕ). x ++ b ∷ []) (sym t.joined)) closed
chunk_step profile done content k (suc n) b t = record {
  part = t.part ++ b ∷ [];
  before = t.before;
  len = t.len;
  is_len = (let l = length-append t.part (b ∷ []) in let i = t.is_len in let e : t.len ≡ suc (length (t.part ++ b ∷ []) + n) = omega (arith, l, i) in e);
  joined = ap (λ (x : List ℕ). x ++ b ∷ []) t.joined ∙ append_assoc t.before t.part (b ∷ []);
  opened = opened_more profile done (t.len ∷ t.part) (b ∷ []) t.before k t.opened;
}

abbrev Spelt : ℕ → List ℕ → Progress → Type 0
Spelt profile done p = SpeltAt profile done p.known p.stage

good_step : (profile : ℕ) (done content : List ℕ) (p : Progress) (o : Option Item) → item_of p.known.classes content ≡ o → Opened profile done (0 ∷ []) content p.known → Spelt profile (done ++ 1 ∷ []) (behind_good p o)
good_step profile done content p None e op = tt
good_step profile done content p (Some item) e op =
    subst (λ (x : Option Item). Opened profile (done ++ 1 ∷ []) [] [] (with_said p.known true x)) e
    (entry_closed profile done content true p.known op (subst (λ (x : Option Item). SaysSomething true x) (sym e) tt))

mark_step : (profile : ℕ) (done content : List ℕ) (p : Progress) (b : ℕ) (good void : Bool) → good ≡ nat_eq b 1 → void ≡ nat_eq b 2 → Opened profile done (0 ∷ []) content p.known
    → Spelt profile (done ++ b ∷ []) (if good then behind_good p (item_of p.known.classes content) else if void then moved p (Open []) else moved p (Bad p.at))
mark_step profile done content p b true void e f o =
    subst (λ (x : ℕ). Spelt profile (done ++ x ∷ []) (behind_good p (item_of p.known.classes content))) (sym (eq_of b 1 (sym e))) (good_step profile done content p (item_of p.known.classes content) refl o)
mark_step profile done content p b false true e f o =
    subst (λ (x : ℕ). Opened profile (done ++ x ∷ []) [] [] p.known) (sym (eq_of b 2 (sym f))) (entry_closed profile done content false p.known o tt)
mark_step profile done content p b false false e f o = tt

spelt_step : (profile : ℕ) (done : List ℕ) (p : Progress) (s : Stage) (b : ℕ) → SpeltAt profile done p.known s → Spelt profile (done ++ b ∷ []) (step_in s p b)
spelt_step profile done p (Head h hs) b e = head_step profile done p.known p.at h hs b (nat_eq b h) refl e
spelt_step profile done p (Open content) b e = length_step profile done content p.known b e
spelt_step profile done p (Chunk n content) b e = chunk_step profile done content p.known n b e
spelt_step profile done p (Ended content) b e = mark_step profile done content p b (nat_eq b 1) (nat_eq b 2) refl refl e
spelt_step profile done p (Bad at) b e = tt

spelt_on : (profile : ℕ) (done : List ℕ) (p : Progress) (bytes : List ℕ) → Spelt profile done p → Spelt profile (done ++ bytes) (read_on p bytes)
spelt_on profile done p [] s = subst (λ (x : List ℕ). Spelt profile x p) (sym (append-nil done)) s
spelt_on profile done p (b ∷ bs) s =
    subst (λ (x : List ℕ). Spelt profile x (read_on (step p b) bs)) (append_assoc done (b ∷ []) bs) (spelt_on profile (done ++ b ∷ []) (step p b) bs (spelt_step profile done p p.stage b s))

-- ---- the law

no_chunks : (cs : List (List ℕ)) → AllByRecursion IsChunk cs → [] ≡ flat cs → cs ≡ []
no_chunks [] all e = refl
no_chunks (c ∷ cs) all e =
    let l : length (c ++ flat cs) ≡ 0 = ap (λ (x : List ℕ). length x) (sym e) in
    let a = length-append c (flat cs) in
    let lt = all.0 in
    absurd (omega (arith, l, a, lt))

is_journal : (profile : ℕ) (bytes : List ℕ) (k : Known) → IsBytes bytes → Opened profile bytes [] [] k → IsJournal profile bytes
is_journal profile bytes k are o = record {
  bytes_are = are;
  entries = o.behind.entries;
  form = o.behind.form;
  text =
      (let none = no_chunks o.chunks o.each o.joined in
      o.behind.text ∙ ap (λ (cs : List (List ℕ)). (header profile ++ flat_map entry_bytes o.behind.entries) ++ (flat_map chunk_bytes cs ++ [])) none ∙ append-nil (header profile ++ flat_map entry_bytes o.behind.entries));
}

pub whole_is_spelled : WholeIsSpelled
whole_is_spelled = record {
  again = journal_read;
  spelled = λ profile bytes are whole.
      let s = spelt_on profile [] (start profile) bytes (refl, refl) in
      is_journal profile bytes (reading_of profile bytes).known are (subst (λ (x : Stage). SpeltAt profile bytes (reading_of profile bytes).known x) whole s);
}
