-- What each call that reads a journal does to what is read of it.
use Rattle.std.proofs.Common.{◌≡◌, ◌≢◌, ◌∙◌, ℕ, zero, suc, ◌+◌, ◌-◌, ◌<◌, ◌≤◌, min, Bool, true, false, List, [], ◌∷◌, ◌++◌, length, take, drop, replicate, Option, Some, None, Result, Ok, Err, refl, sym, ap, subst, nat_eq, arith, length-take, length-drop}
use Rattle.std.specs.Prelude.{◌==◌, if◌then◌else◌}
use Rattle.std.proofs.lemmas.List.{take-append-drop}
use Rattle.codec_rules.specs.Input.{Input, behind}
use Rattle.codec_rules.specs.Meets.{Fails}
use Rattle.history_rules.specs.declared.fault.HistoryFault.{HistoryFault}
use Rattle.history_rules.specs.declared.fault.HistoryFault.TheVariants.{HistoryBad, Memory}
use Rattle.run_journal.specs.Contents.{Item, Known, no_known, item_of, with_item}
use Rattle.run_journal.specs.Reading.{Stage, Head, Open, Chunk, Ended, Bad, Progress, Parts, parts_in, item_place, behind_head, in_head, behind_good, behind_mark, moved, step_in, step, read_on, is_bad, closing_of, void_end}
use Rattle.run_journal.specs.Calls.{TakesByte, parts_on, parts_from, ends_with, ReadsChunks, SaysItem, ReadsMark}
use Rattle.run_journal.proofs.Steps.{stand, stand_same, on_append, chunk_read, torn_read}
use Rattle.run_journal.proofs.Cutting.{take_over}

abbrev told : Progress → Result Parts HistoryFault
told p = parts_in p.known p.stage

pub take_whole : (xs : List ℕ) → take (length xs) xs ≡ xs
take_whole [] = refl
take_whole (x ∷ xs) = ap (λ (ys : List ℕ). x ∷ ys) (take_whole xs)

-- ---- one byte

-- the same bytes
from_bytes : (input : Input) (bytes : List ℕ) (s : Stage) (k : Known) → input.bytes ≡ bytes → parts_from input s k ≡ parts_on (stand input.at s k) bytes
from_bytes input bytes s k e = ap (λ (bs : List ℕ). parts_on (stand input.at s k) bs) e

-- a byte more, at its place
pub a_byte : (old new : Input) (b : ℕ) (s t : Stage) (k l : Known) → TakesByte old new (Some b) → step_in s (stand old.at s k) b ≡ stand (old.at + 1) t l → parts_from old s k ≡ parts_from new t l
a_byte old new b s t k l takes e =
    from_bytes old (b ∷ new.bytes) s k takes.0
    ∙ ap (λ (p : Progress). told (read_on p new.bytes)) e
    ∙ ap (λ (a : ℕ). told (read_on (stand a t l) new.bytes)) (sym takes.1)

bad_at : (x : ℕ) (p : Progress) (bytes : List ℕ) → p.stage ≡ Bad x → (read_on p bytes).stage ≡ Bad x
bad_at x p [] e = e
bad_at x p (b ∷ bs) e = bad_at x (step p b) bs (ap (λ (s : Stage). (step_in s p b).stage) e)

bad_parts : (x : ℕ) (k : Known) (s : Stage) → s ≡ Bad x → parts_in k s ≡ Err (HistoryBad x)
bad_parts x k s e = ap (λ (t : Stage). parts_in k t) e

-- a byte that no journal has there
pub a_bad_byte : (old new : Input) (b x : ℕ) (s : Stage) (k : Known) → TakesByte old new (Some b) → step_in s (stand old.at s k) b ≡ stand (old.at + 1) (Bad x) k → parts_from old s k ≡ Err (HistoryBad x)
a_bad_byte old new b x s k takes e =
    a_byte old new b s (Bad x) k k takes e
    ∙ bad_parts x (read_on (stand new.at (Bad x) k) new.bytes).known (read_on (stand new.at (Bad x) k) new.bytes).stage (bad_at x (stand new.at (Bad x) k) new.bytes refl)

-- the text ends
pub at_end : (old new : Input) (s : Stage) (k : Known) → TakesByte old new None → is_bad s ≡ false → parts_from old s k ≡ ends_with k (closing_of s)
at_end old new s k takes good = from_bytes old [] s k takes.0 ∙ by s good
  where
    by : (s : Stage) → is_bad s ≡ false → parts_in k s ≡ ends_with k (closing_of s)
    by (Head h hs) good = refl
    by (Open content) good = refl
    by (Chunk n content) good = refl
    by (Ended content) good = refl
    by (Bad at) good = absurd cc

if_yes : {A : Type 0} (b : Bool) (x y : A) → b ≡ true → (if b then x else y) ≡ x
if_yes true x y e = refl
if_yes false x y e = absurd cc

if_no : {A : Type 0} (b : Bool) (x y : A) → b ≡ false → (if b then x else y) ≡ y
if_no true x y e = absurd cc
if_no false x y e = refl

pub same_number : (a b : ℕ) → a ≡ b → nat_eq a b ≡ true
same_number a b e = grind (arith, e)

pub other_number : (a b : ℕ) → a ≢ b → nat_eq a b ≡ false
other_number a b e = grind (arith, e)

-- ---- the header

pub head_byte : (old new : Input) (b h : ℕ) (hs : List ℕ) → TakesByte old new (Some b) → b ≡ h → parts_from old (behind_head (h ∷ hs)) no_known ≡ parts_from new (behind_head hs) no_known
head_byte old new b h hs takes e =
    a_byte old new b (Head h hs) (behind_head hs) no_known no_known takes
    (ap (λ (s : Stage). stand (old.at + 1) s no_known) (if_yes (nat_eq b h) (behind_head hs) (Bad (item_place old.at)) (same_number b h e)))

pub head_bad : (old new : Input) (b h at : ℕ) (hs : List ℕ) → TakesByte old new (Some b) → b ≢ h → at ≡ item_place old.at → parts_from old (Head h hs) no_known ≡ Err (HistoryBad at)
head_bad old new b h at hs takes e is =
    a_bad_byte old new b (item_place old.at) (Head h hs) no_known takes
    (ap (λ (s : Stage). stand (old.at + 1) s no_known) (if_no (nat_eq b h) (behind_head hs) (Bad (item_place old.at)) (other_number b h e)))
    ∙ ap (λ (a : ℕ). Err (HistoryBad a)) (sym is)

-- ---- chunks

-- what is left while chunks are read
pub record Chunked (old : Input) (now : Input) (before : List ℕ) (content : List ℕ) : Type 0 where
  pub same : (k : Known) → parts_from old (Open before) k ≡ parts_from now (Open content) k
  pub left : length now.bytes ≤ length old.bytes

pub chunks_begin : (old : Input) (before : List ℕ) → Chunked old old before before
chunks_begin old before = record { same = λ k. refl; left = omega arith }

chunk_len : (n : ℕ) (chunk bytes : List ℕ) → chunk ≡ take n bytes → length chunk ≡ min n (length bytes)
chunk_len n chunk bytes e = ap (λ (c : List ℕ). length c) e ∙ length-take n bytes

pub whole_chunk : (old mid new : Input) (content chunk : List ℕ) (n : ℕ) (k : Known) → TakesByte old mid (Some n) → chunk ≡ take n mid.bytes → new ≡ behind (length chunk) mid → 0 < n → n ≤ length chunk → parts_from old (Open content) k ≡ parts_from new (Open (content ++ chunk)) k
whole_chunk old mid new content chunk zero k takes front rest lt le = absurd (omega (arith, lt))
whole_chunk old mid new content chunk (suc m) k takes front rest lt le =
    let len : length chunk ≡ suc m = (let l = chunk_len (suc m) chunk mid.bytes front in omega (arith, l, le)) in
    let cut : mid.bytes ≡ chunk ++ drop (length chunk) mid.bytes = sym (take-append-drop (length chunk) mid.bytes) ∙ ap (λ (c : List ℕ). c ++ drop (length chunk) mid.bytes) (ap (λ (j : ℕ). take j mid.bytes) len ∙ sym front) in
    let p = stand mid.at (Chunk m content) k in
    a_byte old mid (suc m) (Open content) (Chunk m content) k k takes refl
    ∙ ap (λ (bs : List ℕ). told (read_on p bs)) cut
    ∙ ap told (on_append p chunk (drop (length chunk) mid.bytes))
    ∙ ap (λ (q : Progress). told (read_on q (drop (length chunk) mid.bytes))) (chunk_read mid.at m content chunk k len)
    ∙ ap (λ (i : Input). parts_from i (Open (content ++ chunk)) k) (sym rest)

pub torn_chunk : (old mid : Input) (content chunk : List ℕ) (n : ℕ) (k : Known) → TakesByte old mid (Some n) → chunk ≡ take n mid.bytes → length chunk < n → parts_from old (Open content) k ≡ ends_with k (replicate (n - length chunk) 0 ++ void_end)
torn_chunk old mid content chunk zero k takes front lt = absurd (omega (arith, lt))
torn_chunk old mid content chunk (suc m) k takes front lt =
    let l = chunk_len (suc m) chunk mid.bytes front in
    let short : length mid.bytes ≤ m = omega (arith, l, lt) in
    let len : length chunk ≡ length mid.bytes = omega (arith, l, lt) in
    let p = stand mid.at (Chunk m content) k in
    a_byte old mid (suc m) (Open content) (Chunk m content) k k takes refl
    ∙ ap told (torn_read mid.at m content mid.bytes k short)
    ∙ ap (λ (j : ℕ). ends_with k (replicate j 0 ++ void_end)) (let e : suc (m - length mid.bytes) ≡ suc m - length chunk = omega (arith, short, len) in e)

pub chunk_more : (old now mid new : Input) (before content chunk : List ℕ) (n : ℕ) → Chunked old now before content → TakesByte now mid (Some n) → chunk ≡ take n mid.bytes → new ≡ behind (length chunk) mid → n ≢ 0 → n ≤ length chunk → Chunked old new before (content ++ chunk)
chunk_more old now mid new before content chunk n h takes front rest some le =
    let lt : 0 < n = omega (arith, some) in
    let a = ap (λ (i : Input). length i.bytes) rest in
    let b = length-drop (length chunk) mid.bytes in
    let d = ap (λ (bs : List ℕ). length bs) takes.0 in
    let e = h.left in
    record {
      same = λ k. h.same k ∙ whole_chunk now mid new content chunk n k takes front rest lt le;
      left = omega (arith, a, b, d, e);
    }

pub chunks_end : (old now mid : Input) (before content : List ℕ) (n : ℕ) → Chunked old now before content → TakesByte now mid (Some n) → n ≡ 0 → ReadsChunks old mid before content None
chunks_end old now mid before content n h takes none =
    let d = ap (λ (bs : List ℕ). length bs) takes.0 in
    let e = h.left in (
      λ k. h.same k ∙ a_byte now mid n (Open content) (Ended content) k k takes (ap (λ (j : ℕ). step_in (Open content) (stand now.at (Open content) k) j) none),
      omega (arith, d, e),
    )

pub chunks_torn : (old now mid new : Input) (before content after chunk closing : List ℕ) (n : ℕ) → Chunked old now before content → TakesByte now mid (Some n) → chunk ≡ take n mid.bytes → length chunk < n → closing ≡ replicate (n - length chunk) 0 ++ void_end → ReadsChunks old new before after (Some closing)
chunks_torn old now mid new before content after chunk closing n h takes front lt e = λ k. h.same k ∙ torn_chunk now mid content chunk n k takes front lt ∙ ap (λ (c : List ℕ). ends_with k c) (sym e)

pub chunks_over : (old now new : Input) (before content closing : List ℕ) → Chunked old now before content → TakesByte now new None → closing ≡ closing_of (Open content) → ReadsChunks old new before content (Some closing)
chunks_over old now new before content closing h takes e = λ k. h.same k ∙ at_end now new (Open content) k takes refl ∙ ap (λ (c : List ℕ). ends_with k c) (sym e)

-- ---- marks

pub mark_missing : (mid new : Input) (content closing : List ℕ) (k : Known) → TakesByte mid new None → closing ≡ 2 ∷ [] → parts_from mid (Ended content) k ≡ ends_with k closing
mark_missing mid new content closing k takes e = at_end mid new (Ended content) k takes refl ∙ ap (λ (c : List ℕ). ends_with k c) (sym e)

shorter : (mid new : Input) (b : ℕ) → TakesByte mid new (Some b) → length new.bytes ≤ length mid.bytes
shorter mid new b takes = let d = ap (λ (bs : List ℕ). length bs) takes.0 in omega (arith, d)

pub mark_void : (mid new : Input) (content : List ℕ) (b : ℕ) (k : Known) → TakesByte mid new (Some b) → b ≡ 2 → ReadsMark content mid new k k (Ok None)
mark_void mid new content b k takes e =
    (a_byte mid new b (Ended content) (Open []) k k takes (ap (λ (j : ℕ). step_in (Ended content) (stand mid.at (Ended content) k) j) e), shorter mid new b takes)

mark_is : (p : Progress) (content : List ℕ) (b : ℕ) → b ≢ 1 → b ≢ 2 → behind_mark p content b ≡ moved p (Bad p.at)
mark_is p content b one two =
    if_no (nat_eq b 1) (behind_good p (item_of p.known.classes content)) (if b == 2 then moved p (Open []) else moved p (Bad p.at)) (other_number b 1 one)
    ∙ if_no (nat_eq b 2) (moved p (Open [])) (moved p (Bad p.at)) (other_number b 2 two)

pub mark_bad : (mid new : Input) (content : List ℕ) (b at : ℕ) (k : Known) → TakesByte mid new (Some b) → b ≢ 1 → b ≢ 2 → at ≡ mid.at → parts_from mid (Ended content) k ≡ Err (HistoryBad at)
mark_bad mid new content b at k takes one two e =
    a_bad_byte mid new b mid.at (Ended content) k takes (mark_is (stand mid.at (Ended content) k) content b one two) ∙ ap (λ (a : ℕ). Err (HistoryBad a)) (sym e)

good_step : (at b : ℕ) (content : List ℕ) (k : Known) (o : Option Item) → b ≡ 1 → item_of k.classes content ≡ o → step_in (Ended content) (stand at (Ended content) k) b ≡ behind_good (stand at (Ended content) k) o
good_step at b content k o one e =
    ap (λ (j : ℕ). behind_mark (stand at (Ended content) k) content j) one ∙ ap (λ (x : Option Item). behind_good (stand at (Ended content) k) x) e

pub mark_good : (mid new : Input) (content : List ℕ) (b : ℕ) (k after : Known) → TakesByte mid new (Some b) → b ≡ 1 → SaysItem k after (item_of k.classes content) → ReadsMark content mid new k after (Ok None)
mark_good mid new content b k after takes one says = (by (item_of k.classes content) refl says, shorter mid new b takes)
  where
    by : (o : Option Item) → item_of k.classes content ≡ o → SaysItem k after o → parts_from mid (Ended content) k ≡ parts_from new (Open []) after
    by None e h = absurd h
    by (Some item) e h = a_byte mid new b (Ended content) (Open []) k (with_item k item) takes (good_step mid.at b content k (Some item) one e) ∙ ap (λ (l : Known). parts_from new (Open []) l) (sym h)

pub mark_empty : (mid new : Input) (content : List ℕ) (b at : ℕ) (k : Known) (fault : HistoryFault) → TakesByte mid new (Some b) → b ≡ 1 → at ≡ mid.at → (item_of k.classes content ≡ None) × (fault ≡ HistoryBad at) → parts_from mid (Ended content) k ≡ Err fault
mark_empty mid new content b at k fault takes one e says =
    a_bad_byte mid new b mid.at (Ended content) k takes (good_step mid.at b content k None one says.0) ∙ ap (λ (a : ℕ). Err (HistoryBad a)) (sym e) ∙ ap (λ (f : HistoryFault). Err f) (sym says.1)
