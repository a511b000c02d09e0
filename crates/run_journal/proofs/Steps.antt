-- What a reader makes of the parts of a journal.
use Rattle.std.proofs.Common.{◌≡◌, ◌∙◌, ℕ, zero, suc, ◌+◌, ◌-◌, ◌<◌, ◌≤◌, Bool, true, false, List, [], ◌∷◌, ◌++◌, length, take, drop, replicate, Option, Some, None, refl, sym, ap, subst, append_assoc, append-nil, nat_eq, arith, length-append}
use Rattle.std.specs.Prelude.{fold, ◌==◌, if◌then◌else◌}
use Rattle.std.specs.List.{flat_map, AllByRecursion}
use Rattle.std.proofs.lemmas.List.{length-replicate}
use Rattle.std.proofs.lemmas.List.Sums.{fold-append}
use Rattle.run_journal.specs.Entries.{Entry, IsChunk, chunk_bytes, header}
use Rattle.run_journal.specs.Contents.{Item, ClassFile, Run, Known, item_of, with_item, with_class, with_record, is_kept}
use Rattle.run_journal.specs.Reading.{Stage, Head, Open, Chunk, Ended, Bad, Progress, item_place, behind_head, in_head, behind_length, in_chunk, moved, behind_good, behind_mark, step_in, step, start, read_on, is_bad, IsRead, IsWhole, void_end, closing_of}
use Rattle.run_journal.specs.Laws.{Begins, SaysFirst}

abbrev pub stand : ℕ → Stage → Known → Progress
stand a s k = record { at = a; stage = s; known = k }

pub stand_same : (a b : ℕ) (s t : Stage) (k : Known) → a ≡ b → s ≡ t → stand a s k ≡ stand b t k
stand_same a b s t k e f = λ i. record { at = e i; stage = f i; known = k }

pub on_append : (p : Progress) (xs ys : List ℕ) → read_on p (xs ++ ys) ≡ read_on (read_on p xs) ys
on_append p xs ys = fold-append step p xs ys

self_eq : (n : ℕ) → nat_eq n n ≡ true
self_eq n = let e : n ≡ n = refl in grind (arith, e)

if_true : {A : Type 0} (b : Bool) (x y : A) → b ≡ true → (if b then x else y) ≡ x
if_true true x y e = refl
if_true false x y e = absurd cc

-- ---- chunks

pub chunk_read : (a n : ℕ) (content c : List ℕ) (k : Known) → length c ≡ suc n → read_on (stand a (Chunk n content) k) c ≡ stand (a + length c) (Open (content ++ c)) k
chunk_read a n content [] k e = absurd (omega (arith, e))
chunk_read a zero content (x ∷ []) k e = stand_same (a + 1) (a + length (x ∷ [])) (Open (content ++ x ∷ [])) (Open (content ++ x ∷ [])) k (omega arith) refl
chunk_read a zero content (x ∷ y ∷ ys) k e = absurd (omega (arith, e))
chunk_read a (suc n) content (x ∷ xs) k e =
    chunk_read (a + 1) n (content ++ x ∷ []) xs k (omega (arith, e))
    ∙ stand_same (a + 1 + length xs) (a + length (x ∷ xs)) (Open ((content ++ x ∷ []) ++ xs)) (Open (content ++ x ∷ xs)) k (omega arith) (ap (λ (c : List ℕ). Open c) (append_assoc content (x ∷ []) xs))

pub torn_read : (a n : ℕ) (content c : List ℕ) (k : Known) → length c ≤ n → read_on (stand a (Chunk n content) k) c ≡ stand (a + length c) (Chunk (n - length c) (content ++ c)) k
torn_read a n content [] k le = stand_same a (a + 0) (Chunk n content) (Chunk (n - 0) (content ++ [])) k (omega arith) (λ i. Chunk (let e : n ≡ n - 0 = omega arith in e i) (sym (append-nil content) i))
torn_read a zero content (x ∷ xs) k le = absurd (omega (arith, le))
torn_read a (suc n) content (x ∷ xs) k le =
    torn_read (a + 1) n (content ++ x ∷ []) xs k (omega (arith, le))
    ∙ stand_same (a + 1 + length xs) (a + length (x ∷ xs)) (Chunk (n - length xs) ((content ++ x ∷ []) ++ xs)) (Chunk (suc n - length (x ∷ xs)) (content ++ x ∷ xs)) k (omega arith)
    (λ i. Chunk (let e : n - length xs ≡ suc n - length (x ∷ xs) = omega arith in e i) (append_assoc content (x ∷ []) xs i))

-- the length of a chunk, and its bytes
pub sized_read : (a : ℕ) (content c : List ℕ) (k : Known) → 0 < length c → read_on (stand a (Open content) k) (length c ∷ c) ≡ stand (a + 1 + length c) (Open (content ++ c)) k
sized_read a content [] k lt = absurd (omega (arith, lt))
sized_read a content (x ∷ xs) k lt = chunk_read (a + 1) (length xs) content (x ∷ xs) k refl

pub chunks_read : (a : ℕ) (content : List ℕ) (chunks : List (List ℕ)) (k : Known) → AllByRecursion IsChunk chunks → (b : ℕ) × (read_on (stand a (Open content) k) (flat_map chunk_bytes chunks) ≡ stand b (Open (content ++ flat_map (λ chunk. chunk) chunks)) k)
chunks_read a content [] k all = (a, ap (λ (c : List ℕ). stand a (Open c) k) (sym (append-nil content)))
chunks_read a content (c ∷ cs) k all =
    let one = sized_read a content c k all.0 in
    let more = chunks_read (a + 1 + length c) (content ++ c) cs k all.1 in (
      more.0,
      on_append (stand a (Open content) k) (length c ∷ c) (flat_map chunk_bytes cs)
          ∙ ap (λ (p : Progress). read_on p (flat_map chunk_bytes cs)) one ∙ more.1
          ∙ ap (λ (x : List ℕ). stand more.0 (Open x) k) (append_assoc content c (flat_map (λ chunk. chunk) cs)),
    )

-- ---- the header

pub head_read : (a h : ℕ) (hs : List ℕ) (k : Known) → (b : ℕ) × (read_on (stand a (Head h hs) k) (h ∷ hs) ≡ stand b (Open []) k)
head_read a h [] k = (a + 1, ap (λ (s : Stage). stand (a + 1) s k) (if_true (nat_eq h h) (behind_head []) (Bad (item_place a)) (self_eq h)))
head_read a h (g ∷ gs) k =
    let more = head_read (a + 1) g gs k in
    (more.0, ap (λ (s : Stage). read_on (stand (a + 1) s k) (g ∷ gs)) (if_true (nat_eq h h) (behind_head (g ∷ gs)) (Bad (item_place a)) (self_eq h)) ∙ more.1)

-- ---- a closing

void_read : (a : ℕ) (content : List ℕ) (k : Known) → read_on (stand a (Open content) k) void_end ≡ stand (a + 1 + 1) (Open []) k
void_read a content k = refl

abbrev Whole : Known → Progress → Type 0
Whole k p = IsWhole p × (p.known ≡ k)

is_whole : (a : ℕ) (k : Known) (p : Progress) → p ≡ stand a (Open []) k → Whole k p
is_whole a k p e = (ap (λ (q : Progress). q.stage) e, ap (λ (q : Progress). q.known) e)

pub closing_read : (a : ℕ) (s : Stage) (k : Known) → is_bad s ≡ false → Whole k (read_on (stand a s k) (closing_of s))
closing_read a (Head h hs) k good = let r = head_read a h hs k in is_whole r.0 k (read_on (stand a (Head h hs) k) (h ∷ hs)) r.1
closing_read a (Open []) k good = (refl, refl)
closing_read a (Open (b ∷ bs)) k good = (refl, refl)
closing_read a (Chunk n content) k good =
    let zeros = replicate (suc n) 0 in
    let e = on_append (stand a (Chunk n content) k) zeros void_end
    ∙ ap (λ (p : Progress). read_on p void_end) (chunk_read a n content zeros k (length-replicate (suc n) 0)) in
    is_whole (a + length zeros + 1 + 1) k (read_on (stand a (Chunk n content) k) (zeros ++ void_end)) e
closing_read a (Ended content) k good = (refl, refl)
closing_read a (Bad b) k good = absurd cc

-- ---- beginnings

bad_step : (s : Stage) (p : Progress) (b : ℕ) → is_bad s ≡ true → is_bad (step_in s p b).stage ≡ true
bad_step (Head h hs) p b e = absurd cc
bad_step (Open content) p b e = absurd cc
bad_step (Chunk n content) p b e = absurd cc
bad_step (Ended content) p b e = absurd cc
bad_step (Bad at) p b e = refl

pub bad_stays : (p : Progress) (bytes : List ℕ) → is_bad p.stage ≡ true → is_bad (read_on p bytes).stage ≡ true
bad_stays p [] e = e
bad_stays p (b ∷ bs) e = bad_stays (step p b) bs (bad_step p.stage p b e)

not_bad : (b : Bool) (p : Progress) (bytes : List ℕ) → b ≡ is_bad p.stage → is_bad (read_on p bytes).stage ≡ false → is_bad p.stage ≡ false
not_bad true p bytes e f = let g = bad_stays p bytes (sym e) in absurd cc
not_bad false p bytes e f = sym e

pub read_before : (p : Progress) (bytes : List ℕ) → IsRead (read_on p bytes) → IsRead p
read_before p bytes f = not_bad (is_bad p.stage) p bytes refl f

begins_self : {A : Type 0} (xs : List A) → Begins xs xs
begins_self xs = record { more = []; is = sym (append-nil xs) }

begins_then : {A : Type 0} (xs ys zs : List A) → Begins xs ys → Begins ys zs → Begins xs zs
begins_then xs ys zs a b = record { more = a.more ++ b.more; is = b.is ∙ ap (λ (l : _). l ++ b.more) a.is ∙ append_assoc xs a.more b.more }

pub says_self : (p q : Progress) → q.known ≡ p.known → SaysFirst p q
says_self p q e = record {
  classes = subst (λ (k : Known). Begins p.known.classes k.classes) (sym e) (begins_self p.known.classes);
  records = subst (λ (k : Known). Begins p.known.records k.records) (sym e) (begins_self p.known.records);
}

pub says_then : (p q r : Progress) → SaysFirst p q → SaysFirst q r → SaysFirst p r
says_then p q r a b = record {
  classes = begins_then p.known.classes q.known.classes r.known.classes a.classes b.classes;
  records = begins_then p.known.records q.known.records r.known.records a.records b.records;
}

kept_first : (b : Bool) (known : Known) (r : _) → Begins known.records (if b then with_record known r else known).records × Begins known.classes (if b then with_record known r else known).classes
kept_first true known r = (record { more = r ∷ []; is = refl }, begins_self known.classes)
kept_first false known r = (begins_self known.records, begins_self known.classes)

item_first : (p : Progress) (o : Option Item) → SaysFirst p (behind_good p o)
item_first p None = says_self p (behind_good p None) refl
item_first p (Some (ClassFile class)) = record { classes = record { more = class ∷ []; is = refl }; records = begins_self p.known.records }
item_first p (Some (Run version r)) = let f = kept_first (is_kept version r) p.known r in record { classes = f.1; records = f.0 }

mark_first : (p : Progress) (content : List ℕ) (good void : Bool) → SaysFirst p (if good then behind_good p (item_of p.known.classes content) else if void then moved p (Open []) else moved p (Bad p.at))
mark_first p content true void = item_first p (item_of p.known.classes content)
mark_first p content false true = says_self p (moved p (Open [])) refl
mark_first p content false false = says_self p (moved p (Bad p.at)) refl

step_first : (s : Stage) (p : Progress) (b : ℕ) → SaysFirst p (step_in s p b)
step_first (Head h hs) p b = says_self p (step_in (Head h hs) p b) refl
step_first (Open content) p b = says_self p (step_in (Open content) p b) refl
step_first (Chunk n content) p b = says_self p (step_in (Chunk n content) p b) refl
step_first (Ended content) p b = mark_first p content (b == 1) (b == 2)
step_first (Bad at) p b = says_self p (step_in (Bad at) p b) refl

pub says_first : (p : Progress) (bytes : List ℕ) → SaysFirst p (read_on p bytes)
says_first p [] = says_self p p refl
says_first p (b ∷ bs) = says_then p (step p b) (read_on (step p b) bs) (step_first p.stage p b) (says_first (step p b) bs)
