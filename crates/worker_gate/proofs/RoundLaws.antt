-- Cells drawn round by round: each once, those of a mutant in their order.
use Rattle.std.proofs.Common.{◌≡◌, ◌∙◌, sym, refl, ap, ℕ, zero, suc, ◌+◌, ◌<◌, ◌≤◌, List, [], ◌∷◌, ◌++◌, map, length, eqb, Bool, true, false, ◌||◌, Option, Some, None, slice_get, eq-eqb, eqb-true, arith}
use Rattle.std.specs.Prelude.{not, if◌then◌else◌}
use Rattle.std.specs.List.{list_any, IsDistinct, AllByRecursion}
use Rattle.std.proofs.lemmas.List.{length-map}
use Rattle.std.proofs.lemmas.Map.Steps.{length-le_from_distinct_below, le-length_from_below}
use Rattle.std.proofs.lemmas.Option.{slice_get_within}
use Rattle.claim_core.specs.Ending.{Cell}
use Rattle.job_rules.specs.Worked.{IsOrderOf}
use Rattle.worker_gate.specs.Ends.{mutant_at}
use Rattle.worker_gate.specs.Rounds.{StandByMutant, same_numbers, goes_on, round_of, is_first, AreFirsts, Grows, AreRounds}

-- ---- items by place

some_same : (a b : ℕ) → Some a ≡ Some b → a ≡ b
some_same a b h = cc

none_some : (a : ℕ) → None ≡ Some a → ⊥
none_some a h = cc

-- an item of a list with one more behind it
data Placed (xs : List ℕ) (x n d : ℕ) : Type 0 where
  was : slice_get xs d ≡ Some n → d < length xs → Placed xs x n d
  ends : n ≡ x → d ≡ length xs → Placed xs x n d

placed_more : (y : ℕ) (xs : List ℕ) (x n d : ℕ) → Placed xs x n d → Placed (y ∷ xs) x n (suc d)
placed_more y xs x n d (was at lt) = was at (omega (arith, lt))
placed_more y xs x n d (ends is end) = ends is (ap suc end)

placed : (xs : List ℕ) (x n d : ℕ) → slice_get (xs ++ x ∷ []) d ≡ Some n → Placed xs x n d
placed [] x n zero h = ends (sym (some_same x n h)) refl
placed [] x n (suc d) h = absurd (none_some n h)
placed (y ∷ xs) x n zero h = was h (omega arith)
placed (y ∷ xs) x n (suc d) h = placed_more y xs x n d (placed xs x n d h)

stays : (xs : List ℕ) (x n d : ℕ) → slice_get xs d ≡ Some n → slice_get (xs ++ x ∷ []) d ≡ Some n
stays [] x n d h = absurd (none_some n h)
stays (y ∷ xs) x n zero h = h
stays (y ∷ xs) x n (suc d) h = stays xs x n d h

at_end : (xs : List ℕ) (x : ℕ) → slice_get (xs ++ x ∷ []) (length xs) ≡ Some x
at_end [] x = refl
at_end (y ∷ xs) x = at_end xs x

below : (xs : List ℕ) (n y : ℕ) → slice_get xs (suc n) ≡ Some y → (x : ℕ) × (slice_get xs n ≡ Some x)
below [] n y h = absurd (none_some y h)
below (z ∷ xs) zero y h = (z, refl)
below (z ∷ xs) (suc n) y h = below xs n y h

split_last : {X : Type 0} (a b : ℕ) → a < suc b → (a < b → X) → (a ≡ b → X) → X
split_last zero zero l less same = same refl
split_last (suc a) zero l less same = absurd (omega (arith, l))
split_last zero (suc b) l less same = less (omega arith)
split_last (suc a) (suc b) l less same = split_last a b (omega (arith, l)) (λ k. less (omega (arith, k))) (λ e. same (ap suc e))

neither : (a b : ℕ) → (a < b → ⊥) → (b < a → ⊥) → a ≡ b
neither zero zero l r = refl
neither zero (suc b) l r = absurd (l (omega arith))
neither (suc a) zero l r = absurd (r (omega arith))
neither (suc a) (suc b) l r = ap suc (neither a b (λ k. l (omega (arith, k))) (λ k. r (omega (arith, k))))

by_bool : {X : Type 0} (b : Bool) → (b ≡ true → X) → (b ≡ false → X) → X
by_bool true t f = t refl
by_bool false t f = f refl

not_both : (b : Bool) → b ≡ true → b ≡ false → ⊥
not_both b t f = let e : true ≡ false = sym t ∙ f in absurd cc

-- ---- cells of one mutant

goes_case : (ms : List ℕ) (n : ℕ) (o : Option ℕ) → slice_get ms (suc n) ≡ o → same_numbers (slice_get ms n) o ≡ true → suc n < length ms
goes_case ms n None is h = absurd (none_case (slice_get ms n) h)
  where
    none_case : (a : Option ℕ) → same_numbers a None ≡ true → ⊥
    none_case None e = absurd cc
    none_case (Some x) e = absurd cc
goes_case ms n (Some y) is h = slice_get_within ms (suc n) y is

goes_within : (ms : List ℕ) (n : ℕ) → goes_on ms n ≡ true → suc n < length ms
goes_within ms n h = goes_case ms n (slice_get ms (suc n)) refl h

goes_same : (ms : List ℕ) (n a : ℕ) → slice_get ms n ≡ Some a → slice_get ms (suc n) ≡ Some a → goes_on ms n ≡ true
goes_same ms n a h k = ap (λ o. same_numbers o (slice_get ms (suc n))) h ∙ ap (same_numbers (Some a)) k ∙ eq-eqb a a refl

first_goes : (ms : List ℕ) (n : ℕ) → is_first ms (suc n) ≡ true → goes_on ms n ≡ true → ⊥
first_goes ms n f g = let e : true ≡ false = sym f ∙ ap not g in absurd cc

first_not : (ms : List ℕ) (n : ℕ) → goes_on ms n ≡ false → is_first ms (suc n) ≡ true
first_not ms n h = ap not h

round_next : (ms : List ℕ) (n : ℕ) → goes_on ms n ≡ true → round_of ms (suc n) ≡ suc (round_of ms n)
round_next ms n h = ap (λ b. if b then suc (round_of ms n) else 0) h

first_round : (ms : List ℕ) (n : ℕ) → is_first ms n ≡ true → round_of ms n ≡ 0
first_round ms zero h = refl
first_round ms (suc n) h =
    by_bool (goes_on ms n) (λ t. absurd (first_goes ms n h t)) (λ f. ap (λ b. if b then suc (round_of ms n) else 0) f)

-- ---- first cells

pub firsts_none : (ms : List ℕ) → AreFirsts ms 0 []
firsts_none ms = record {
  within = λ d m h. absurd (none_some m h);
  ascend = λ d e m k h. absurd (none_some m h);
  each = λ m lt. absurd (omega (arith, lt));
}

module _ (ms order : List ℕ) (n : ℕ) (f : AreFirsts ms n order) where
  pub firsts_pass : is_first ms n ≡ false → AreFirsts ms (suc n) order
  firsts_pass stop = record {
    within = λ d m h. let w = f.within d m h in let lt = w.0 in (omega (arith, lt), w.1);
    ascend = f.ascend;
    each = λ m lt is. split_last m n lt (λ less. f.each m less is) (λ same. absurd (not_both (is_first ms m) is (ap (is_first ms) same ∙ stop)));
  }

  more_within : is_first ms n ≡ true → (d m : ℕ) → Placed order n m d → (m < suc n) × (is_first ms m ≡ true)
  more_within is d m (was at lt) = let w = f.within d m at in let less = w.0 in (omega (arith, less), w.1)
  more_within is d m (ends same end) = (omega (arith, same), ap (is_first ms) same ∙ is)

  more_ascend : (d e m k : ℕ) → Placed order n m d → Placed order n k e → d < e → m < k
  more_ascend d e m k (was a p) (was b q) lt = f.ascend d e m k a b lt
  more_ascend d e m k (was a p) (ends same end) lt = let less = (f.within d m a).0 in omega (arith, less, same)
  more_ascend d e m k (ends same end) (was b q) lt = absurd (omega (arith, end, q, lt))
  more_ascend d e m k (ends same end) (ends other last) lt = absurd (omega (arith, end, last, lt))

  pub firsts_push : is_first ms n ≡ true → AreFirsts ms (suc n) (order ++ n ∷ [])
  firsts_push is = record {
    within = λ d m h. more_within is d m (placed order n m d h);
    ascend = λ d e m k a b lt. more_ascend d e m k (placed order n m d a) (placed order n k e b) lt;
    each = λ m lt first. split_last m n lt
        (λ less. let o = f.each m less first in (o.0, stays order n m o.0 o.1))
        (λ same. (length order, at_end order n ∙ ap Some (sym same)));
  }

-- ---- the next cells

pub grows_start : (ms order : List ℕ) → AreFirsts ms (length ms) order → Grows ms 0 order
grows_start ms order f = record {
  within = λ e n h. (f.within e n h).0;
  once = λ e g n a b. neither e g (λ lt. let l = f.ascend e g n n a b lt in omega (arith, l)) (λ lt. let l = f.ascend g e n n b a lt in omega (arith, l));
  firsts = f.each;
  next = λ e n lt. absurd (omega (arith, lt));
  came = λ e n h goes. absurd (first_goes ms n (f.within e (suc n) h).1 goes);
  mono = λ e g m n a b lt. let none = first_round ms m (f.within e m a).1 in omega (arith, none);
  ahead = λ e g m n a b le. let none = first_round ms m (f.within e m a).1 in omega (arith, none);
}

module _ (ms order : List ℕ) (d : ℕ) (g : Grows ms d order) where
  pub grow_past : length order ≤ d → Grows ms (suc d) order
  grow_past past = record {
    within = g.within;
    once = g.once;
    firsts = g.firsts;
    next = λ e n lt h goes. let less = slice_get_within order e n h in g.next e n (omega (arith, less, past)) h goes;
    came = λ e n h goes. let o = g.came e n h goes in let lt = o.2 in (o.0, o.1, omega (arith, lt), o.3);
    mono = g.mono;
    ahead = λ e f m n a b le. g.ahead e f m n a b (omega (arith, le));
  }

  module _ (c : ℕ) (at : slice_get order d ≡ Some c) where
    pub grow_stop : goes_on ms c ≡ false → Grows ms (suc d) order
    grow_stop stop = record {
      within = g.within;
      once = g.once;
      firsts = g.firsts;
      next = λ e n lt h goes. split_last e d lt (λ less. g.next e n less h goes)
          (λ same. let is = some_same c n (sym at ∙ ap (slice_get order) (sym same) ∙ h) in absurd (not_both (goes_on ms n) goes (ap (goes_on ms) (sym is) ∙ stop)));
      came = λ e n h goes. let o = g.came e n h goes in let lt = o.2 in (o.0, o.1, omega (arith, lt), o.3);
      mono = g.mono;
      ahead = λ e f m n a b le. g.ahead e f m n a b (omega (arith, le));
    }

    module _ (yes : goes_on ms c ≡ true) where
      d_within : d < length order
      d_within = slice_get_within order d c at

      never_yet : (e : ℕ) → slice_get order e ≡ Some (suc c) → ⊥
      never_yet e h =
          let o = g.came e c h yes in
          let same = g.once o.0 d c o.3 at in
          let lt = o.2 in
          absurd (omega (arith, same, lt))

      step : round_of ms (suc c) ≡ suc (round_of ms c)
      step = round_next ms c yes

      m_within : (e n : ℕ) → Placed order (suc c) n e → n < length ms
      m_within e n (was h lt) = g.within e n h
      m_within e n (ends same end) = let lt = goes_within ms c yes in omega (arith, lt, same)

      m_once : (e f n : ℕ) → Placed order (suc c) n e → Placed order (suc c) n f → e ≡ f
      m_once e f n (was a p) (was b q) = g.once e f n a b
      m_once e f n (was a p) (ends same end) = absurd (never_yet e (a ∙ ap Some same))
      m_once e f n (ends same end) (was b q) = absurd (never_yet f (b ∙ ap Some same))
      m_once e f n (ends same end) (ends other last) = end ∙ sym last

      m_next : (e n : ℕ) → e < suc d → Placed order (suc c) n e → goes_on ms n ≡ true → (f : ℕ) × (e < f) × (slice_get (order ++ suc c ∷ []) f ≡ Some (suc n))
      m_next e n lt (was h p) goes = split_last e d lt
          (λ less. let o = g.next e n less h goes in (o.0, o.1, stays order (suc c) (suc n) o.0 o.2))
          (λ same. let is = some_same c n (sym at ∙ ap (slice_get order) (sym same) ∙ h) in (length order, p, at_end order (suc c) ∙ ap (λ k. Some (suc k)) is))
      m_next e n lt (ends same end) goes = let w = d_within in absurd (omega (arith, lt, end, w))

      m_came : (e n : ℕ) → Placed order (suc c) (suc n) e → goes_on ms n ≡ true → (f : ℕ) × (f < e) × (f < suc d) × (slice_get (order ++ suc c ∷ []) f ≡ Some n)
      m_came e n (was h p) goes =
          let o = g.came e n h goes in
          let lt = o.2 in
          (o.0, o.1, omega (arith, lt), stays order (suc c) n o.0 o.3)
      m_came e n (ends same end) goes =
          let w = d_within in
          let is : c ≡ n = omega (arith, same) in
          (d, omega (arith, w, end), omega arith, stays order (suc c) n d (at ∙ ap Some is))

      m_mono : (e f m n : ℕ) → Placed order (suc c) m e → Placed order (suc c) n f → e < f → round_of ms m ≤ round_of ms n
      m_mono e f m n (was a p) (was b q) lt = g.mono e f m n a b lt
      m_mono e f m n (was a p) (ends same end) lt =
          let le = g.ahead e d m c a at (omega arith) in
          let is : round_of ms n ≡ suc (round_of ms c) = ap (round_of ms) same ∙ step in
          omega (arith, le, is)
      m_mono e f m n (ends same end) (was b q) lt = absurd (omega (arith, end, q, lt))
      m_mono e f m n (ends same end) (ends other last) lt = absurd (omega (arith, end, last, lt))

      m_ahead : (e f m n : ℕ) → Placed order (suc c) m e → Placed order (suc c) n f → suc d ≤ f → round_of ms m ≤ suc (round_of ms n)
      m_ahead e f m n (was a p) (was b q) le = g.ahead e f m n a b (omega (arith, le))
      m_ahead e f m n (was a p) (ends same end) le =
          let most = g.ahead e d m c a at (omega arith) in
          let is : round_of ms n ≡ suc (round_of ms c) = ap (round_of ms) same ∙ step in
          omega (arith, most, is)
      m_ahead e f m n (ends same end) (was b q) le =
          let least = g.mono d f c n at b (omega (arith, le)) in
          let is : round_of ms m ≡ suc (round_of ms c) = ap (round_of ms) same ∙ step in
          omega (arith, least, is)
      m_ahead e f m n (ends same end) (ends other last) le =
          let is : round_of ms m ≡ round_of ms n = ap (round_of ms) (same ∙ sym other) in
          omega (arith, is)

      pub grow_more : Grows ms (suc d) (order ++ suc c ∷ [])
      grow_more = record {
        within = λ e n h. m_within e n (placed order (suc c) n e h);
        once = λ e f n a b. m_once e f n (placed order (suc c) n e a) (placed order (suc c) n f b);
        firsts = λ n lt is. (let o = g.firsts n lt is in (o.0, stays order (suc c) n o.0 o.1));
        next = λ e n lt h goes. m_next e n lt (placed order (suc c) n e h) goes;
        came = λ e n h goes. m_came e n (placed order (suc c) (suc n) e h) goes;
        mono = λ e f m n a b lt. m_mono e f m n (placed order (suc c) m e a) (placed order (suc c) n f b) lt;
        ahead = λ e f m n a b le. m_ahead e f m n (placed order (suc c) m e a) (placed order (suc c) n f b) le;
      }

-- ---- each cell once

any_place : (q : ℕ) (xs : List ℕ) → list_any (eqb q) xs ≡ true → (e : ℕ) × (slice_get xs e ≡ Some q)
any_place q [] h = absurd cc
any_place q (x ∷ xs) h = by_bool (eqb q x)
    (λ t. (0, ap Some (sym (eqb-true q x t))))
    (λ f. let o = any_place q xs (sym (ap (λ b. b || list_any (eqb q) xs) f) ∙ h) in (suc o.0, o.1))

place_any : (q : ℕ) (xs : List ℕ) (e : ℕ) → slice_get xs e ≡ Some q → list_any (eqb q) xs ≡ true
place_any q [] e h = absurd (none_some q h)
place_any q (x ∷ xs) zero h = ap (λ b. b || list_any (eqb q) xs) (eq-eqb q x (sym (some_same x q h)))
place_any q (x ∷ xs) (suc e) h = by_bool (eqb q x)
    (λ t. ap (λ b. b || list_any (eqb q) xs) t)
    (λ f. ap (λ b. b || list_any (eqb q) xs) f ∙ place_any q xs e h)

apart_of : (x : ℕ) (xs : List ℕ) → ((e : ℕ) → slice_get xs e ≡ Some x → ⊥) → AllByRecursion (λ y. eqb x y ≡ false) xs
apart_of x [] h = tt
apart_of x (y ∷ xs) h = (by_bool (eqb x y) (λ t. absurd (h 0 (ap Some (sym (eqb-true x y t))))) (λ f. f), apart_of x xs (λ e. h (suc e)))

distinct_of : (xs : List ℕ) → ((e f n : ℕ) → slice_get xs e ≡ Some n → slice_get xs f ≡ Some n → e ≡ f) → IsDistinct eqb xs
unfolding IsDistinct
distinct_of [] h = tt
distinct_of (x ∷ xs) h = (apart_of x xs (λ e at. let same = h 0 (suc e) x refl at in absurd (omega (arith, same))), distinct_of xs (λ e f n a b. let same = h (suc e) (suc f) n a b in omega (arith, same)))

module _ (ms order : List ℕ) (by_mutant : StandByMutant ms) (g : Grows ms (length ms) order) where
  few : length order ≤ length ms
  few = length-le_from_distinct_below order (length ms) (distinct_of order g.once) (λ q h. let o = any_place q order h in g.within o.0 q o.1)

  is_drawn : (n : ℕ) → n < length ms → (e : ℕ) × (slice_get order e ≡ Some n)
  is_drawn zero lt = g.firsts zero lt refl
  is_drawn (suc n) lt = by_bool (goes_on ms n)
      (λ t. let o = is_drawn n (omega (arith, lt)) in
      let within = slice_get_within order o.0 n o.1 in
      let less = few in
      let f = g.next o.0 n (omega (arith, within, less)) o.1 t in (f.0, f.2))
      (λ stop. g.firsts (suc n) lt (first_not ms n stop))

  many : length ms ≤ length order
  many = le-length_from_below order (length ms) (λ q lt. let o = is_drawn q lt in place_any q order o.0 o.1)

  -- Mutants don't fall along the cells.
  rises : (k m n a b : ℕ) → n ≡ k + m → slice_get ms m ≡ Some a → slice_get ms n ≡ Some b → a ≤ b
  rises zero m n a b is h i = let same = some_same a b (sym h ∙ ap (slice_get ms) (let e : m ≡ n = omega (arith, is) in e) ∙ i) in omega (arith, same)
  rises (suc k) m zero a b is h i = absurd (omega (arith, is))
  rises (suc k) m (suc n) a b is h i =
      let o = below ms n b i in
      let first = rises k m n a o.0 (omega (arith, is)) h o.1 in
      let last = by_mutant n o.0 b o.1 i in
      omega (arith, first, last)

  -- Cells of one mutant are drawn in their order.
  in_order : (k m n d e a : ℕ) → n ≡ suc (k + m) → slice_get order d ≡ Some m → slice_get order e ≡ Some n → slice_get ms m ≡ Some a → slice_get ms n ≡ Some a → d < e
  in_order k m zero d e a is h i p q = absurd (omega (arith, is))
  in_order zero m (suc n) d e a is h i p q =
      let same : n ≡ m = omega (arith, is) in
      let goes = goes_same ms n a (ap (slice_get ms) same ∙ p) q in
      let o = g.came e n i goes in
      let one = g.once d o.0 m h (o.3 ∙ ap Some same) in
      let lt = o.1 in
      omega (arith, one, lt)
  in_order (suc k) m (suc n) d e a is h i p q =
      let x = below ms n a q in
      let low = rises (suc k) m n a x.0 (omega (arith, is)) p x.1 in
      let high = by_mutant n x.0 a x.1 q in
      let same : x.0 ≡ a = omega (arith, low, high) in
      let at : slice_get ms n ≡ Some a = x.1 ∙ ap Some same in
      let o = g.came e n i (goes_same ms n a at q) in
      let before = in_order k m n d o.0 a (omega (arith, is)) h o.3 p at in
      let lt = o.1 in
      omega (arith, before, lt)

  mutant_get : (cells : List Cell) (n : ℕ) (c : Cell) → slice_get cells n ≡ Some c → slice_get (map mutant_at cells) n ≡ Some c.mutant
  mutant_get [] n c h = absurd cc
  mutant_get (x ∷ cells) zero c h = let same : x ≡ c = cc in ap (λ (y : Cell). Some y.mutant) same
  mutant_get (x ∷ cells) (suc n) c h = mutant_get cells n c h

  order_of : (cells : List Cell) → map mutant_at cells ≡ ms → IsOrderOf cells order
  order_of cells are =
      let long : length ms ≡ length cells = ap length (sym are) ∙ length-map cells mutant_at in
      let le = few in
      let ge = many in
      let at : (n : ℕ) (c : Cell) → slice_get cells n ≡ Some c → slice_get ms n ≡ Some c.mutant = λ n c h. ap (λ l. slice_get l n) (sym are) ∙ mutant_get cells n c h in
      record {
        count = omega (arith, long, le, ge);
        within = λ d n h. (let lt = g.within d n h in omega (arith, lt, long));
        each = λ n lt. is_drawn n (omega (arith, lt, long));
        once = g.once;
        ascends = λ d e m n b c hd he hb hc same lt. (let k = gap m n lt in in_order k.0 m n d e b.mutant k.1 hd he (at m b hb) (at n c hc ∙ ap Some (sym same)));
      }
    where
      gap : (m n : ℕ) → m < n → (k : ℕ) × (n ≡ suc (k + m))
      gap m zero lt = absurd (omega (arith, lt))
      gap zero (suc n) lt = (n, omega arith)
      gap (suc m) (suc n) lt = let k = gap m n (omega (arith, lt)) in let is = k.1 in (k.0, omega (arith, is))

  pub rounds_are : AreRounds ms order
  rounds_are = record { order_is = order_of; rounds = λ d e m n. g.mono d e m n }
