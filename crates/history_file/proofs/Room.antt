-- There are no more texts than bytes that were read.
use Rattle.std.proofs.Common.{◌≡◌, ◌∙◌, ℕ, zero, suc, ◌+◌, ◌-◌, ◌<◌, ◌≤◌, ◌^◌, Bool, true, false, cond, List, [], ◌∷◌, length, take, drop, Option, None, Result, Ok, Err, refl, sym, ap, subst, arith}
use Rattle.std.specs.Prelude.{◌==◌, nat_lt, if◌then◌else◌}
use Rattle.std.specs.Int.{Width, w16, w32, byte_len}
use Rattle.std.proofs.lemmas.List.{length-drop, length-take-le, drop-drop}
use Rattle.std.proofs.lemmas.Bool.{ltb-false}
use Rattle.codec_rules.specs.Input.{Input, behind}
use Rattle.codec_rules.specs.Reading.{bytes_at, number_at}
use Rattle.codec_rules.specs.Sequence.{◌>>=◌, or_fault}
use Rattle.codec_rules.proofs.Sequence.{bind_ok, ok_is}
use Rattle.history_rules.specs.declared.fault.HistoryFault.{HistoryFault}
use Rattle.history_rules.specs.declared.fault.HistoryFault.TheVariants.{HistoryBad}
use Rattle.history_rules.specs.Items.{FileReader, u2_at, u4_at, take_at, where_at, many_by, counted_by}
use Rattle.history_rules.specs.Entries as history
use Rattle.history_rules.specs.Entries.{is_place, is_line_behind, pair_at, with_pair}
use Rattle.history_rules.specs.Reading.{pairs_at}
use Rattle.history_rules.specs.Classes.{class_at, is_other_class, with_class}
use Rattle.history_rules.specs.Histories.{magic, is_version}
use Rattle.history_file.specs.declared.texts.Texts.{Texts}
use Rattle.history_file.specs.Texts.{texts_of, HasRoom}
use Rattle.history_file.specs.Files.{head_at, IsIn}
use Rattle.history_file.specs.declared.head.Head.{Head}

-- A place is behind another one of the same file.
pub record Onward (from to : Input) : Type 0 where
  pub at : from.at ≤ to.at
  pub end : to.at + length to.bytes ≡ from.at + length from.bytes
  pub rest : to.bytes ≡ drop (to.at - from.at) from.bytes

onward_same : (i : Input) → Onward i i
onward_same i = record { at = omega arith; end = refl; rest = (let z : i.at - i.at ≡ 0 = omega arith in sym (ap (λ (n : ℕ). drop n i.bytes) z)) }

onward_on : (i j k : Input) → Onward i j → Onward j k → Onward i k
onward_on i j k a b =
    let x = a.at in
    let y = b.at in
    let sum : (j.at - i.at) + (k.at - j.at) ≡ k.at - i.at = omega (arith, x, y) in
    record {
      at = omega (arith, x, y);
      end = b.end ∙ a.end;
      rest = b.rest ∙ ap (drop (k.at - j.at)) a.rest ∙ drop-drop (k.at - j.at) (j.at - i.at) i.bytes ∙ ap (λ (n : ℕ). drop n i.bytes) sum;
    }

-- so is what is left of the file
pub onward_in : (file : List ℕ) (i j : Input) → Onward i j → IsIn file i → IsIn file j
onward_in file i j o h =
    let a = o.at in
    let e = o.end in
    let w = h.within in
    let l : length i.bytes ≡ length file - i.at = ap length h.rest ∙ length-drop i.at file in
    let sum : i.at + (j.at - i.at) ≡ j.at = omega (arith, a) in
    record {
      within = omega (arith, a, e, w, l);
      rest = o.rest ∙ ap (drop (j.at - i.at)) h.rest ∙ drop-drop (j.at - i.at) i.at file ∙ ap (λ (n : ℕ). drop n file) sum;
    }

room_kept : (t : Texts) (i j : Input) → Onward i j → HasRoom t i → HasRoom t j
room_kept t i j o h = let a = o.at in let b = o.end in let c = h.texts in let d = h.short in record { texts = omega (arith, a, c); short = omega (arith, b, d) }

not_refused : {F A : Type 0} (b : Bool) (fault : F) (x y : A) → cond b (Err fault) (Ok x) ≡ Ok y → (b ≡ false) × (x ≡ y)
not_refused true fault x y e = absurd cc
not_refused {F} false fault x y e = (refl, ok_is {F = F} x y e)

behind_onward : (n : ℕ) (i : Input) → n ≤ length i.bytes → Onward i (behind n i) × ((behind n i).at ≡ i.at + n)
behind_onward n i le =
    let d = length-drop n i.bytes in
    let by : i.at + n - i.at ≡ n = omega arith in
    (record { at = omega arith; end = omega (arith, d, le); rest = sym (ap (λ (k : ℕ). drop k i.bytes) by) }, refl)

-- a number was read
pub number_moves : (w : Width) (i j : Input) (n : ℕ) → number_at w i ≡ Ok (n, j) → Onward i j × (j.at ≡ i.at + byte_len w)
number_moves w i j n e =
    let p = not_refused (nat_lt (length i.bytes) (byte_len w)) i.at (_, behind (byte_len w) i) (n, j) e in
    let le : byte_len w ≤ length i.bytes = ltb-false (length i.bytes) (byte_len w) p.0 in
    subst (λ (k : Input). Onward i k × (k.at ≡ i.at + byte_len w)) (ap (λ (x : ℕ × Input). x.1) p.1) (behind_onward (byte_len w) i le)

-- bytes were read
pub bytes_move : (count : ℕ) (i j : Input) (bytes : List ℕ) → bytes_at count i ≡ Ok (bytes, j) → Onward i j
bytes_move count i j bytes e =
    let p = not_refused (nat_lt (length i.bytes) count) i.at (_, behind count i) (bytes, j) e in
    let le : count ≤ length i.bytes = ltb-false (length i.bytes) count p.0 in
    subst (λ (k : Input). Onward i k) (ap (λ (x : List ℕ × Input). x.1) p.1) (behind_onward count i le).0

-- they are as many as were asked for
pub bytes_taken : (count : ℕ) (i j : Input) (bytes : List ℕ) → bytes_at count i ≡ Ok (bytes, j) → (length bytes ≡ count) × (length bytes + length j.bytes ≡ length i.bytes)
bytes_taken count i j bytes e =
    let p = not_refused (nat_lt (length i.bytes) count) i.at (take count i.bytes, behind count i) (bytes, j) e in
    let le : count ≤ length i.bytes = ltb-false (length i.bytes) count p.0 in
    let a : length bytes ≡ count = sym (ap (λ (x : List ℕ × Input). length x.0) p.1) ∙ length-take-le count i.bytes le in
    let b : length j.bytes ≡ length (drop count i.bytes) = sym (ap (λ (x : List ℕ × Input). length x.1.bytes) p.1) in
    let d = length-drop count i.bytes in
    (a, omega (arith, a, b, d, le))

pub number_room : (w : Width) (t : Texts) (i j : Input) (n : ℕ) → number_at w i ≡ Ok (n, j) → HasRoom t i → HasRoom t j
number_room w t i j n e h = room_kept t i j (number_moves w i j n e).0 h

-- a text's length was read, and there is room for one text more
pub room_for_one : (t : Texts) (i j : Input) (n : ℕ) → number_at w16 i ≡ Ok (n, j) → HasRoom t i → length (texts_of t) + 1 < 2 ^ 32
room_for_one t i j n e h =
    let m = number_moves w16 i j n e in
    let a = m.1 in
    let b = m.0.end in
    let c = h.texts in
    let d = h.short in
    let w : byte_len w16 ≡ 2 = refl in
    omega (arith, a, b, c, d, w)

pub text_room : (t u : Texts) (i j k : Input) (n count : ℕ) (bytes : List ℕ) → number_at w16 i ≡ Ok (n, j) → bytes_at count j ≡ Ok (bytes, k) → length (texts_of u) ≤ length (texts_of t) + 1 → HasRoom t i → HasRoom u k
text_room t u i j k n count bytes e f one h =
    let m = number_moves w16 i j n e in
    let b = bytes_move count j k bytes f in
    let a1 = m.1 in
    let a2 = m.0.end in
    let b1 = b.at in
    let b2 = b.end in
    let c = h.texts in
    let d = h.short in
    let w : byte_len w16 ≡ 2 = refl in
    record { texts = omega (arith, a1, b1, c, one, w); short = omega (arith, a2, b2, d) }

-- ---- what readers keep

abbrev Keeps : {A : Type 0} → FileReader A → Type 0
Keeps {A} read = (i : Input) (v : A) (j : Input) → read i ≡ Ok (v, j) → Onward i j

pub told_number : (w : Width) (i j : Input) (n : ℕ) → or_fault HistoryBad (number_at w i) ≡ Ok (n, j) → number_at w i ≡ Ok (n, j)
told_number w i j n e = by (number_at w i) e
  where
    by : (r : Result (ℕ × Input) ℕ) → or_fault HistoryBad r ≡ Ok (n, j) → r ≡ Ok (n, j)
    by (Ok x) e = ap (λ (y : ℕ × Input). Ok y) (ok_is {F = HistoryFault} x (n, j) e)
    by (Err at) e = absurd cc

keeps_number : (w : Width) → Keeps (λ i. or_fault HistoryBad (number_at w i))
keeps_number w i n j e = (number_moves w i j n (told_number w i j n e)).0

passed_test : {A : Type 0} (b : Bool) (x y : A) (fault : HistoryFault) → cond b (Ok x) (Err fault) ≡ Ok y → x ≡ y
passed_test true x y fault e = ok_is {F = HistoryFault} x y e
passed_test false x y fault e = absurd cc

keeps_where : {A : Type 0} (read : FileReader A) (test : A → Bool) → Keeps read → Keeps (where_at read test)
keeps_where {A} read test keeps i v j e =
    let b = bind_ok (read i) (λ x. if test x.0 then Ok x else Err (HistoryBad i.at)) (v, j) e in
    let same : b.0 ≡ (v, j) = passed_test (test b.0.0) b.0 (v, j) (HistoryBad i.at) b.2 in
    subst (λ (x : A × Input). Onward i x.1) same (keeps i b.0.0 b.0.1 b.1)

keeps_many : {S A : Type 0} (read : S → FileReader A) (next : S → A → S) → ((s : S) → Keeps (read s)) → (n : ℕ) (s : S) → Keeps (many_by read next s n)
unfolding many_by
keeps_many {S} {A} read next keeps zero s i vs j e = subst (λ (x : List A × Input). Onward i x.1) (ok_is {F = HistoryFault} ([], i) (vs, j) e) (onward_same i)
keeps_many {S} {A} read next keeps (suc n) s i vs j e =
    let a = bind_ok (read s i) (λ first. many_by read next (next s first.0) n first.1 >>= λ others. Ok (first.0 ∷ others.0, others.1)) (vs, j) e in
    let b = bind_ok (many_by read next (next s a.0.0) n a.0.1) (λ others. Ok (a.0.0 ∷ others.0, others.1)) (vs, j) a.2 in
    let x = keeps s i a.0.0 a.0.1 a.1 in
    let y = keeps_many read next keeps n (next s a.0.0) a.0.1 b.0.0 b.0.1 b.1 in
    subst (λ (z : List A × Input). Onward i z.1) (ok_is {F = HistoryFault} (a.0.0 ∷ b.0.0, b.0.1) (vs, j) b.2) (onward_on i a.0.1 b.0.1 x y)

keeps_pair : (es : List history.Entry) (last : Option (ℕ × ℕ)) → Keeps (pair_at es last)
unfolding pair_at
keeps_pair es last i v j e =
    let a = bind_ok (where_at u4_at (is_place es last) i) (λ place. where_at u2_at (is_line_behind last place.0) place.1 >>= λ line. Ok ((place.0, line.0), line.1)) (v, j) e in
    let b = bind_ok (where_at u2_at (is_line_behind last a.0.0) a.0.1) (λ line. Ok ((a.0.0, line.0), line.1)) (v, j) a.2 in
    let x = keeps_where u4_at (is_place es last) (keeps_number w32) i a.0.0 a.0.1 a.1 in
    let y = keeps_where u2_at (is_line_behind last a.0.0) (keeps_number w16) a.0.1 b.0.0 b.0.1 b.1 in
    subst (λ (z : (ℕ × ℕ) × Input). Onward i z.1) (ok_is {F = HistoryFault} ((a.0.0, b.0.0), b.0.1) (v, j) b.2) (onward_on i a.0.1 b.0.1 x y)

keeps_pairs : (es : List history.Entry) → Keeps (pairs_at es)
keeps_pairs es i vs j e =
    let a = bind_ok (u4_at i) (λ n. many_by (pair_at es) with_pair None n.0 n.1) (vs, j) e in
    onward_on i a.0.1 j (keeps_number w32 i a.0.0 a.0.1 a.1) (keeps_many (pair_at es) with_pair (keeps_pair es) a.0.0 None a.0.1 vs j a.2)

-- a number that has to pass a test
pub where_room : (t : Texts) (test : ℕ → Bool) (i j : Input) (n : ℕ) → where_at u4_at test i ≡ Ok (n, j) → HasRoom t i → HasRoom t j
where_room t test i j n e h = room_kept t i j (keeps_where u4_at test (keeps_number w32) i n j e) h

pub pairs_room : (t : Texts) (es : List history.Entry) (i j : Input) (ps : List (ℕ × ℕ)) → pairs_at es i ≡ Ok (ps, j) → HasRoom t i → HasRoom t j
pairs_room t es i j ps e h = room_kept t i j (keeps_pairs es i ps j e) h

-- ---- the front of a file

told_bytes : (n : ℕ) (i j : Input) (xs : List ℕ) → or_fault HistoryBad (bytes_at n i) ≡ Ok (xs, j) → bytes_at n i ≡ Ok (xs, j)
told_bytes n i j xs e = by (bytes_at n i) e
  where
    by : (r : Result (List ℕ × Input) ℕ) → or_fault HistoryBad r ≡ Ok (xs, j) → r ≡ Ok (xs, j)
    by (Ok x) e = ap (λ (y : List ℕ × Input). Ok y) (ok_is {F = HistoryFault} x (xs, j) e)
    by (Err at) e = absurd cc

keeps_bytes : (n : ℕ) → Keeps (take_at n)
keeps_bytes n i xs j e = bytes_move n i j xs (told_bytes n i j xs e)

keeps_class : (before : List (List ℕ)) → Keeps (class_at before)
unfolding class_at
keeps_class before i c j e =
    let a = bind_ok (u4_at i) (λ len. where_at (take_at len.0) (is_other_class before) len.1) (c, j) e in
    onward_on i a.0.1 j (keeps_number w32 i a.0.0 a.0.1 a.1) (keeps_where (take_at a.0.0) (is_other_class before) (keeps_bytes a.0.0) a.0.1 c j a.2)

pub classes_move : (i j : Input) (cs : List (List ℕ)) → counted_by class_at with_class [] i ≡ Ok (cs, j) → Onward i j
classes_move i j cs e =
    let a = bind_ok (u4_at i) (λ n. many_by class_at with_class [] n.0 n.1) (cs, j) e in
    onward_on i a.0.1 j (keeps_number w32 i a.0.0 a.0.1 a.1) (keeps_many class_at with_class keeps_class a.0.0 [] a.0.1 cs j a.2)

pub head_moves : (i j : Input) (head : Head) → head_at i ≡ Ok (head, j) → Onward i j
unfolding head_at
head_moves i j head e =
    let a = bind_ok (where_at u4_at (λ n. n == magic) i) (λ first. where_at u2_at is_version first.1 >>= λ version. u2_at version.1 >>= λ profile. Ok (record { version = version.0; profile = profile.0 }, profile.1)) (head, j) e in
    let b = bind_ok (where_at u2_at is_version a.0.1) (λ version. u2_at version.1 >>= λ profile. Ok (record { version = version.0; profile = profile.0 }, profile.1)) (head, j) a.2 in
    let c = bind_ok (u2_at b.0.1) (λ profile. Ok (record { version = b.0.0; profile = profile.0 }, profile.1)) (head, j) b.2 in
    let x = keeps_where u4_at (λ n. n == magic) (keeps_number w32) i a.0.0 a.0.1 a.1 in
    let y = keeps_where u2_at is_version (keeps_number w16) a.0.1 b.0.0 b.0.1 b.1 in
    let z = keeps_number w16 b.0.1 c.0.0 c.0.1 c.1 in
    subst (λ (k : Head × Input). Onward i k.1) (ok_is {F = HistoryFault} (record { version = b.0.0; profile = c.0.0 }, c.0.1) (head, j) c.2) (onward_on i b.0.1 c.0.1 (onward_on i a.0.1 b.0.1 x y) z)

-- a count was read
pub number_in : (w : Width) (file : List ℕ) (i j : Input) (n : ℕ) → number_at w i ≡ Ok (n, j) → IsIn file i → IsIn file j
number_in w file i j n e h = onward_in file i j (number_moves w i j n e).0 h

pub number_short : (w : Width) (i j : Input) (n : ℕ) → number_at w i ≡ Ok (n, j) → i.at + length i.bytes < 2 ^ 32 → j.at + length j.bytes < 2 ^ 32
number_short w i j n e h = let o = (number_moves w i j n e).0.end in omega (arith, o, h)
