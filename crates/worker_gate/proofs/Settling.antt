-- What workers left, taken apart and put together.
use Rattle.std.proofs.Common.{◌≡◌, ◌≢◌, ℕ, zero, suc, ◌+◌, ◌<◌, ◌≤◌, List, [], ◌∷◌, ◌++◌, Bool, true, false, ◌||◌, map, length, reverse, replicate, refl, sym, ap, ap₂, ◌∙◌, subst, arith, Option, Some, None, slice_set, slice_index_or, append_assoc, true≢false}
use Rattle.std.proofs.lemmas.List.{map-append}
use Rattle.std.specs.Option.{option_map}
use Rattle.atomic_table.specs.Seated.{TableId}
use Rattle.claim_core.specs.Agreement.{ClaimsAgree}
use Rattle.job_rules.specs.Ended.{cost_of_ends}
use Rattle.job_rules.specs.Gathered.{flat, put_all, cost_of_workers}
use Rattle.job_rules.specs.Worked.{DidCells, AllDid}
use Rattle.job_laws.proofs.Filled.{fills}
use Rattle.job_laws.proofs.Workers.{workers_end, one_skips}
use Rattle.mt_edge.specs.declared.outside.EdgeFault.TheVariants.{Memory as Wanting}
use Rattle.mutant_table.specs.Seats.{entries_of, claims_at}
use Rattle.mutant_table.specs.declared.rule.Sizes.{Sizes}
use Rattle.mutant_table.specs.declared.table.ClaimEnd.{ClaimEnd}
use Rattle.worker_gate.specs.Ends.{ended_of, numbered_of, ends_in, ends_alone}
use Rattle.worker_gate.specs.Hands.{Reading, Runs}
use Rattle.worker_gate.specs.Settled.{placed, CellList, Places, items_of, cells_in, seat_of, is_wanting, any_wanting, parts_of, AreLeft, IsTableFor, Settled}
use Rattle.worker_gate.specs.declared.ends.CellEnd.{CellEnd}
use Rattle.worker_gate.specs.declared.ends.WorkEnd.{WorkEnd}
use Rattle.worker_gate.proofs.Ready.{rev_push}

pub map_set : {X Y : Type 0} (f : X → Y) (xs : List X) (n : ℕ) (y : X) → map f (slice_set xs n y) ≡ slice_set (map f xs) n (f y)
map_set f [] n y = refl
map_set f (x ∷ xs) zero y = refl
map_set f (x ∷ xs) (suc n) y = ap (λ l. f x ∷ l) (map_set f xs n y)

long_map : {X Y : Type 0} (f : X → Y) (xs : List X) → length (map f xs) ≡ length xs
long_map f [] = refl
long_map f (x ∷ xs) = ap suc (long_map f xs)

-- a place past the end changes nothing
pub set_beyond : {X : Type 0} (xs : List X) (n : ℕ) (x : X) → length xs ≤ n → slice_set xs n x ≡ xs
set_beyond [] n x le = refl
set_beyond (y ∷ xs) zero x le = absurd (omega arith)
set_beyond (y ∷ xs) (suc n) x le = ap (λ l. y ∷ l) (set_beyond xs n x (omega arith))

-- ends that are put, read as the rules have them
put_mapped : {X Y : Type 0} (f : X → Y) (ps : List (ℕ × X)) (places : List (Option X)) → map (option_map f) (put_all ps places) ≡ put_all (map (λ p. (p.0, f p.1)) ps) (map (option_map f) places)
put_mapped f [] places = refl
put_mapped f (p ∷ ps) places =
    put_mapped f ps (slice_set places p.0 (Some p.1))
    ∙ ap (put_all (map (λ q. (q.0, f q.1)) ps)) (map_set (option_map f) places p.0 (Some p.1))

map_none : {X Y : Type 0} (f : X → Y) (n : ℕ) → map (option_map f) (replicate n None) ≡ replicate n None
map_none f zero = refl
map_none f (suc n) = ap (λ l. None ∷ l) (map_none f n)

flat_mapped : {X Y : Type 0} (f : X → Y) (lists : List (List X)) → map f (flat lists) ≡ flat (map (map f) lists)
flat_mapped f [] = refl
flat_mapped f (xs ∷ lists) = map-append f xs (flat lists) ∙ ap (λ l. map f xs ++ l) (flat_mapped f lists)

ends_mapped : {C M F Rec S : Type 0} (r : Reading M F Rec S) (es : List (WorkEnd C M F)) → map (map (numbered_of r)) (map items_of (map cells_in es)) ≡ map (ends_in r) es
ends_mapped r [] = refl
ends_mapped r (e ∷ es) = ap (λ l. ends_in r e ∷ l) (ends_mapped r es)

pub put_ends : {C M F Rec S : Type 0} (r : Reading M F Rec S) (es : List (WorkEnd C M F)) (n : ℕ) → map (placed r) (put_all (flat (map items_of (map cells_in es))) (replicate n None)) ≡ put_all (flat (map (ends_in r) es)) (replicate n None)
put_ends r es n =
    put_mapped (ended_of r) (flat (map items_of (map cells_in es))) (replicate n None)
    ∙ ap₂ put_all (flat_mapped (numbered_of r) (map items_of (map cells_in es)) ∙ ap flat (ends_mapped r es)) (map_none (ended_of r) n)

-- ---- putting, step by step

pub put_more : {X : Type 0} (rest later : List (ℕ × X)) (x : ℕ × X) (places new target : List (Option X)) → put_all rest places ≡ target → rest ≡ x ∷ later → new ≡ slice_set places x.0 (Some x.1) → put_all later new ≡ target
put_more rest later x places new target inv is put =
    ap (put_all later) put ∙ subst (λ r. put_all r places ≡ target) is inv

put_both : {X : Type 0} (ps qs : List (ℕ × X)) (f : List (Option X)) → put_all (ps ++ qs) f ≡ put_all qs (put_all ps f)
put_both [] qs f = refl
put_both (p ∷ ps) qs f = put_both ps qs (slice_set f p.0 (Some p.1))

pub list_put : {M F : Type 0} (rest later : List (CellList M F)) (x : CellList M F) (places new target : List (Option (CellEnd M F))) → put_all (flat (map items_of rest)) places ≡ target → rest ≡ x ∷ later → new ≡ put_all x.items places → put_all (flat (map items_of later)) new ≡ target
list_put rest later x places new target inv is put =
    ap (put_all (flat (map items_of later))) put
    ∙ sym (put_both x.items (flat (map items_of later)) places)
    ∙ subst (λ l. put_all (flat (map items_of l)) places ≡ target) is inv

-- ---- apart

pub popped_more : {X Y : Type 0} (f : X → Y) (es rest : List X) (e : X) (ys new initial : List Y) → map f es ++ reverse ys ≡ initial → es ≡ rest ++ e ∷ [] → new ≡ ys ++ f e ∷ [] → map f rest ++ reverse new ≡ initial
popped_more f es rest e ys new initial inv popped pushed =
    ap (λ l. map f rest ++ reverse l) pushed
    ∙ ap (λ l. map f rest ++ l) (rev_push ys [] (f e))
    ∙ sym (append_assoc (map f rest) (f e ∷ []) (reverse ys))
    ∙ ap (λ l. l ++ reverse ys) (sym (map-append f rest (e ∷ [])) ∙ ap (map f) (sym popped))
    ∙ inv

or_assoc : (a b c : Bool) → ((a || b) || c) ≡ (a || (b || c))
or_assoc true b c = refl
or_assoc false b c = refl

or_false : (a : Bool) → (a || false) ≡ a
or_false true = refl
or_false false = refl

any_push : {C M F : Type 0} (es : List (WorkEnd C M F)) (e : WorkEnd C M F) → any_wanting (es ++ e ∷ []) ≡ (any_wanting es || is_wanting e.fault)
any_push [] e = or_false (is_wanting e.fault)
any_push (x ∷ es) e = ap (λ b. is_wanting x.fault || b) (any_push es e) ∙ sym (or_assoc (is_wanting x.fault) (any_wanting es) (is_wanting e.fault))

pub any_more : {C M F : Type 0} (es rest : List (WorkEnd C M F)) (e : WorkEnd C M F) (w now initial : Bool) → (any_wanting es || w) ≡ initial → es ≡ rest ++ e ∷ [] → now ≡ (is_wanting e.fault || w) → (any_wanting rest || now) ≡ initial
any_more es rest e w now initial inv popped is =
    ap (λ b. any_wanting rest || b) is
    ∙ sym (or_assoc (any_wanting rest) (is_wanting e.fault) w)
    ∙ ap (λ b. b || w) (sym (any_push rest e) ∙ ap any_wanting (sym popped))
    ∙ inv

parts_pushed : {C M F : Type 0} (rest : List (WorkEnd C M F)) (e : WorkEnd C M F) → parts_of (rest ++ e ∷ []) ≡ parts_of rest + e.job.part
parts_pushed [] e = omega arith
parts_pushed (x ∷ rest) e = let more = parts_pushed rest e in omega (arith, more)

pub parts_push : {C M F : Type 0} (es rest : List (WorkEnd C M F)) (e : WorkEnd C M F) → es ≡ rest ++ e ∷ [] → parts_of es ≡ parts_of rest + e.job.part
parts_push es rest e popped = ap parts_of popped ∙ parts_pushed rest e

-- ---- together

or_left : (a b : Bool) → (a || b) ≡ false → a ≡ false
or_left true b e = e
or_left false b e = refl

or_right : (a b : Bool) → (a || b) ≡ false → b ≡ false
or_right true b e = absurd (true≢false e)
or_right false b e = e

none_wants : {C M F : Type 0} (es : List (WorkEnd C M F)) → any_wanting es ≡ false → (k : ℕ) (d : WorkEnd C M F) → k < length es → (slice_index_or es k d).fault ≢ Some Wanting
none_wants [] none k d lt = absurd (omega arith)
none_wants (e ∷ es) none zero d lt = λ is. true≢false (sym (ap is_wanting is) ∙ or_left (is_wanting e.fault) (any_wanting es) none)
none_wants (e ∷ es) none (suc k) d lt = none_wants es (or_right (is_wanting e.fault) (any_wanting es) none) k d (omega arith)

did_at : {C M F Rec S : Type 0} (r : Reading M F Rec S) (all : Bool) (ms : Runs Rec) (order : List ℕ) (cells : ℕ) (es : List (WorkEnd C M F)) → ((k : ℕ) (d : WorkEnd C M F) → k < length es → DidCells r.say all ms order cells (entries_of (slice_index_or es k d).job.seat) (ends_in r (slice_index_or es k d))) → (w : ℕ) → w < length es → DidCells r.say all ms order cells (slice_index_or (map entries_of (map seat_of es)) w []) (slice_index_or (map (ends_in r) es) w [])
did_at r all ms order cells [] h w lt = absurd (omega arith)
did_at r all ms order cells (e ∷ es) h zero lt = h zero e (omega arith)
did_at r all ms order cells (e ∷ es) h (suc w) lt = did_at r all ms order cells es (λ k d l. h (suc k) d (omega arith)) w (omega arith)

costs_at : {C M F Rec S : Type 0} (r : Reading M F Rec S) (es : List (WorkEnd C M F)) → ((k : ℕ) (d : WorkEnd C M F) → k < length es → (slice_index_or es k d).job.part ≡ cost_of_ends r.steps (ends_alone r (slice_index_or es k d))) → cost_of_workers r.steps (map (ends_in r) es) ≡ parts_of es
costs_at r [] h = refl
costs_at r (e ∷ es) h = let one = h zero e (omega arith) in let more = costs_at r es (λ k d l. h (suc k) d (omega arith)) in omega (arith, one, more)

long_both : {X Y Z : Type 0} (f : X → Y) (g : Y → Z) (xs : List X) → length (map g (map f xs)) ≡ length xs
long_both f g xs = long_map g (map f xs) ∙ long_map f xs

module _ {C M F Rec S : Type 0} (r : Reading M F Rec S) (table : TableId) (z : Sizes) (all : Bool) (order : List ℕ) (ms : Runs Rec) (es : List (WorkEnd C M F)) (end : ClaimEnd) where
  all_did_so : 0 < length es → IsTableFor z order ms → AreLeft r table z all order ms es → any_wanting es ≡ false → ClaimsAgree (claims_at z.cells end (map seat_of es)) → AllDid r.say all ms order (claims_at z.cells end (map seat_of es)) (map (ends_in r) es)
  all_did_so some for left none agree =
      let long = long_both seat_of entries_of es in
      record {
        agree = agree;
        some = omega (arith, some, long);
        count = for.cells;
        places = for.places;
        order_is = for.order_is;
        each = λ w lt. did_at r all ms order z.cells es (λ k d l. ((left.each k d l).0.did (none_wants es none k d l)).0) w (omega (arith, lt, long));
      }

  pub settled_so : (ps : Places M F) → 0 < length es → IsTableFor z order ms → AreLeft r table z all order ms es → any_wanting es ≡ false → ClaimsAgree (claims_at z.cells end (map seat_of es))
      → ps.items ≡ put_all (flat (map items_of (map cells_in es))) (replicate z.cells None) → Settled r z all ms (parts_of es) ps
  settled_so ps some for left none agree put =
      let c = claims_at z.cells end (map seat_of es) in
      let ends = map (ends_in r) es in
      let h = all_did_so some for left none agree in
      let long = long_both seat_of entries_of es in
      let ends_long = long_map (ends_in r) es in
      let f = fills r.say r.steps all ms order c ends h (omega (arith, long, ends_long)) in
      let count = left.count in
      record {
        gathered = f.gathered;
        count = f.are.count;
        filled = ap (map (placed r)) put ∙ put_ends r es z.cells ∙ f.filled;
        ends = workers_end r.say all ms order c ends f.gathered h f.are;
        costs = f.costs ∙ costs_at r es (λ k d l. ((left.each k d l).0.did (none_wants es none k d l)).1);
        one = λ one_ first. one_skips r.say ms order c ends f.gathered (subst (λ b. AllDid r.say b ms order c ends) first h) f.are for.ascend (omega (arith, one_, count, long));
      }
