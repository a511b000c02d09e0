-- A held state of claims, as the claims that it stands for.
use Rattle.std.specs.Prelude.{◌≡◌, ℕ, ◌+◌, ◌<◌, ◌^◌, List, Bool, true, map, length, slice_set}
use Rattle.claim_core.specs.declared.events.ClaimEntry.{ClaimEntry}
use Rattle.claim_core.specs.declared.state.Worker.{Worker}
use Rattle.claim_core.specs.declared.state.ClaimState.TheInside.{Inside}
use Rattle.claim_core.specs.Claims.{Claims, is_exhausted}
use Rattle.claim_core.specs.Agreement.{ClaimsAgree}

abbrev pub entries_of : Worker → List ClaimEntry
entries_of w = w.entries.items

abbrev pub drained_of : Worker → Bool
drained_of w = w.drained

abbrev pub lists_of : List Worker → List (List ClaimEntry)
lists_of workers = map entries_of workers

-- the workers before and after: this one is marked as one that drew a number at or past the cells,
-- and the marks of the others stay
abbrev pub Drains : List Worker → ℕ → List Worker → Type 0
Drains before worker after = map drained_of after ≡ slice_set (map drained_of before) worker true

abbrev pub claims_of : Inside → Claims
claims_of s = record {
  cells = s.cells;
  next = s.next;
  least = s.least.items;
  lists = lists_of s.workers.items;
}

-- the claims agree, each worker knows whether it drew a number at or past the cells, and the
-- numbers never wrap
pub record IsKept (s : Inside) : Type 0 where
  pub agree : ClaimsAgree (claims_of s)
  pub drained : map drained_of s.workers.items
      ≡ map (is_exhausted s.cells) (lists_of s.workers.items)
  pub room : s.cells + length s.workers.items < 2 ^ 64
