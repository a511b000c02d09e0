-- Classes by their bytes (this project's own).
use Rattle.std.specs.Prelude.{◌≡◌, ◌<◌, ◌^◌, ℕ, List, length, Option}
use Rattle.std.specs.BTreeMap as tree
use Rattle.std.specs.BTreeMap.{BTreeMap}
use Rattle.std.specs.Global.{Vec}
use Rattle.std.specs.Cmp.Lexicographic.{slice_cmp}
use Rattle.std.specs.Ordering.{nat_cmp}
use Rattle.job_journal.specs.Adding.{first_number}

-- What is kept of some bytes.
abbrev pub kept_at : {X : Type 0} → BTreeMap (Vec ℕ) X → List ℕ → Option X
kept_at m q = tree.get_by (λ k. slice_cmp nat_cmp q k.items) m

-- Each class has its number, and nothing else has one; there are numbers of four bytes for all.
pub record AreNumbers (classes : List (List ℕ)) (m : BTreeMap (Vec ℕ) ℕ) : Type 0 where
  pub few : length classes < 2 ^ 32
  pub found : (q : List ℕ) → kept_at m q ≡ first_number classes q
