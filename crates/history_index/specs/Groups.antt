-- Maps of a few tests each (this project's own).
use Rattle.std.specs.Prelude.{ℕ, ◌/◌, List, get_or}

-- Among some maps, and the last behind them, that of a test.
abbrev pub group_of : {M : Type 0} → M → List M → ℕ → M
group_of last others t = get_or others (t / 15) last
