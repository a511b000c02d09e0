-- An order of a program's classes, in which no class stands above itself (this project's own).
use Rattle.std.specs.Prelude.{◌≡◌, ◌<◌, ◌^◌, ℕ, true, false}
use Rattle.program_rules.specs.Names.{Name, is_listed}
use Rattle.program_rules.specs.Linked.{parents_of}
use Rattle.program_rules.specs.Programs.{Look}
use Rattle.class_order.specs.Supers.{is_super_missing, is_super_of_wrong_kind}

-- Each class has a rank, and each of its supers a lower one. So no class stands above itself.
pub record HasRanks (p : Look) : Type 0 where
  pub rank : Name → ℕ
  pub few : (n : Name) → rank n < 2 ^ 32
  pub lower : (n m : Name) → is_listed m (parents_of (p n)) ≡ true → rank m < rank n

-- No super is missing or of a wrong kind, and classes have ranks.
pub record IsOrdered (p : Look) : Type 0 where
  pub present : (n : Name) → is_super_missing p n ≡ false
  pub kinds : (n : Name) → is_super_of_wrong_kind p n ≡ false
  pub ranks : HasRanks p
