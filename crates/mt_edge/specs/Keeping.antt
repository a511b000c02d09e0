-- What the calls of a keeper answer, by the bytes that it tells; where it tells none, nothing is
-- said. This project's own.
use Rattle.std.specs.Prelude.{◌≡◌, ℕ, List, Option, IfSome, Result, IfOk, length}
use Rattle.mt_edge.specs.declared.outside.EdgeFault.{EdgeFault}

-- all bytes that are kept
abbrev pub LoadsAll : Option (List ℕ) → Result (List ℕ) EdgeFault → Type 0
LoadsAll kept result = IfOk result (λ bytes. IfSome kept (λ all. bytes ≡ all))

-- So many bytes are durable: all that are kept.
abbrev pub IsAllDurable : Option (List ℕ) → ℕ → Type 0
IsAllDurable kept durable = IfSome kept (λ all. durable ≡ length all)
