-- Methods in whose code an object may be thrown.
use Rattle.std.specs.Prelude.{◌≡◌, ◌⊎◌, ◌≤◌, ℕ, List, [], Some, slice_get, ⊤}
use Rattle.class_link.specs.declared.linked.LinkedBody.{LinkedBody}
use Rattle.class_link.specs.declared.linked.LinkedBody.TheVariants as body
use Rattle.class_link.specs.declared.linked.LinkedMethod.{LinkedMethod}

-- A body has no code, or one without exception rows, or one with room for an object on its stack.
abbrev pub HasRoomBody : LinkedBody → Type 0
HasRoomBody (body.Code c) = (c.rows ≡ []) ⊎ (1 ≤ c.max_stack)
HasRoomBody (body.Native n) = ⊤
HasRoomBody body.Absent = ⊤

abbrev pub HasRoom : LinkedMethod → Type 0
HasRoom m = HasRoomBody m.body

abbrev pub HaveRoom : List LinkedMethod → Type 0
HaveRoom ms = (k : ℕ) (m : LinkedMethod) → slice_get ms k ≡ Some m → HasRoom m
