-- The constant pool of a class file (JVMS 4.4), read and written.
use Rattle.std.specs.Prelude.{◌≡◌, ℕ, ◌+◌, ◌-◌, ◌^◌, ◌⊎◌, Bool, true, false, nat_lt, List, [], length, Result, Ok, Err, if◌then◌else◌}
use Rattle.std.specs.List.{list_all}
use Rattle.class_model.specs.Text.{text}
use Rattle.class_model.specs.Pool.{IsPool, IsPoolForm}
use Rattle.class_model.specs.declared.constant.Const.{Const}
use Rattle.class_model.specs.declared.constant.Const.TheVariants as const
use Rattle.class_model.specs.declared.fault.LayoutFault.{LayoutFault}
use Rattle.class_model.specs.declared.fault.LayoutFault.TheVariants as layout_fault
use Rattle.class_model.specs.declared.fault.Bound.TheVariants as bound
use Rattle.codec_rules.specs.Input.{Input}
use Rattle.codec_rules.specs.Sequence.{◌>>=◌}
use Rattle.codec_rules.specs.Spelling.{Takes}
use Rattle.mt_bytes.specs.Items.{ItemReader, u2_at}
use Rattle.mt_pool.specs.Spelling.{u2, pool_bytes}
use Rattle.mt_pool.specs.Reading.{places_at}
use Rattle.mt_pool.specs.Indices.{first_fault}

-- A pool from its count to its last entry. A count of 0 is that of an empty pool, as 1 is.
unfoldable pub pool_at : ItemReader (List Const)
pool_at input = do
  count ← u2_at input
  entries ← places_at (count.0 - 1) false count.1
  good ← first_fault entries.0 count.1.at entries.0
  Ok entries

-- What was read: a pool, and its bytes stood there. An empty pool may have had the count 0, which
-- isn't how it is written.
pub record IsPoolRead (input : Input) (pool : List Const) (rest : Input) : Type 0 where
  pub form : IsPool pool
  pub taken : Takes input (pool_bytes pool) rest ⊎ (pool ≡ []) × Takes input (u2 0) rest

-- ---- writing

-- A text has at most 65,535 bytes.
abbrev pub has_text_size : Const → Bool
has_text_size (const.Utf8 units) = nat_lt (length (text units)) (2 ^ 16)
has_text_size other = true

-- The bytes of a pool, or what is too large for them: its number of places, or one of its texts.
abbrev pub layout : List Const → Result (List ℕ) LayoutFault
layout pool =
    if nat_lt (length pool + 1) (2 ^ 16)
    then (if list_all has_text_size pool then Ok (pool_bytes pool)
    else Err (layout_fault.TooLarge bound.Text))
    else Err (layout_fault.TooLarge bound.Pool)

-- What was read is written as it was.
abbrev pub ReadIsWritten : Type 0
ReadIsWritten =
    (pool : List Const) → IsPool pool → IsPoolForm pool × (layout pool ≡ Ok (pool_bytes pool))

-- What was written is read again.
abbrev pub WrittenIsRead : Type 0
WrittenIsRead =
    (pool : List Const) (bytes : List ℕ) → IsPoolForm pool → layout pool ≡ Ok bytes →
    IsPool pool × (bytes ≡ pool_bytes pool)
