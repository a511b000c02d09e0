-- Which classes have supers that aren't as they have to be, as names among all names (JVMS 4.1,
-- 5.3.5), and the least of names with something.
use Rattle.std.specs.Prelude.{ℕ, zero, suc, Bool, false, ◌||◌, List, filter, length, Option}
use Rattle.std.specs.List.{list_any}
use Rattle.program_rules.specs.Names.{Name, same}
use Rattle.program_rules.specs.Linked.{parents_of}
use Rattle.program_rules.specs.Programs.{Look}
use Rattle.suite_program.specs.Duplicates.{least}

-- Whether a class stands above another within so many levels: it is that one's superclass or one of
-- its interfaces, or stands above one of these.
unfoldable pub is_above : Look → ℕ → Name → Name → Bool
is_above p zero m n = false
is_above p (suc levels) m n =
    list_any (λ k. same k m || is_above p levels m k) (parents_of (p n))

-- Whether it stands above itself. Where these are all classes, as many levels are enough.
abbrev pub is_own_super : Look → List Name → Name → Bool
is_own_super p ns n = is_above p (length ns) n n

-- The least of these names of which this is true.
abbrev pub least_with : (Name → Bool) → List Name → Option Name
least_with has ns = least (filter has ns)
