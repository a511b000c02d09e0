-- What runs as it was told beside the table that computes runs so beside the library.
use Rattle.std.proofs.Common.{sym, subst}
use Rattle.library_laws.proofs.Meaning.{is_table, table}
use Rattle.library_tries.specs.Programs.{Try, RunsWith, AsTold}

pub as_told : (t : Try) → RunsWith table t → AsTold t
as_told t is = subst (λ l. RunsWith l t) (sym is_table) is
