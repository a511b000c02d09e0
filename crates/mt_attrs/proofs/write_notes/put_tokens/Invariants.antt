use Rattle.std.proofs.Common.{None}
use Rattle.mt_attrs.proofs.Writing.{Written}
use Rattle.mt_attrs.specs.Notes.{token_bytes}
use Rattle.mt_attrs.proofs.write_notes.put_tokens.Given as goal

abbrev pub invariant-loop-token : goal.invariant-loop-token
invariant-loop-token l = Written token_bytes (λ t. None) l.tokens l.token-index l.fn.out l.out
