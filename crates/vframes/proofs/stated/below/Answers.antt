use Rattle.std.proofs.Common.{◌≡◌, ◌∙◌, sym, ap, List, Option, Some, None, []}
use Rattle.std.specs.Prelude.{slice_get, IfSome, IfNone}
use Rattle.vframes.specs.declared.stated.Local.{Local}
use Rattle.vframes.specs.declared.stated.Locals.{Locals}
use Rattle.vframes.specs.declared.slot_type.SlotType.{SlotType}
use Rattle.vframes.specs.Stated.{AreLocals, IsLast}
use Rattle.vframes.proofs.StatedLaws.{no_last, last_is, last_there}
use Rattle.vframes.proofs.stated.below.Goals as goal

some_last : (store : List Local) (l : Locals) (o : Option Local) → (l.count ≡ 0 → ⊥) → slice_get store l.last ≡ o → IfSome o (λ n. (ts : List SlotType) → AreLocals store l ts → IsLast store n ts)
some_last store l None e g = tt
some_last store l (Some n) e g = last_is store l n e g

none_last : (store : List Local) (l : Locals) (o : Option Local) → (l.count ≡ 0 → ⊥) → slice_get store l.last ≡ o → IfNone o ((ts : List SlotType) → AreLocals store l ts → ts ≡ [])
none_last store l None e g = last_there store l e g
none_last store l (Some n) e g = tt

pub returns-then-locals-eq0-clause-none : goal.returns-then-locals-eq0-clause-none
returns-then-locals-eq0-clause-none c = no_last c.args.store.now c.args.locals c.if-locals-eq0.true

pub returns-clause-some : goal.returns-clause-some
returns-clause-some c = some_last c.args.store.now c.args.locals c.local_at.result c.if-locals-eq0.false (sym c.local_at.ensures)

pub returns-clause-none : goal.returns-clause-none
returns-clause-none c = none_last c.args.store.now c.args.locals c.local_at.result c.if-locals-eq0.false (sym c.local_at.ensures)
