-- What is left of a call, once its method is one with code.
use Rattle.std.proofs.Common.{◌≡◌, ◌∙◌, ap, ℕ, ◌∷◌}
use Rattle.program_rules.specs.Outlines.{Callable}
use Rattle.program_rules.specs.Names.{Name}
use Rattle.machine_rules.specs.State as def
use Rattle.machine_rules.specs.Effects.{enters, on_args}
use Rattle.machine_rules.specs.Calls.{calls}
use Rattle.class_table.specs.Table.{look, name_at}
use Rattle.jvm_calls.specs.Calls.{enters_from}
use Rattle.jvm_invokes.specs.Laws.{CalleesAreCalled, StaticsAreCalled}

pub callees_are_called : CalleesAreCalled
callees_are_called p q room m c w f fs args rest is =
    let g : def.Frame = record f { stack = rest } in
    ap (λ (k : Callable). calls (look p) q w g fs room args m.class m.place k) is.written
    ∙ ap (λ (n : Name). enters q w (g ∷ fs) n m.place c.max_locals args) is.class
    ∙ ap (λ (n : ℕ). enters q w (g ∷ fs) (name_at p c.class.0) n c.max_locals args) is.place

pub statics_are_called : StaticsAreCalled
statics_are_called p q room r m c w f fs family is =
    let same : (λ args rest. calls (look p) q w (record f { stack = rest }) fs room args m.class m.place m.callable) ≡ enters_from p q c w f fs =
    (λ i args rest. callees_are_called p q room m c w f fs args rest is i) in
    ap (on_args r.args f.stack) same
