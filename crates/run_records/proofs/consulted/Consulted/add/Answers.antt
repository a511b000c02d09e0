use Rattle.std.proofs.Common.{◌∙◌, ◌++◌, ◌∷◌, [], List, ℕ, Option, Vec, Global, ap}
use Rattle.run_records.proofs.Placing.{added}
use Rattle.run_records.proofs.consulted.Consulted.add.Goals as goal

pub returns : goal.returns
returns c =
    let bytes = c.in_ok-bytes.bytes in
    added c.args.p.now c.args.name bytes c.args.self.now (record { entries = c.push.new.self; places = c.note.new.self.places }) c.requires.places
    (c.in_ok-push.ensures.items ∙ ap (λ (v : Vec (List ℕ × Option (List ℕ)) Global). v.items ++ (c.args.name, bytes) ∷ []) c.in_ok-bytes.ensures.entries)
    c.in_ok-bytes.ensures.places c.in_ok-bytes.ensures.bytes
