use Rattle.std.proofs.Common.{◌≡◌, ◌∙◌, ℕ, Option, [], None, map, replicate, sym, subst, length, arith}
use Rattle.std.proofs.Math.Seq.{take-nil}
use Rattle.std.proofs.lemmas.Grind.{common_steps}
use Rattle.std.proofs.lemmas.List.{with_items_is}
use Rattle.class_link.specs.View.{line_of}
use Rattle.class_link.specs.Lines.{AreStartsOf}
use Rattle.class_link.proofs.LineLaws.{starts_none}
use Rattle.class_link.proofs.line_table.starts.Goals as goal

pub returns : goal.returns
returns c =
    let count = c.args.instructions in
    let none : Option ℕ = None in
    let made : c.resize.new.self.items ≡ replicate count none = grind (arith, common_steps, take-nil, c.in_ok-resize.ensures.items, c.new-starts.ensures.items) in
    let before : AreStartsOf c.deref_mut.result.now [] = subst (λ s. AreStartsOf s []) (sym (c.deref_mut.ensures.value ∙ made)) (starts_none count) in
    let long : length c.note_starts.new.starts ≡ c.resize.new.self.len = grind (arith, c.note_starts.auto.starts, c.deref_mut.ensures.value, c.deref_mut.ensures.len, c.resize.new.self.ok.0) in
    subst (λ s. AreStartsOf s (map line_of c.args.rows.now)) (sym (with_items_is c.resize.new.self c.note_starts.new.starts long)) (c.note_starts.ensures before)
