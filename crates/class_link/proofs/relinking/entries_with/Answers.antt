use Rattle.std.proofs.Common.{◌≡◌, ◌∙◌, sym, ap, subst, true, length, map, ◌++◌}
use Rattle.std.specs.List.{list_all}
use Rattle.class_link.specs.Edits.{KeepMethods}
use Rattle.class_link.specs.Indices.{is_method_within}
use Rattle.class_link.specs.Symbols.{symbol_in}
use Rattle.class_link.specs.View.{symbol_of}
use Rattle.class_link.proofs.EditLaws.{some_added}
use Rattle.class_link.proofs.relinking.entries_with.Goals as goal

pub returns : goal.returns
returns c =
    let class = c.args.class.now in
    let pool = c.args.pool.now in
    let added = c.args.added.now in
    let more = c.in_ok-more.more in
    let within : list_all (is_method_within (length class.entries)) class.methods ≡ true =
    ap (λ n. list_all (is_method_within n) class.methods) (sym (c.len.ensures ∙ ap (λ es. length es) c.deref.ensures))
    ∙ ap (list_all (is_method_within c.len.result)) (sym c.as_slice.ensures)
    ∙ sym c.are_within.ensures
    ∙ c.if-not-are_within.false in
    let behind : map symbol_of more ≡ map (symbol_in (pool ++ added)) added = c.in_ok-more.ensures ∙ ap (λ p. map (symbol_in p) added) c.new.ensures in
    subst (KeepMethods class (pool ++ added)) (sym (c.in_ok-new.ensures ∙ c.in_ok-entries.ensures ∙ ap (λ es. es ++ more) c.deref-2.ensures)) (some_added class more pool added c.requires.entries c.requires.alone within behind)
