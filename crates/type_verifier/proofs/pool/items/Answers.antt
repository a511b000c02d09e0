use Rattle.std.proofs.Common.{◌≡◌, ◌∙◌, refl, sym, ap, subst, ◌+◌, ◌∷◌, ◌++◌, [], Some, take, length, arith}
use Rattle.std.specs.Prelude.{slice_get}
use Rattle.std.proofs.lemmas.Grind.{common_steps}
use Rattle.std.proofs.lemmas.List.{length-append}
use Rattle.std.proofs.lemmas.Option.{slice_get_read}
use Rattle.type_rows.specs.Items.{AreItemsOf}
use Rattle.type_verifier.specs.Pool.{home_of}
use Rattle.type_verifier.specs.Meanings.{EntryTextsOf}
use Rattle.type_verifier.proofs.Lasting.{same_table, added_twice, lasts}
use Rattle.type_verifier.proofs.Owns.{items_pushed}
use Rattle.type_verifier.proofs.Indices.{entry_texts}
use Rattle.type_verifier.proofs.pool.items.Goals as goal

pub loop-index-init : goal.loop-index-init
loop-index-init c = (
  same_table c.args.own.now.program.now c.args.names.now c.requires.table,
  c.no_meanings-meanings.ensures c.args.names.now.list.items c.args.own.now,
  ap length c.in_ok-items.ensures.items,
  λ more. subst (λ is. AreItemsOf (c.args.names.now.list.items ++ more) (home_of c.args.own.now) [] is) (sym c.in_ok-items.ensures.items) (λ k. tt),
)

pub item_of-requires-clause-texts : goal.item_of-requires-clause-texts
item_of-requires-clause-texts c =
    let o = c.args.own.now in
    let es = c.as_slice-entries.result.now in
    let k = c.loop-index.index in
    let x = c.index-entries-index.result in
    let there = slice_get_read es (length es) k x refl c.loop-index-test.true c.index-entries-index.is in
    let own_there : slice_get o.linked.now.entries k ≡ Some x = ap (λ l. slice_get l k) (sym (c.as_slice-entries.ensures ∙ c.deref.ensures)) ∙ there in
    subst (EntryTextsOf o x) (sym c.texts_of-texts.ensures) (entry_texts o.body.now o.linked.now.entries k x c.requires.own.entries own_there)

pub loop-index-preserved : goal.loop-index-preserved
loop-index-preserved c =
    let h = home_of c.args.own.now in
    let at = c.loop-index.index in
    let es = c.as_slice-entries.result.now in
    let x = c.index-entries-index.result in
    let old = c.loop-index.names in
    let new = c.item_of.new.names in
    let i = c.in_ok-item.item in
    let taken : take (at + 1) es ≡ take at es ++ x ∷ [] = grind (arith, common_steps) in
    let pushed : c.push.new.self.items ≡ c.loop-index.items.items ++ i ∷ [] = c.in_ok-push.ensures.items in
    let reached : length (take at es) ≡ at = grind (arith, common_steps) in (
      added_twice c.args.own.now.program.now c.args.names.now old new c.loop-index.invariant.0 c.in_ok-item.ensures.adds,
      c.in_ok-item.ensures.meanings,
      (omega (arith, ap length pushed, length-append c.loop-index.items.items (i ∷ []), c.loop-index.invariant.2)),
      λ more.
          subst (λ l. AreItemsOf (new.list.items ++ more) h l c.push.new.self.items) (sym taken)
          (subst (AreItemsOf (new.list.items ++ more) h (take at es ++ x ∷ [])) (sym pushed)
          (items_pushed (new.list.items ++ more) h (take at es) c.loop-index.items.items x i (reached ∙ sym c.loop-index.invariant.2)
          (lasts (λ ns. AreItemsOf ns h (take at es) c.loop-index.items.items) old.list.items new.list.items c.in_ok-item.ensures.adds.more c.loop-index.invariant.3 more)
          (c.in_ok-item.ensures.item more))),
    )

pub returns-clause-items : goal.returns-clause-items
returns-clause-items c = λ more.
    let es = c.as_slice-entries.result.now in
    let whole : take c.loop-index.index es ≡ es = grind (arith, common_steps, c.loop-index-test.false) in
    subst (λ l. AreItemsOf (c.loop-index.names.list.items ++ more) (home_of c.args.own.now) l c.loop-index.items.items) (whole ∙ c.as_slice-entries.ensures ∙ c.deref.ensures) (c.loop-index.invariant.3 more)
