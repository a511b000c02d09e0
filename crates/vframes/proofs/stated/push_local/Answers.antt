use Rattle.std.proofs.Common.{◌≡◌, ◌∙◌, ◌+◌, refl, sym, ap, length, arith, []}
use Rattle.std.specs.Prelude.{◌||◌}
use Rattle.std.proofs.lemmas.Grind.{common_steps}
use Rattle.vframes.specs.declared.stated.Local.{Local}
use Rattle.vframes.specs.declared.stated.Locals.{Locals}
use Rattle.vframes.specs.declared.slot_type.SlotType.{SlotType}
use Rattle.vframes.specs.Stated.{AreLocals}
use Rattle.vframes.proofs.StatedLaws.{pushed, kept_in}
use Rattle.vframes.proofs.stated.push_local.Goals as goal

pub returns-then-is_uninit_this-clause-more : goal.returns-then-is_uninit_this-clause-more
returns-then-is_uninit_this-clause-more c =
    let n : Local = record { t = c.args.t; below = c.args.below } in
    let l : Locals = record { last = c.len-last.result; count = c.args.below.count + 1; words = c.args.below.words + c.width.result; flag = c.is_uninit_this.result } in
    let at : c.len-last.result ≡ length c.args.store.now.items = grind (arith, common_steps, c.len-last.ensures) in
    pushed c.args.store.now.items c.push.new.self.items n l c.in_ok-push.ensures.items at refl (ap (λ w. c.args.below.words + w) (c.width.ensures.value []))
    (c.if-is_uninit_this.true ∙ sym (ap (λ b. b || c.args.below.flag) (sym (c.is_uninit_this.ensures []) ∙ c.if-is_uninit_this.true)))

pub returns-then-is_uninit_this-clause-kept : goal.returns-then-is_uninit_this-clause-kept
returns-then-is_uninit_this-clause-kept c = kept_in c.args.store.now.items c.push.new.self.items (record { t = c.args.t; below = c.args.below }) c.in_ok-push.ensures.items

pub returns-else-is_uninit_this-clause-more : goal.returns-else-is_uninit_this-clause-more
returns-else-is_uninit_this-clause-more c =
    let n : Local = record { t = c.args.t; below = c.args.below } in
    let l : Locals = record { last = c.len-last.result; count = c.args.below.count + 1; words = c.args.below.words + c.width.result; flag = c.args.below.flag } in
    let at : c.len-last.result ≡ length c.args.store.now.items = grind (arith, common_steps, c.len-last.ensures) in
    pushed c.args.store.now.items c.push.new.self.items n l c.in_ok-push.ensures.items at refl (ap (λ w. c.args.below.words + w) (c.width.ensures.value []))
    (sym (ap (λ b. b || c.args.below.flag) (sym (c.is_uninit_this.ensures []) ∙ c.if-is_uninit_this.false)))

pub returns-else-is_uninit_this-clause-kept : goal.returns-else-is_uninit_this-clause-kept
returns-else-is_uninit_this-clause-kept c = kept_in c.args.store.now.items c.push.new.self.items (record { t = c.args.t; below = c.args.below }) c.in_ok-push.ensures.items
