use Rattle.std.proofs.Common.{◌≡◌, ◌∷◌, ◌∙◌, length, Some, subst, sym, reverse, arith}
use Rattle.std.specs.Vec.{with_items}
use Rattle.std.proofs.lemmas.List.{with_items_is}
use Rattle.jvm_state.specs.Stores.{AreBelow, StepsTo}
use Rattle.jvm_frames.specs.Frames.{GoOn, landing, frames_in, numbered}
use Rattle.jvm_frames.proofs.Keeping.{stands, acted, does, are_same}
use Rattle.jvm_frames.proofs.Dropping.{on_running}
use Rattle.jvm_frames.proofs.frames.Frames.land.Goals as goal

pub invariant_of-self-2 : goal.invariant_of-self-2
invariant_of-self-2 c =
    let xs = c.self.inside.slots.items in
    let cs = c.self.inside.callers.items in
    let f = c.in-Some.frame in
    let row = landing c.args.object c.args.to in
    let new = c.land_in.new.slots in
    let g = c.land_in.new.f in
    let steps = subst (λ ys. StepsTo row ys new f g) c.deref_mut.ensures.value c.land_in.ensures.lands in
    let same : length new ≡ length xs = subst (λ ys. length new ≡ length ys) c.deref_mut.ensures.value c.land_in.ensures.len in
    subst (λ ys. AreBelow ys (length ys) (g ∷ reverse cs)) (sym (with_items_is c.self.inside.slots new (c.land_in.ensures.len ∙ c.deref_mut.ensures.len)))
    (acted row xs new f g (reverse cs) (stands xs c.self.inside.frame f cs c.in-Some.is c.self.invariant) steps same)

pub returns : goal.returns
returns c =
    let xs = c.self.inside.slots.items in
    let cs = c.self.inside.callers.items in
    let f = c.in-Some.frame in
    let row = landing c.args.object c.args.to in
    let new = c.land_in.new.slots in
    let g = c.land_in.new.f in
    let steps = subst (λ ys. StepsTo row ys new f g) c.deref_mut.ensures.value c.land_in.ensures.lands in
    let same : length new ≡ length xs = subst (λ ys. length new ≡ length ys) c.deref_mut.ensures.value c.land_in.ensures.len in
    let h = stands xs c.self.inside.frame f cs c.in-Some.is c.self.invariant in
    on_running (λ k s. GoOn row k s (frames_in (with_items c.self.inside.slots new).items (Some g) cs)) xs c.self.inside.frame f cs c.args.self.now c.self.view_is c.in-Some.is
    (subst (λ ys. GoOn row (numbered xs f) (frames_in xs (Some f) cs) (frames_in ys (Some g) cs)) (sym (with_items_is c.self.inside.slots new (c.land_in.ensures.len ∙ c.deref_mut.ensures.len)))
    (record {
      frame = does row xs new f g steps;
      callers = are_same xs new f.base (reverse cs) h.2 steps.below (omega (arith, same));
    }))
