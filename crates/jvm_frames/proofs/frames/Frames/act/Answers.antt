use Rattle.std.proofs.Common.{◌≡◌, ◌∷◌, length, Some, subst, sym, true, false, reverse, ◌∙◌}
use Rattle.std.specs.Vec.{with_items}
use Rattle.std.proofs.lemmas.List.{with_items_is}
use Rattle.jvm_state.specs.Stores.{AreBelow, RunsIn}
use Rattle.jvm_frames.specs.Frames.{ActsOn, frames_in}
use Rattle.jvm_frames.proofs.Keeping.{stands, frames_are, not_acted, not_acted_frames, acted_on, acted_frames}
use Rattle.jvm_frames.proofs.frames.Frames.act.Goals as goal

pub invariant_of-self : goal.invariant_of-self
invariant_of-self c =
    let xs = c.self.inside.slots.items in
    let cs = c.self.inside.callers.items in
    let f = c.in-Some.frame in
    let new = c.act_in.new.slots in
    let runs = subst (λ ys. RunsIn c.args.longs.now c.args.op false ys new f c.act_in.new.f) c.deref_mut.ensures.value c.if-not-act_in.ensures.runs in
    let whole = with_items_is c.self.inside.slots new (c.act_in.ensures.len ∙ c.deref_mut.ensures.len) in
    frames_are (with_items c.self.inside.slots new).items c.self.inside.frame f cs c.in-Some.is
    (subst (λ ys. AreBelow ys (length ys) (f ∷ reverse cs)) (sym whole)
    (not_acted_frames c.args.longs.now c.args.op xs new f c.act_in.new.f (reverse cs) runs (stands xs c.self.inside.frame f cs c.in-Some.is c.self.invariant)))

pub returns-then-not-act_in-clause-acts : goal.returns-then-not-act_in-clause-acts
returns-then-not-act_in-clause-acts c =
    let xs = c.self.inside.slots.items in
    let cs = c.self.inside.callers.items in
    let f = c.in-Some.frame in
    let new = c.act_in.new.slots in
    let runs = subst (λ ys. RunsIn c.args.longs.now c.args.op false ys new f c.act_in.new.f) c.deref_mut.ensures.value c.if-not-act_in.ensures.runs in
    let whole = with_items_is c.self.inside.slots new (c.act_in.ensures.len ∙ c.deref_mut.ensures.len) in
    subst (λ s. ActsOn c.args.longs.now c.args.op false s (frames_in (with_items c.self.inside.slots new).items c.self.inside.frame cs)) c.self.view_is
    (subst (λ o. ActsOn c.args.longs.now c.args.op false (frames_in xs o cs) (frames_in (with_items c.self.inside.slots new).items o cs)) (sym c.in-Some.is)
    (subst (λ ys. ActsOn c.args.longs.now c.args.op false (frames_in xs (Some f) cs) (frames_in ys (Some f) cs)) (sym whole)
    (not_acted c.args.longs.now c.args.op xs new f c.act_in.new.f cs runs)))

pub invariant_of-self-2 : goal.invariant_of-self-2
invariant_of-self-2 c =
    let xs = c.self.inside.slots.items in
    let cs = c.self.inside.callers.items in
    let f = c.in-Some.frame in
    let new = c.act_in.new.slots in
    let runs = subst (λ ys. RunsIn c.args.longs.now c.args.op true ys new f c.act_in.new.f) c.deref_mut.ensures.value c.if-not-act_in.ensures.runs in
    let len = c.act_in.ensures.len ∙ c.deref_mut.ensures.len in
    let same : length new ≡ length xs = subst (λ ys. length new ≡ length ys) c.deref_mut.ensures.value c.act_in.ensures.len in
    subst (λ ys. AreBelow ys (length ys) (c.act_in.new.f ∷ reverse cs)) (sym (with_items_is c.self.inside.slots new len))
    (acted_frames c.args.longs.now c.args.op xs new f c.act_in.new.f (reverse cs) runs (stands xs c.self.inside.frame f cs c.in-Some.is c.self.invariant) same)

pub returns-clause-acts : goal.returns-clause-acts
returns-clause-acts c =
    let xs = c.self.inside.slots.items in
    let cs = c.self.inside.callers.items in
    let f = c.in-Some.frame in
    let new = c.act_in.new.slots in
    let g = c.act_in.new.f in
    let runs = subst (λ ys. RunsIn c.args.longs.now c.args.op true ys new f g) c.deref_mut.ensures.value c.if-not-act_in.ensures.runs in
    let len = c.act_in.ensures.len ∙ c.deref_mut.ensures.len in
    let same : length new ≡ length xs = subst (λ ys. length new ≡ length ys) c.deref_mut.ensures.value c.act_in.ensures.len in
    subst (λ s. ActsOn c.args.longs.now c.args.op true s (frames_in (with_items c.self.inside.slots new).items (Some g) cs)) c.self.view_is
    (subst (λ o. ActsOn c.args.longs.now c.args.op true (frames_in xs o cs) (frames_in (with_items c.self.inside.slots new).items (Some g) cs)) (sym c.in-Some.is)
    (subst (λ ys. ActsOn c.args.longs.now c.args.op true (frames_in xs (Some f) cs) (frames_in ys (Some g) cs)) (sym (with_items_is c.self.inside.slots new len))
    (acted_on c.args.longs.now c.args.op xs new f g cs runs (stands xs c.self.inside.frame f cs c.in-Some.is c.self.invariant) same)))
