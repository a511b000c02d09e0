use Rattle.std.proofs.Common.{◌≡◌, ◌∷◌, length, take, Some, subst, sym, reverse, ◌∙◌}
use Rattle.std.specs.Vec.{with_items}
use Rattle.std.proofs.lemmas.List.{with_items_is}
use Rattle.jvm_state.specs.Stores.{AreBelow}
use Rattle.jvm_frames.specs.Frames.{numbered, frames_in}
use Rattle.jvm_frames.specs.Staying.{Stays, StayOn}
use Rattle.jvm_frames.proofs.Keeping.{stands, stayed_frames, stayed_on, if_running}
use Rattle.jvm_frames.proofs.frames.Frames.stay.Goals as goal

pub invariant_of-self-2 : goal.invariant_of-self-2
invariant_of-self-2 c =
    let xs = c.self.inside.slots.items in
    let cs = c.self.inside.callers.items in
    let f = c.in-Some.frame in
    let new = c.stay_in.new.slots in
    let g = c.stay_in.new.f in
    let s = c.stay_in.ensures in
    let below = subst (λ ys. take f.base new ≡ take f.base ys) c.deref_mut.ensures.value s.below in
    let same : length new ≡ length xs = subst (λ ys. length new ≡ length ys) c.deref_mut.ensures.value s.len in
    subst (λ ys. AreBelow ys (length ys) (g ∷ reverse cs)) (sym (with_items_is c.self.inside.slots new (s.len ∙ c.deref_mut.ensures.len)))
    (stayed_frames xs new f g (reverse cs) (stands xs c.self.inside.frame f cs c.in-Some.is c.self.invariant) s.frame s.same below same)

pub returns-clause-stays : goal.returns-clause-stays
returns-clause-stays c =
    let xs = c.self.inside.slots.items in
    let cs = c.self.inside.callers.items in
    let f = c.in-Some.frame in
    let new = c.stay_in.new.slots in
    let g = c.stay_in.new.f in
    let s = c.stay_in.ensures in
    let ops = c.args.ops.now in
    let longs = c.args.longs.now in
    let marks = c.args.marks.now in
    let n = c.stay_in.result in
    let below = subst (λ ys. take f.base new ≡ take f.base ys) c.deref_mut.ensures.value s.below in
    let same : length new ≡ length xs = subst (λ ys. length new ≡ length ys) c.deref_mut.ensures.value s.len in
    let stays = subst (λ ys. Stays ops longs marks n (numbered ys f) (numbered new g)) c.deref_mut.ensures.value s.stays in
    if_running (λ h old. StayOn ops longs marks n h old (frames_in (with_items c.self.inside.slots new).items (Some g) cs)) xs c.self.inside.frame f cs c.args.self.now c.self.view_is c.in-Some.is
    (subst (λ ys. StayOn ops longs marks n (numbered xs f) (frames_in xs (Some f) cs) (frames_in ys (Some g) cs)) (sym (with_items_is c.self.inside.slots new (s.len ∙ c.deref_mut.ensures.len)))
    (stayed_on ops longs marks n xs new f g cs (stands xs c.self.inside.frame f cs c.in-Some.is c.self.invariant) stays s.same below same))
