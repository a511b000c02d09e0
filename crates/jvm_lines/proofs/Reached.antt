-- The line of an instruction is reached, or was before.
use Rattle.std.proofs.Common.{◌≡◌, ◌∙◌, refl, sym, ap, subst, ℕ, Bool, true, false, List, [], ◌∷◌, ◌++◌, map}
use Rattle.std.specs.Prelude.{if◌then◌else◌}
use Rattle.program_rules.specs.Names.{Name}
use Rattle.program_rules.specs.Linked as rules
use Rattle.program_rules.specs.Linked.{is_from_file, line_at}
use Rattle.machine_rules.specs.State as def
use Rattle.machine_rules.specs.Steps.{is_reached, reach, reaches, line_of, line_in}
use Rattle.class_link.specs.Info.{Info}
use Rattle.class_link.specs.View as view
use Rattle.class_link.specs.View.{body_of}
use Rattle.class_table.specs.Table.{look, name_at, entries_at}
use Rattle.jvm_frames.specs.Frames.{NumberedFrame, IsAt}
use Rattle.jvm_world.specs.declared.world.World.{World}
use Rattle.jvm_world.specs.View.{History, Means, Moves, IsWorldOf, IsKept, world_of}
use Rattle.jvm_unwind.specs.Turns.{frame_of}
use Rattle.jvm_act.specs.declared.methods.MethodCode.{MethodCode}
use Rattle.jvm_act.specs.Methods.{IsCodeOf}
use Rattle.jvm_lines.specs.Lines.{IsLineReached, IsReachedIf, ReachesLine, lines_of}

pub kept_same : (p : List Info) (w : World) → IsWorldOf p w → IsKept p w w
kept_same p w h = record { world = h; limits = refl }

-- The line of an instruction of a method is that of its code.
pub line_is : (p : List Info) (class place at : ℕ) (m : MethodCode) → IsCodeOf p class place m → line_in (rules.code_of (rules.method_in (look p (name_at p class)) place)) at ≡ line_at at (map view.line_of m.linked.lines)
line_is p class place at m code =
    ap (λ o. line_in (rules.code_of o) at) code.there
    ∙ ap (λ b. line_in (rules.code_in (body_of (entries_at p class) b)) at) code.body

-- So is that of the instruction at which a frame stands.
frame_line_is : (p : List Info) (class place at : ℕ) (m : MethodCode) (f : NumberedFrame) → IsCodeOf p class place m → IsAt class place at f → line_of (look p) (frame_of p f) ≡ line_at at (map view.line_of m.linked.lines)
frame_line_is p class place at m f code is =
    ap (λ k. line_in (rules.code_of (rules.method_in (look p (name_at p k)) f.method)) f.at) is.class
    ∙ ap (λ k. line_in (rules.code_of (rules.method_in (look p (name_at p class)) k)) f.at) is.method
    ∙ ap (line_in (rules.code_of (rules.method_in (look p (name_at p class)) place))) is.at
    ∙ line_is p class place at m code

-- By whether the class comes from a class file.
abbrev by_file : Bool → Name → ℕ → def.World → def.World
by_file b class line v = if b then record v { reached = reach class line v.reached } else v

reaches_is : (p : List Info) (class place at line : ℕ) (b : Bool) (f : NumberedFrame) (v : def.World) → IsAt class place at f → is_from_file (look p (name_at p class)) ≡ b → line_of (look p) (frame_of p f) ≡ line → reaches (look p) (frame_of p f) v ≡ by_file b (name_at p class) line v
reaches_is p class place at line b f v is file there =
    ap (λ k. by_file (is_from_file (look p (name_at p k))) (name_at p k) (line_of (look p) (frame_of p f)) v) is.class
    ∙ ap (λ l. by_file (is_from_file (look p (name_at p class))) (name_at p class) l v) there
    ∙ ap (λ k. by_file k (name_at p class) line v) file

pub not_from_file : (p : List Info) (class place at : ℕ) (w : World) → is_from_file (look p (name_at p class)) ≡ false → (f : NumberedFrame) → IsAt class place at f → ReachesLine p f w w
not_from_file p class place at w file = λ f is v m.
    subst (Means p w) (sym (reaches_is p class place at (line_of (look p) (frame_of p f)) false f v is file refl)) m

pub line_reached : (p : List Info) (class place at line : ℕ) (m : MethodCode) (w u : World) → is_from_file (look p (name_at p class)) ≡ true → IsCodeOf p class place m → line ≡ line_at at (map view.line_of m.linked.lines) → Moves p w u (λ v. record v { reached = reach (name_at p class) line v.reached }) → (f : NumberedFrame) → IsAt class place at f → ReachesLine p f w u
line_reached p class place at line m w u file code is_line moves = λ f is v h.
    subst (Means p u) (sym (reaches_is p class place at line true f v is file (frame_line_is p class place at m f code is ∙ sym is_line))) (moves v h)

-- ---- a line that was reached before

pub lines_are : (p : List Info) (w : World) (h : History) (v : def.World) → v ≡ world_of p w h → v.reached ≡ lines_of p w
unfolding world_of
lines_are p w h v e = ap (λ (u : def.World). u.reached) e

reach_known : (class : Name) (line : ℕ) (rs : List (Name × ℕ)) (b : Bool) → b ≡ true → (if b then rs else rs ++ (class, line) ∷ []) ≡ rs
reach_known class line rs true e = refl
reach_known class line rs false e = absurd cc

-- A line that was reached before leaves the world as it is.
world_same : (b : Bool) (class : Name) (line : ℕ) (v : def.World) → IsReachedIf b class line v.reached → (if b then record v { reached = reach class line v.reached } else v) ≡ v
world_same true class line v h = ap (λ rs. record v { reached = rs }) (reach_known class line v.reached (is_reached class line v.reached) h)
world_same false class line v h = refl

pub reached_same : (p : List Info) (w : World) (f : NumberedFrame) (v : def.World) → IsLineReached p f.class f.method f.at (lines_of p w) → Means p w v → reaches (look p) (frame_of p f) v ≡ v
reached_same p w f v reached m =
    world_same (is_from_file (look p (name_at p f.class))) (name_at p f.class) (line_of (look p) (frame_of p f)) v
    (subst (IsReachedIf (is_from_file (look p (name_at p f.class))) (name_at p f.class) (line_of (look p) (frame_of p f))) (sym (lines_are p w m.past v m.world))
    reached)
