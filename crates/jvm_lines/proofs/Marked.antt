-- Marks of instructions, and lines by number.
use Rattle.std.proofs.Common.{◌≡◌, ◌∙◌, refl, sym, subst, ℕ, Bool, true, false, List, [], ◌∷◌, map, get_or, nat_eq}
use Rattle.std.specs.Prelude.{◌&&◌, ◌||◌}
use Rattle.std.proofs.lemmas.Bool.{eqb-true}
use Rattle.std.proofs.lemmas.Cmp.{nat_list_eq_equiv}
use Rattle.program_rules.specs.Names.{Name, same}
use Rattle.program_rules.specs.Linked.{code_of, is_from_file, line_at, method_in}
use Rattle.machine_rules.specs.Steps.{is_reached, line_in}
use Rattle.class_link.specs.Info.{Info}
use Rattle.class_link.specs.View as view
use Rattle.class_table.specs.Table.{look, name_at}
use Rattle.jvm_marks.specs.Marks.{is_listed}
use Rattle.jvm_world.specs.declared.world.World.{World}
use Rattle.jvm_world.specs.View.{named}
use Rattle.jvm_act.specs.declared.methods.MethodCode.{MethodCode}
use Rattle.jvm_act.specs.Methods.{IsCodeOf}
use Rattle.jvm_lines.specs.Lines.{IsLineReached, IsReachedIf, lines_of}
use Rattle.jvm_lines.specs.Marking.{AreMarkedRight, AreReached, IsMarkedRight, Marked, unmarked}
use Rattle.jvm_lines.proofs.Reached.{line_is}

any_step : (a more b r s : Bool) → (a ≡ true → more ≡ true) → (r ≡ true → s ≡ true) → (a && b) || r ≡ true → (more && b) || s ≡ true
any_step true true true r s f g h = refl
any_step true false true r s f g h = absurd (let e : false ≡ true = f refl in cc)
any_step true true false r s f g h = g h
any_step true false false r s f g h = g h
any_step false true true r s f g h = refl
any_step false true false r s f g h = g h
any_step false false b r s f g h = g h

-- A line that is listed by the number of its class is listed by its name.
listed_named : (p : List Info) (class line : ℕ) (pairs : List (ℕ × ℕ)) → is_listed class line pairs ≡ true → is_reached (name_at p class) line (map (named p) pairs) ≡ true
listed_named p class line [] h = absurd cc
listed_named p class line (x ∷ xs) h =
    any_step (nat_eq x.0 class) (same (name_at p x.0) (name_at p class)) (nat_eq x.1 line) (is_listed class line xs) (is_reached (name_at p class) line (map (named p) xs))
    (λ e. subst (λ k. same (name_at p x.0) (name_at p k) ≡ true) (eqb-true x.0 class e) (nat_list_eq_equiv.refl (name_at p x.0)))
    (listed_named p class line xs) h

pub listed_reached : (p : List Info) (class place at line : ℕ) (m : MethodCode) (w : World) → IsCodeOf p class place m → line ≡ line_at at (map view.line_of m.linked.lines) → is_from_file (look p (name_at p class)) ≡ true → is_listed class line w.reached ≡ true → IsLineReached p class place at (lines_of p w)
listed_reached p class place at line m w code is file listed =
    subst (λ b. IsReachedIf b (name_at p class) (line_in (code_of (method_in (look p (name_at p class)) place)) at) (lines_of p w)) (sym file)
    (subst (λ l. is_reached (name_at p class) l (lines_of p w) ≡ true) (is ∙ sym (line_is p class place at m code))
    (listed_named p class line w.reached listed))

-- The marks of a method are among all.
pub marks_are : (p : List Info) (rs : List (Name × ℕ)) (all : List Marked) (m : Marked) (place class method : ℕ) → m ≡ get_or all place unmarked → m.class ≡ class → m.method ≡ method → AreMarkedRight p all rs → AreReached p class method m.marks rs
marks_are p rs all m place class method is named placed right =
    let here : IsMarkedRight p m rs = subst (λ k. IsMarkedRight p k rs) (sym is) (right place) in
    subst (λ k. AreReached p k method m.marks rs) named (subst (λ k. AreReached p m.class k m.marks rs) placed here)
