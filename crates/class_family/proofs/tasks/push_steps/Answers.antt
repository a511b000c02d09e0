use Rattle.std.proofs.Common.{◌≡◌, ◌∙◌, ◌++◌, Bool, true, false, [], List, refl, sym, subst, ap, ℕ, append_assoc}
use Rattle.std.specs.Prelude.{not, ◌&&◌, if◌then◌else◌}
use Rattle.class_order.specs.Graph.{supers_of}
use Rattle.class_family.specs.declared.tasks.Task.{Task}
use Rattle.class_family.specs.declared.tasks.Way.{Way}
use Rattle.class_family.specs.Walks.{enters_of, superclass_among, interfaces_among, steps_among, order_of}
use Rattle.class_family.proofs.Pushing.{enters_both}
use Rattle.class_family.proofs.tasks.push_steps.Goals as goal

two : (ts one new : List Task) (xs ys : List ℕ) → one ≡ ts ++ enters_of xs → new ≡ one ++ enters_of ys → new ≡ ts ++ enters_of (ys ++ xs)
two ts one new xs ys e h = h ∙ ap (λ l. l ++ enters_of ys) e ∙ append_assoc ts (enters_of xs) (enters_of ys) ∙ ap (λ l. ts ++ l) (sym (enters_both ys xs))

begun : (named interface : Bool) (ns : List ℕ) → superclass_among (named && not interface) ns ≡ (if interface then [] else superclass_among named ns)
begun true true ns = refl
begun true false ns = refl
begun false true ns = refl
begun false false ns = refl

pub returns-in_ok-push_interfaces-in-Searching : goal.returns-in_ok-push_interfaces-in-Searching
returns-in_ok-push_interfaces-in-Searching c =
    let ns = supers_of c.args.links.now in
    subst (λ (w : Way). c.push_interfaces.new.tasks.items ≡ c.args.tasks.now.items ++ enters_of (steps_among (order_of w) c.args.named c.args.interface ns)) (sym c.in-Searching.is)
    (two c.args.tasks.now.items c.push_superclass.new.tasks.items c.push_interfaces.new.tasks.items (superclass_among c.args.named ns) (interfaces_among c.args.named ns) c.in_ok-push_superclass-in-Searching.ensures c.in_ok-push_interfaces-in-Searching.ensures)
