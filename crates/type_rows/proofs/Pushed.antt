-- Words on a stack.
use Rattle.std.proofs.Common.{◌≡◌, ◌∷◌, [], ◌++◌, ◌∙◌, List, refl, sym, ap}
use Rattle.vframes.specs.declared.named.Named.{Named}
use Rattle.vframes.specs.declared.slot_type.SlotType.{SlotType}
use Rattle.vframes.specs.View.{type_of, types_in}

pushed : (ns : List Named) (ts rest : List SlotType) → types_in ns (ts ++ rest) ≡ types_in ns ts ++ types_in ns rest
pushed ns [] rest = refl
pushed ns (t ∷ ts) rest = ap (λ l. type_of ns t ∷ l) (pushed ns ts rest)

pub pushed_twice : (ns : List Named) (ts rest one new : List SlotType) → one ≡ ts ++ rest → new ≡ ts ++ one → types_in ns ts ++ (types_in ns ts ++ types_in ns rest) ≡ types_in ns new
pushed_twice ns ts rest one new e f =
    sym (ap (types_in ns) f ∙ pushed ns ts one ∙ ap (λ l. types_in ns ts ++ l) (ap (types_in ns) e ∙ pushed ns ts rest))

pub pushed_below : (ns : List Named) (ts us rest one two new : List SlotType) → one ≡ ts ++ rest → two ≡ us ++ one → new ≡ ts ++ two → types_in ns ts ++ (types_in ns us ++ (types_in ns ts ++ types_in ns rest)) ≡ types_in ns new
pushed_below ns ts us rest one two new e f g =
    sym (ap (types_in ns) g ∙ pushed ns ts two ∙ ap (λ l. types_in ns ts ++ l)
    (ap (types_in ns) f ∙ pushed ns us one ∙ ap (λ l. types_in ns us ++ l) (ap (types_in ns) e ∙ pushed ns ts rest)))
