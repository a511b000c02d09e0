-- The copy of an array.
use Rattle.std.specs.Prelude.{◌≡◌, ℕ, ◌+◌, List, [], ◌∷◌, length, Option, None, Some}
use Rattle.std.specs.Option.{option_map}
use Rattle.program_rules.specs.declared.value.Value.{Value}
use Rattle.program_rules.specs.declared.value.Value.TheVariants.{Int, Long, Ref, Null}
use Rattle.program_rules.specs.Objects as objects
use Rattle.machine_rules.specs.State as def
use Rattle.machine_rules.specs.declared.machine.Limits.{Limits}
use Rattle.machine_rules.specs.Effects.{allocate}
use Rattle.machine_rules.specs.Arrays.{array_kind}
use Rattle.machine_rules.specs.NewObjects.{array_of}
use Rattle.class_link.specs.Info.{Info}
use Rattle.jvm_values.specs.declared.object.Object.{Object}
use Rattle.jvm_world.specs.declared.world.World.{World}
use Rattle.jvm_world.specs.View.{Means, object_of}

-- The object of these arguments, if it is the only one of them.
abbrev pub sole : List Value → Option ℕ
sole [] = None
sole (Int z ∷ vs) = None
sole (Long z ∷ vs) = None
sole (Ref x ∷ []) = Some x
sole (Ref x ∷ v ∷ vs) = None
sole (Null ∷ vs) = None

-- An array with the same elements, of what is an array.
abbrev pub copy_in : Option objects.Object → Option objects.Object
copy_in None = None
copy_in (Some b) = option_map (λ k. array_of k b.values) (array_kind b.kind)

-- It is this one of an object of the code.
abbrev pub IsCopy : Object → Option Object → Type 0
IsCopy o c = (p : List Info) → copy_in (Some (object_of p o)) ≡ option_map (object_of p) c

-- It is this one of the object of a number, in each world that is meant.
abbrev pub TellsCopy : List Info → World → ℕ → Option Object → Type 0
TellsCopy p w x c =
    (v : def.World) → Means p w v → copy_in (objects.object_at v.heap x) ≡ option_map (object_of p) c

-- The making of it: it takes the words of a new array.
abbrev pub copy_made : List Info → Object → Limits → def.World → Option (def.World × ℕ)
copy_made p c q z = allocate q z (object_of p c) (2 + length c.values)
