-- What is known of the steps of a sequence that came to its end.
use Rattle.std.proofs.Common.{◌≡◌, Bool, true, false, cond, Option, Some, None, Result, Ok, Err, refl}
use Rattle.codec_rules.specs.Sequence.{◌>>=◌, or_fault, unless}

-- a value, as a step that gives it
abbrev pub done : {F A : Type 0} → A → Result A F
done value = Ok value

pub ok_is : {F A : Type 0} (a b : A) → done {F = F} a ≡ done b → a ≡ b
ok_is a b e = cc

-- both steps of a sequence that gave a value gave one
pub bind_ok : {F A B : Type 0} (first : Result A F) (next : A → Result B F) (value : B) → (first >>= next) ≡ Ok value → (x : A) × (first ≡ Ok x) × (next x ≡ Ok value)
bind_ok (Ok x) next value e = (x, refl, e)
bind_ok (Err fault) next value e = absurd cc

-- a step of other faults gave a value
pub or_fault_ok : {E F A : Type 0} (fault : E → F) (step : Result A E) (value : A) → or_fault fault step ≡ Ok value → step ≡ Ok value
or_fault_ok {E} {F} fault (Ok x) value e = let same : x ≡ value = ok_is {F = F} x value e in rw same refl
or_fault_ok fault (Err error) value e = absurd cc

-- a guard that refuses where a test is true let a value through
pub guard_ok : {F A : Type 0} (test : Bool) (fault : F) (a b : A) → cond test (Err fault) (Ok a) ≡ Ok b → (test ≡ false) × (a ≡ b)
guard_ok true fault a b e = absurd cc
guard_ok false fault a b e = (refl, cc)

-- a guard that refuses where a test is false let a value through
pub guard_passed : {F A : Type 0} (test : Bool) (fault : F) (a b : A) → cond test (Ok a) (Err fault) ≡ Ok b → (test ≡ true) × (a ≡ b)
guard_passed true fault a b e = (refl, cc)
guard_passed false fault a b e = absurd cc

-- a value passed, so there was no fault
pub unless_ok : {F A : Type 0} (fault : Option F) (a b : A) → unless fault a ≡ Ok b → (fault ≡ None) × (a ≡ b)
unless_ok {F} None a b e = (refl, ok_is {F = F} a b e)
unless_ok (Some fault) a b e = absurd cc
