-- A layout and the bound that it tells.
use Rattle.std.proofs.Common.{◌≡◌, ℕ, List, ◌++◌, Result, Ok, Err, refl, append_assoc}
use Rattle.std.specs.Prelude.{◌≢◌, Option, Some, None, OnOk}
use Rattle.std.specs.Option.{option_map}
use Rattle.class_model.specs.declared.fault.Bound.{Bound}
use Rattle.class_model.specs.declared.fault.LayoutFault.{LayoutFault}
use Rattle.class_model.specs.declared.fault.LayoutFault.TheVariants as layout_fault
use Rattle.codec_rules.specs.Meets.{Gives}
use Rattle.codec_rules.specs.Sequence.{unless}
use Rattle.mt_attrs.specs.Layout.{Writes, bound_in, or_bound}

pub unless_passed : (b : Option Bound) (bytes told : List ℕ) → unless (option_map layout_fault.TooLarge b) bytes ≡ Ok told → b ≡ None
unless_passed None bytes told e = refl
unless_passed (Some b) bytes told e = absurd cc

unless_told : (b : Option Bound) (bytes : List ℕ) (e : LayoutFault) → unless (option_map layout_fault.TooLarge b) bytes ≡ Err e → option_map layout_fault.TooLarge b ≡ Some e
unless_told None bytes e p = absurd cc
unless_told (Some b) bytes e p = cc

-- a call that gives a stated layout writes
pub attrs_written : (b : Option Bound) (bytes old new : List ℕ) (result : Result Unit LayoutFault) → Gives layout_fault.Memory (λ (done : Unit). bytes) (unless (option_map layout_fault.TooLarge b) bytes) result → OnOk result (new ≡ old ++ bytes) → Writes b bytes old new result
attrs_written b bytes old new (Ok done) given added = (unless_passed b bytes bytes given, added)
attrs_written b bytes old new (Err e) given added = λ some. unless_told b bytes e (given some)

pub bound_passed : (l : Result (List ℕ) LayoutFault) (bytes : List ℕ) → l ≡ Ok bytes → bound_in l ≡ None
bound_passed (Ok told) bytes e = refl
bound_passed (Err e) bytes p = absurd cc

bound_told : (l : Result (List ℕ) LayoutFault) (e : LayoutFault) → e ≢ layout_fault.Memory → l ≡ Err e → option_map layout_fault.TooLarge (bound_in l) ≡ Some e
bound_told (Ok told) e some p = absurd cc
bound_told (Err (layout_fault.TooLarge what)) e some p = cc
bound_told (Err layout_fault.Memory) e some p = absurd (some cc)

pub pool_written : (l : Result (List ℕ) LayoutFault) (bytes old new : List ℕ) (result : Result Unit LayoutFault) → Gives layout_fault.Memory (λ (done : Unit). bytes) l result → OnOk result (new ≡ old ++ bytes) → Writes (bound_in l) bytes old new result
pool_written l bytes old new (Ok done) given added = (bound_passed l bytes given, added)
pool_written l bytes old new (Err e) given added = λ some. bound_told l e some (given some)

-- no part of a class passes a bound
pub none_passed : (p i f m a : Option Bound) → p ≡ None → i ≡ None → f ≡ None → m ≡ None → a ≡ None → or_bound p (or_bound i (or_bound f (or_bound m a))) ≡ None
none_passed p i f m a e1 e2 e3 e4 e5 = rw (e1, e2, e3, e4, e5) refl

-- eleven items, one behind the other
pub joined : (o a b c d e f g h i j k : List ℕ) → o ++ a ++ b ++ c ++ d ++ e ++ f ++ g ++ h ++ i ++ j ++ k ≡ o ++ (a ++ (b ++ (c ++ (d ++ (e ++ (f ++ (g ++ (h ++ (i ++ (j ++ k))))))))))
joined o a b c d e f g h i j k = simp append_assoc
