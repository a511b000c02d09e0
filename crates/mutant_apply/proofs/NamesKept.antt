-- A class that has a spelling goes by the same names where entries are put behind its pool.
use Rattle.std.proofs.Common.{◌≡◌, ◌∙◌, sym, refl, ap, subst, ℕ, zero, suc, ◌-◌, Bool, true, false, List, [], ◌∷◌, ◌++◌, Option, None, Some}
use Rattle.std.specs.Prelude.{◌==◌, slice_get, IsSome, IsSomeAnd, is_some, if◌then◌else◌, option_and_then}
use Rattle.std.specs.List.{AllByRecursion}
use Rattle.class_model.specs.DeclaredName.{is_class_name}
use Rattle.class_model.specs.Pool.{entry_of, class_in, text_of, class_name_of, IsClassEntryName, IsEntry, IsPoolForm}
use Rattle.class_model.specs.declared.class.Class.{Class}
use Rattle.class_model.specs.declared.constant.Const.{Const}
use Rattle.class_model.specs.declared.constant.Const.TheVariants as const
use Rattle.mt_pool.specs.Indices.{is_some_and}
use Rattle.class_reader.specs.Indices.{names_class, names_this, names_parent}
use Rattle.class_reader.specs.Spells.{IsInterface, IsClass}
use Rattle.mutant_apply.proofs.Lists.{all_at}
use Rattle.mutant_apply.proofs.PoolLaws.{some_of, class_kept}

formed_case : (pool : List Const) (b : Bool) (k : ℕ) (c : Const) → IsPoolForm pool → (if b then None else slice_get pool k) ≡ Some c → IsEntry pool c
formed_case pool true k c form e = absurd cc
formed_case pool false k c form e = all_at (IsEntry pool) pool k c form.entries e

-- what an index names is an entry of the pool
pub formed : (pool : List Const) (i : ℕ) (c : Const) → IsPoolForm pool → entry_of pool i ≡ Some c → IsEntry pool c
formed pool i c form e = formed_case pool (i == 0) (i - 1) c form e

passes_some : {A : Type 0} (test : A → Bool) (o : Option A) → is_some_and test o ≡ true → IsSome o
passes_some test None e = absurd cc
passes_some test (Some x) e = refl

class_case : (pool : List Const) (c : Const) → IsEntry pool c → is_some (class_in c) ≡ true → IsSome (option_and_then (text_of pool) (class_in c))
class_case pool (const.Class name) h e = some_of IsClassEntryName (text_of pool name) h
class_case pool other h e = absurd cc

entry_case : (pool : List Const) (i : ℕ) (o : Option Const) → entry_of pool i ≡ o → IsPoolForm pool → is_some (option_and_then class_in o) ≡ true → IsSome (option_and_then (text_of pool) (option_and_then class_in o))
entry_case pool i None e form h = absurd cc
entry_case pool i (Some c) e form h = class_case pool c (formed pool i c form e) h

-- an index of a class names one with a name
pub class_named : (pool : List Const) (i : ℕ) → IsPoolForm pool → names_class pool i ≡ true → IsSome (class_name_of pool i)
class_named pool i form h = entry_case pool i (entry_of pool i) refl form h

else_is : (b x y : Bool) → b ≡ false → (if b then x else y) ≡ true → y ≡ true
else_is true x y e h = absurd cc
else_is false x y e h = h

-- the names of a class of a pool with others behind it
pub record SameNames (class : Class) (more : List Const) : Type 0 where
  pub this : class_name_of (class.pool ++ more) class.this ≡ class_name_of class.pool class.this
  pub parent : (class.parent == 0) ≡ false → class_name_of (class.pool ++ more) class.parent ≡ class_name_of class.pool class.parent
  pub interfaces : AllByRecursion (λ i. class_name_of (class.pool ++ more) i ≡ class_name_of class.pool i) class.interfaces

each_interface : (pool more : List Const) (is : List ℕ) → IsPoolForm pool → AllByRecursion (IsInterface pool) is → AllByRecursion (λ i. class_name_of (pool ++ more) i ≡ class_name_of pool i) is
each_interface pool more [] form q = tt
each_interface pool more (i ∷ is) form q = (class_kept pool more i (class_named pool i form q.0.1), each_interface pool more is form q.1)

pub same_names : (class : Class) (more : List Const) → IsClass class → SameNames class more
same_names class more is =
    let pool = is.pool in
    let interfaces = is.interfaces in
    record {
      this = class_kept class.pool more class.this (passes_some is_class_name (class_name_of class.pool class.this) is.named);
      parent = λ some. class_kept class.pool more class.parent (class_named class.pool class.parent pool.form (else_is (class.parent == 0) _ (names_class class.pool class.parent) some is.extends));
      interfaces = each_interface class.pool more class.interfaces pool.form interfaces.each;
    }
