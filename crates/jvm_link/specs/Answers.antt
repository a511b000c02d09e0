-- What resolution and selection of methods answer, by number.
use Rattle.std.specs.Prelude.{◌≡◌, ◌<◌, ℕ, Bool, ⊤, List, Option, Some, Result, Ok, Err, length}
use Rattle.program_rules.specs.Names.{is_array_name}
use Rattle.program_rules.specs.declared.fault.Fault.{Fault}
use Rattle.program_rules.specs.Faults.{Answer, Found, Fails}
use Rattle.program_rules.specs.Instructions.{MethodRef}
use Rattle.program_rules.specs.Outlines.{is_interface_class}
use Rattle.program_rules.specs.Programs.{family}
use Rattle.program_rules.specs.Resolution.{same_bool, MethodAt, Candidate, clone_method, declared_method, resolve_method, found_or_none, own_initializer, search_interfaces, search_method, candidates, most_specific_concrete}
use Rattle.program_rules.specs.Selection.{if_virtual, first_through, the_one, select_named, select_virtual}
use Rattle.class_link.specs.declared.linked.MethodRef as code
use Rattle.class_link.specs.View.{method_ref_of}
use Rattle.class_link.specs.Info.{Info}
use Rattle.class_table.specs.Table.{look, name_at}
use Rattle.class_family.specs.Families.{rising_at}
use Rattle.jvm_link.specs.declared.site.Site.{Site}
use Rattle.jvm_link.specs.declared.site.Callee.{Callee}
use Rattle.jvm_link.specs.declared.site.Callee.TheVariants.{Method, ArrayClone}
use Rattle.jvm_link.specs.declared.interfaces.Specific.{Specific}
use Rattle.jvm_link.specs.declared.interfaces.Choice.{Choice}
use Rattle.jvm_link.specs.Sites.{node_at, IsMethod, AnswersMethod}
use Rattle.jvm_link.specs.Candidates.{family_at, IsSpecific, IsChoice}

-- A method of the definitions is this one.
abbrev pub IsCallee : List Info → MethodAt → Callee → Type 0
IsCallee p m (Method s) = IsMethod p (Some m) s
IsCallee p m ArrayClone = m ≡ clone_method

-- The method that a reference names.
abbrev pub named : code.MethodRef → MethodRef
named = method_ref_of

-- A search has found this method.
pub record FindsCallee (p : List Info) (answer : Answer MethodAt) (c : Callee) : Type 0 where
  pub method : MethodAt
  pub found : answer ≡ Found method
  pub callee : IsCallee p method c

-- A search answers this.
abbrev pub AnswersCall : List Info → Answer MethodAt → Result Callee Fault → Type 0
AnswersCall p answer (Ok c) = FindsCallee p answer c
AnswersCall p answer (Err fault) = answer ≡ Fails fault

-- Whether a class or an array is an interface where it has to be, and none where not.
abbrev pub IsOfKind : List Info → ℕ → Bool → Bool → Bool → Type 0
IsOfKind p a array interface agrees =
    agrees ≡ same_bool (is_interface_class (family_at p a array).class) interface

-- A reference is resolved to this, where it names this class, or an array of it.
abbrev pub ResolvesMethod : List Info → ℕ → MethodRef → Result Callee Fault → Type 0
ResolvesMethod p a r = AnswersCall p (resolve_method r (family (look p) (name_at p a)))

-- The search for an instance initializer answers this.
abbrev pub AnswersInitializer : List Info → ℕ → MethodRef → Result Callee Fault → Type 0
AnswersInitializer p a r =
    AnswersCall p (found_or_none (own_initializer r (family_at p a (is_array_name r.class))))

-- The search of a class or an array answers this.
abbrev pub SearchesMethod : List Info → ℕ → Bool → MethodRef → Result Callee Fault → Type 0
SearchesMethod p a array r = AnswersCall p (search_method r (family_at p a array))

-- The method that a class declares, where it isn't static.
abbrev pub VirtualOf : List Info → ℕ → MethodRef → Option Site → Type 0
VirtualOf p a r = AnswersMethod p (if_virtual (declared_method r.name r.desc (node_at p a)))

-- The first of a class and its superclasses that isn't static.
abbrev pub FirstVirtual : List Info → ℕ → MethodRef → Option Site → Type 0
FirstVirtual p a r = AnswersMethod p (first_through if_virtual r (rising_at p a))

-- The methods of superinterfaces of a class, or an array, answer this to selection.
abbrev pub SelectsAbove : List Info → ℕ → Bool → MethodRef → Result Callee Fault → Type 0
SelectsAbove p a array r =
    AnswersCall p (the_one (most_specific_concrete
    (candidates r.name r.desc (family_at p a array).searching)))

-- An object of this class, or an array of it, selects this by name and descriptor.
abbrev pub SelectsNamed : List Info → ℕ → Bool → MethodRef → Result Callee Fault → Type 0
SelectsNamed p a array r = AnswersCall p (select_named r (family_at p a array))

-- The class of a method is one of the program.
abbrev pub HasCallee : List Info → Callee → Type 0
HasCallee p (Method s) = s.class.0 < length p
HasCallee p ArrayClone = ⊤

-- An object of this class, or an array of it, selects this of a method that was resolved.
abbrev pub SelectsOf :
    List Info → ℕ → Bool → MethodRef → Callee → Result Callee Fault → Type 0
SelectsOf p a array r callee answer =
    (m : MethodAt) → IsCallee p m callee →
    AnswersCall p (select_virtual r m (family_at p a array)) answer

-- What a search answers that may have found a method.
abbrev pub AnswersFound : Option Site → Result Callee Fault → Type 0
AnswersFound site answer =
    (p : List Info) (o : Option MethodAt) → AnswersMethod p o site →
    AnswersCall p (found_or_none o) answer

-- What a choice answers to resolution.
abbrev pub AnswersChoice : Choice → Result Callee Fault → Type 0
AnswersChoice choice answer =
    (p : List Info) (cs : List Candidate) → IsChoice p cs choice →
    AnswersCall p (search_interfaces cs) answer

-- What the maximally-specific methods answer to selection.
abbrev pub AnswersOne : Specific → Result Callee Fault → Type 0
AnswersOne specific answer =
    (p : List Info) (cs : List Candidate) → IsSpecific p cs specific →
    AnswersCall p (the_one cs) answer
