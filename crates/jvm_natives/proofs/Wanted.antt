-- What a native method wants done in the worlds that are meant.
use Rattle.std.proofs.Common.{◌≡◌, ◌∙◌, sym, refl, ap, subst, List, []}
use Rattle.program_rules.specs.declared.value.Value.{Value}
use Rattle.program_rules.specs.Names.{Name}
use Rattle.program_rules.specs.Objects as def_objects
use Rattle.program_rules.specs.Deeds.{Meaning}
use Rattle.machine_rules.specs.State as def
use Rattle.library_rules.specs.declared.native.AssertionNative.{AssertionNative}
use Rattle.library_rules.specs.declared.native.AssertionNative.TheVariants as assertion
use Rattle.library_rules.specs.Numbered.{assertion_meaning}
use Rattle.jvm_values.specs.declared.object.Object.{Object}
use Rattle.class_link.specs.Info.{Info}
use Rattle.class_table.specs.Table.{names}
use Rattle.jvm_world.specs.declared.world.World.{World}
use Rattle.jvm_world.specs.View.{Means}
use Rattle.lib_core.specs.declared.deed.Deed.{Deed}
use Rattle.lib_core.specs.Answers.{AnswersAmong, AnswersAlone}
use Rattle.lib_core.specs.Known.{IsKnown}
use Rattle.lib_core.specs.View.{deed_of}
use Rattle.lib_core.specs.View as def_view
use Rattle.jvm_natives.specs.declared.natives.Natives.{Natives}
use Rattle.jvm_natives.specs.Natives.{AreNatives, Wants}
use Rattle.jvm_natives.proofs.Stores.{objects_same, heap_is}

-- An assertion looks at no object.
alone : (n : AssertionNative) (heap : List def_objects.Object) (args : List Value) → assertion_meaning n heap args ≡ assertion_meaning n [] args
alone assertion.EqualInts heap args = refl
alone assertion.EqualLongs heap args = refl
alone assertion.True heap args = refl
alone assertion.False heap args = refl
alone assertion.Null heap args = refl
alone assertion.NotNull heap args = refl
alone assertion.Same heap args = refl
alone assertion.NotSame heap args = refl
alone assertion.Fail heap args = refl

pub asserted : (n : AssertionNative) (ns : List Name) (os : List Object) (args : List Value) (d : Deed) → AnswersAlone (assertion_meaning n) args d → AnswersAmong ns (assertion_meaning n) os args d
asserted n ns os args d h = alone n (def_view.objects_of ns os) args ∙ h

pub wanted : (p : List Info) (w : World) (n : Natives) (m : Meaning) (os : List Object) (args : List Value) (d : Deed) → AreNatives p n → os ≡ w.heap.objects → (IsKnown n.names n.known → AnswersAmong n.names m os args d) → Wants p w m args d
wanted p w n m os args d are same h v means =
    ap (λ hs. m hs args) (heap_is p w v means ∙ sym (objects_same p w.heap.objects))
    ∙ subst (λ (xs : List Object). AnswersAmong (names p) m xs args d) same
    (subst (λ (ns : List Name). AnswersAmong ns m os args d) are.listed
    (h (subst (λ (ns : List Name). IsKnown ns n.known) (sym are.listed) are.known)))
