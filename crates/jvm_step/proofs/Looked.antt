-- What is looked up for a program.
use Rattle.std.proofs.Common.{◌≡◌, ◌∙◌, refl, ap, subst, Bool, true, false, ℕ, ◌<◌, List, ◌++◌, length, Option, Some, None, slice_get}
use Rattle.std.specs.Prelude.{◌||◌, is_none}
use Rattle.std.proofs.lemmas.List.{length-map}
use Rattle.std.proofs.lemmas.Option.{slice_get_within}
use Rattle.std.proofs.lemmas.List.Folds.{list_any-append}
use Rattle.program_rules.specs.Names.{Name}
use Rattle.program_rules.specs.Programs.{Look}
use Rattle.program_rules.specs.declared.making.Making.TheVariants as making
use Rattle.class_link.specs.Info.{Info}
use Rattle.class_table.specs.Table.{names, name_or_none}
use Rattle.lib_core.specs.declared.known.Known.{Known}
use Rattle.lib_core.specs.Known.{IsKnown}
use Rattle.jvm_lines.specs.Below.{FindsClass, text_name}
use Rattle.jvm_world.specs.Classes.{machine_names}
use Rattle.jvm_world.specs.Finding.{lacks}
use Rattle.jvm_lines.specs.Below.{made_names}
use Rattle.jvm_step.specs.Tables.{looked_up}

lacks_either : (p : Look) (ns ms : List Name) → lacks p (ns ++ ms) ≡ (lacks p ns || lacks p ms)
lacks_either p ns ms = list_any-append (λ n. is_none (p n)) ns ms

or_true : (b : Bool) → (b || true) ≡ true
or_true true = refl
or_true false = refl

pub lacks_own : (p : Look) → lacks p machine_names ≡ true → lacks p looked_up ≡ true
lacks_own p e = lacks_either p machine_names made_names ∙ ap (λ b. b || lacks p made_names) e

pub lacks_made : (p : Look) → lacks p made_names ≡ true → lacks p looked_up ≡ true
lacks_made p e =
    lacks_either p machine_names made_names ∙ ap (λ b. lacks p machine_names || b) e
    ∙ or_true (lacks p machine_names)

pub lacks_none : (p : Look) → lacks p machine_names ≡ false → lacks p made_names ≡ false → lacks p looked_up ≡ false
lacks_none p e h =
    lacks_either p machine_names made_names ∙ ap (λ b. b || lacks p made_names) e ∙ h

-- The class of texts is known among those of which native methods make objects.
there_is :
    (ns : List Name) (k : ℕ) (o : Option Name) → slice_get ns k ≡ o → name_or_none o ≡ text_name →
    k < length ns
there_is ns k None is e = absurd cc
there_is ns k (Some n) is e = slice_get_within ns k n is

pub texts_found :
    (p : List Info) (known : Known) → IsKnown (names p) known →
    FindsClass p text_name (Some known.text)
texts_found p known h = record {
  within = subst (λ n. known.text.0 < n) (length-map p (λ (i : Info). i.name))
      (there_is (names p) known.text.0 (slice_get (names p) known.text.0) refl (h.named making.Text));
  named = h.named making.Text;
}
