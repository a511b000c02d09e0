-- What an index doesn't name.
use Rattle.std.proofs.Common.{◌≡◌, ◌∙◌, sym, refl, ap, ℕ, List, Option, None, Some}
use Rattle.std.specs.Prelude.{slice_get}
use Rattle.program_rules.specs.Names.{Name}
use Rattle.program_rules.specs.Instructions as def
use Rattle.class_link.specs.declared.linked.Entry.{Entry}
use Rattle.class_link.specs.Info.{Info}
use Rattle.class_link.specs.Opcodes.{on_text, on_class, on_field, on_method}
use Rattle.class_link.specs.View.{entry_symbol}
use Rattle.class_table.specs.Table.{entries_at}
use Rattle.jvm_act.specs.Acts.{NamesNoText, NamesNoClass, NamesNoField, NamesNoMethod}

-- An entry of another kind stands there, or none.
pub no_text : (p : List Info) (class index : ℕ) (o : Option Entry) → o ≡ slice_get (entries_at p class) index → ((make : Name → def.Instruction) → on_text make (entry_symbol o) ≡ def.Unlinked) → NamesNoText p class index
no_text p class index o is none make = ap (λ k. on_text make (entry_symbol k)) (sym is) ∙ none make

pub no_class : (p : List Info) (class index : ℕ) (o : Option Entry) → o ≡ slice_get (entries_at p class) index → ((make : Name → def.Instruction) → on_class make (entry_symbol o) ≡ def.Unlinked) → NamesNoClass p class index
no_class p class index o is none make = ap (λ k. on_class make (entry_symbol k)) (sym is) ∙ none make

pub no_field : (p : List Info) (class index : ℕ) (o : Option Entry) → o ≡ slice_get (entries_at p class) index → ((make : def.FieldRef → def.Instruction) → on_field make (entry_symbol o) ≡ def.Unlinked) → NamesNoField p class index
no_field p class index o is none make = ap (λ k. on_field make (entry_symbol k)) (sym is) ∙ none make

pub no_method : (p : List Info) (class index : ℕ) (o : Option Entry) → o ≡ slice_get (entries_at p class) index → ((make : def.MethodRef → def.Instruction) → on_method make (entry_symbol o) ≡ def.Unlinked) → NamesNoMethod p class index
no_method p class index o is none make = ap (λ k. on_method make (entry_symbol k)) (sym is) ∙ none make
