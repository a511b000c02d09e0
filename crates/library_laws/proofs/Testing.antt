-- The codes of the library are within the bounds of a class file, by computing.
use Rattle.std.proofs.Common.{◌≡◌, ◌∙◌, refl, sym, ap, subst, ℕ, zero, suc, ◌&&◌, Bool, true, List, [], ◌∷◌, length, Option, Some, None, All, arith}
use Rattle.std.specs.Prelude.{nat_le, nat_lt, slice_get}
use Rattle.std.specs.List.{list_all}
use Rattle.std.specs.Char.Utf16.{utf16_chars}
use Rattle.std.proofs.lemmas.Bool.{and_parts, ltb-true, leb-true}
use Rattle.class_model.specs.DescriptorReading.{parameters_at}
use Rattle.class_link.specs.Linking.{link_library}
use Rattle.class_link.specs.Opcodes.{instruction_by}
use Rattle.program_rules.specs.Names.{Name}
use Rattle.program_rules.specs.Linked.{Linked, LinkedMethod, LinkedCode, LinkedRow, LinkedBody, HasCode, code_in}
use Rattle.type_laws.specs.Bounds.{IsBoundedRow, IsBounded}
use Rattle.lib_table.specs.Interfaces.{basic_interfaces, collection_interfaces}
use Rattle.lib_table.specs.LangClasses.{objects, texts, numbers}
use Rattle.lib_table.specs.Exceptions.{throwables, errors, machine_exceptions, library_exceptions}
use Rattle.lib_table.specs.Collected.{collections, list_classes, hash_classes, utility_classes, assertions}
use Rattle.lib_table.specs.Library.{library_meant}
use Rattle.library_laws.specs.Bounded.{AreBounded}
use Rattle.library_laws.proofs.Meaning.{is_table, table}

-- ---- by tests that compute

abbrev is_bounded_row : ℕ → LinkedRow → Bool
is_bounded_row count r = nat_lt r.start count && nat_lt r.start r.end && nat_le r.end count && nat_lt r.handler count

abbrev is_bounded : LinkedCode → Bool
is_bounded c = nat_lt 0 (length c.instructions) && nat_lt (length c.instructions) 65536 && nat_lt c.max_stack 65536 && nat_lt c.max_locals 65536 && list_all (is_bounded_row (length c.instructions)) c.rows

abbrev may_be_bounded : Option LinkedCode → Bool
may_be_bounded None = true
may_be_bounded (Some c) = is_bounded c

abbrev has_bounded : LinkedMethod → Bool
has_bounded m = may_be_bounded (code_in m.body)

abbrev are_bounded : Name × Linked → Bool
are_bounded x = list_all has_bounded x.1.methods

-- ---- what the tests say

bounded_row : (c : LinkedCode) (r : LinkedRow) → is_bounded_row (length c.instructions) r ≡ true → IsBoundedRow c r
bounded_row c r e =
    let n = length c.instructions in
    let a = and_parts (nat_lt r.start n && nat_lt r.start r.end && nat_le r.end n) _ e in
    let b = and_parts (nat_lt r.start n && nat_lt r.start r.end) _ a.0 in
    let d = and_parts (nat_lt r.start n) _ b.0 in
    record {
      first = record { within = ltb-true r.start n d.0; behind = ltb-true r.start r.end d.1 };
      end = leb-true r.end n b.1;
      handler = ltb-true r.handler n a.1;
    }

bounded_rows : (c : LinkedCode) (rs : List LinkedRow) → list_all (is_bounded_row (length c.instructions)) rs ≡ true → All (IsBoundedRow c) rs
bounded_rows c [] e k d l = absurd (omega (arith, l))
bounded_rows c (r ∷ rs) e zero d l = bounded_row c r (and_parts (is_bounded_row (length c.instructions) r) _ e).0
bounded_rows c (r ∷ rs) e (suc k) d l = bounded_rows c rs (and_parts (is_bounded_row (length c.instructions) r) _ e).1 k d (omega (arith, l))

bounded : (c : LinkedCode) → is_bounded c ≡ true → IsBounded c
bounded c e =
    let n = length c.instructions in
    let a = and_parts (nat_lt 0 n && nat_lt n 65536 && nat_lt c.max_stack 65536 && nat_lt c.max_locals 65536) _ e in
    let b = and_parts (nat_lt 0 n && nat_lt n 65536 && nat_lt c.max_stack 65536) _ a.0 in
    let d = and_parts (nat_lt 0 n && nat_lt n 65536) _ b.0 in
    let f = and_parts (nat_lt 0 n) _ d.0 in
    record {
      some = ltb-true 0 n f.0;
      few = ltb-true n 65536 f.1;
      stack = ltb-true c.max_stack 65536 d.1;
      locals = ltb-true c.max_locals 65536 b.1;
      rows = bounded_rows c c.rows a.1;
    }

bounded_body : (b : LinkedBody) (c : LinkedCode) → may_be_bounded (code_in b) ≡ true → b ≡ HasCode c → IsBounded c
bounded_body b c e is = bounded c (subst (λ x. may_be_bounded (code_in x) ≡ true) is e)

bounded_methods : (ms : List LinkedMethod) → list_all has_bounded ms ≡ true → (k : ℕ) (m : LinkedMethod) (c : LinkedCode) → slice_get ms k ≡ Some m → m.body ≡ HasCode c → IsBounded c
bounded_methods [] e k m c at is = cc
bounded_methods (x ∷ ms) e zero m c at is =
    let same : x ≡ m = cc in
    bounded_body x.body c (and_parts (has_bounded x) _ e).0 (ap (λ (y : LinkedMethod). y.body) same ∙ is)
bounded_methods (x ∷ ms) e (suc k) m c at is = bounded_methods ms (and_parts (has_bounded x) _ e).1 k m c at is

bounded_classes : (cs : List (Name × Linked)) → list_all are_bounded cs ≡ true → AreBounded cs
bounded_classes [] e k d l = absurd (omega (arith, l))
bounded_classes (x ∷ cs) e zero d l = bounded_methods x.1.methods (and_parts (are_bounded x) _ e).0
bounded_classes (x ∷ cs) e (suc k) d l = bounded_classes cs (and_parts (are_bounded x) _ e).1 k d (omega (arith, l))

-- ---- over the table

table_bounded : list_all are_bounded table ≡ true
unfolding link_library utf16_chars parameters_at instruction_by basic_interfaces collection_interfaces objects texts numbers throwables errors machine_exceptions library_exceptions collections list_classes hash_classes utility_classes assertions
table_bounded = refl

pub library_bounded : AreBounded library_meant
library_bounded = subst AreBounded (sym is_table) (bounded_classes table table_bounded)
