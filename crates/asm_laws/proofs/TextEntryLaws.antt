-- What an instruction names is read as it is printed.
use Rattle.std.proofs.Common.{◌≡◌, ◌∙◌, refl, ap, ℕ, ◌≤◌, Bool, true, false, cond, List, [], ◌∷◌, Option, Some, None, arith}
use Rattle.std.specs.Prelude.{ℤ, option_and_then}
use Rattle.std.specs.Fmt.{decimal, signed_decimal}
use Rattle.std.specs.List.{AllByRecursion}
use Rattle.std.specs.Option.{option_map}
use Rattle.std.proofs.lemmas.Bool.{ne_eqb}
use Rattle.class_model.specs.DescriptorReading.{method_kinds}
use Rattle.asm_words.specs.Quoted.{begins_quoted, quoted_in}
use Rattle.asm_words.specs.Entries.{is_class_entry, member_name, call_words_of}
use Rattle.asm_words.specs.Named.{class_in, plain_constant, constant, long_constant, field, method_entry, interface_method, any_method, interface, class, dimensions}
use Rattle.asm_words.specs.declared.stated.StatedConstant.{StatedConstant}
use Rattle.asm_words.specs.declared.stated.StatedConstant.TheVariants as entry
use Rattle.asm_words.specs.declared.stated.MemberName.{MemberName}
use Rattle.asm_words.specs.declared.stated.Operand.TheVariants as operand
use Rattle.asm_laws.specs.HasText.{IsNamed, IsMember, IsConstant, is_field_desc, is_method_desc}
use Rattle.asm_laws.specs.Insns.{constant_words, entry_words}
use Rattle.asm_laws.specs.Words.{joined, member_word, Lacks}
use Rattle.asm_laws.proofs.NumberLaws.{between_is, up_to_is, fits_four, IsGlyph, signed_glyphs_are, size}
use Rattle.asm_laws.proofs.QuotedLaws.{quoted_is}
use Rattle.asm_laws.proofs.WordLaws.{last_parted_is}

pub class_is : (name : List ℕ) → is_class_entry name ≡ true → class_in name ≡ Some name
class_is name e = ap (λ (b : Bool). cond b (Some name) None) e

-- ---- constants

unquoted_glyphs : (word : List ℕ) → AllByRecursion IsGlyph word → begins_quoted word ≡ false
unquoted_glyphs [] all = refl
unquoted_glyphs (x ∷ word) all = ne_eqb x 34 (λ e. omega (arith, e, all.0.0))

integer_is : (n : ℤ) (line : List ℕ) → size n ≤ 0x7FFF_FFFF → constant (signed_decimal n ∷ []) line ≡ Some (entry.Integer n)
integer_is n line small =
    ap (λ (b : Bool). cond b (option_map entry.Text (quoted_in line)) (plain_constant (signed_decimal n ∷ []))) (unquoted_glyphs (signed_decimal n) (signed_glyphs_are n (omega (arith, small))))
    ∙ ap (option_map entry.Integer) (between_is 0x7FFF_FFFF n (omega arith) small)

pub constant_is : (m : List ℕ) (e : StatedConstant) → Lacks 34 m → IsConstant e → constant (constant_words e) (joined (m ∷ constant_words e)) ≡ Some e
constant_is m (entry.Integer n) l h = integer_is n (joined (m ∷ signed_decimal n ∷ [])) (fits_four n h)
constant_is m (entry.Long n) l h = absurd h
constant_is m (entry.Class name) l h = ap (option_map entry.Class) (class_is name h.entry)
constant_is m (entry.Text units) l h = ap (option_map entry.Text) (quoted_is m units l h)
constant_is m (entry.Field member) l h = absurd h
constant_is m (entry.Method member) l h = absurd h
constant_is m (entry.InterfaceMethod member) l h = absurd h

pub long_is : (n : ℤ) → size n ≤ 0x7FFF_FFFF_FFFF_FFFF → long_constant (signed_decimal n ∷ []) ≡ Some (operand.Named (entry.Long n))
long_is n small = ap (option_map (λ (x : ℤ). operand.Named (entry.Long x))) (between_is 0x7FFF_FFFF_FFFF_FFFF n (omega arith) small)

-- ---- members

name_is : (is_desc : List ℕ → Bool) (member : MemberName) → IsMember is_desc member → member_name (member_word member) member.desc ≡ Some member
name_is is_desc member h =
    ap (option_and_then (λ (x : List ℕ × List ℕ). cond (is_class_entry x.0) (Some (record { class = x.0; name = x.1; desc = member.desc })) None)) (last_parted_is 46 member.class member.name h.name)
    ∙ ap (λ (b : Bool). cond b (Some member) None) h.class

pub field_is : (member : MemberName) → IsMember is_field_desc member → field (member_word member ∷ member.desc ∷ []) ≡ Some (operand.Named (entry.Field member))
field_is member h =
    ap (λ (b : Bool). cond b (option_map (λ (m : MemberName). operand.Named (entry.Field m)) (member_name (member_word member) member.desc)) None) h.typed
    ∙ ap (option_map (λ (m : MemberName). operand.Named (entry.Field m))) (name_is is_field_desc member h)

pub method_is : (member : MemberName) → IsMember is_method_desc member → method_entry (member_word member) member.desc ≡ Some (operand.Named (entry.Method member))
method_is member h =
    ap (λ (b : Bool). cond b (option_map (λ (m : MemberName). operand.Named (entry.Method m)) (member_name (member_word member) member.desc)) None) h.typed
    ∙ ap (option_map (λ (m : MemberName). operand.Named (entry.Method m))) (name_is is_method_desc member h)

interface_method_is : (member : MemberName) → IsMember is_method_desc member → interface_method (member_word member) member.desc ≡ Some (entry.InterfaceMethod member)
interface_method_is member h =
    ap (λ (b : Bool). cond b (option_map entry.InterfaceMethod (member_name (member_word member) member.desc)) None) h.typed
    ∙ ap (option_map entry.InterfaceMethod) (name_is is_method_desc member h)

pub any_method_is : (member : MemberName) (is_interface : Bool) → IsMember is_method_desc member
    → any_method (entry_words (cond is_interface (entry.InterfaceMethod member) (entry.Method member))) ≡ Some (operand.Named (cond is_interface (entry.InterfaceMethod member) (entry.Method member)))
any_method_is member true h = ap (option_map operand.Named) (interface_method_is member h)
any_method_is member false h = method_is member h

pub interface_is : (member : MemberName) (count : ℕ) → IsMember is_method_desc member → call_words_of (method_kinds member.desc) ≡ Some count
    → interface (member_word member ∷ member.desc ∷ []) ≡ Some (operand.Counted (entry.InterfaceMethod member) count)
interface_is member count h counted =
    ap (option_and_then (λ (n : ℕ). option_map (λ (e : StatedConstant). operand.Counted e n) (interface_method (member_word member) member.desc))) counted
    ∙ ap (option_map (λ (e : StatedConstant). operand.Counted e count)) (interface_method_is member h)

-- ---- classes

pub class_operand_is : (name : List ℕ) → IsNamed name → class (name ∷ []) ≡ Some (operand.Named (entry.Class name))
class_operand_is name h = ap (λ (o : Option (List ℕ)). option_map operand.Named (option_map entry.Class o)) (class_is name h.entry)

pub dimensions_is : (name : List ℕ) (count : ℕ) → IsNamed name → count ≤ 0xFF → dimensions (name ∷ decimal count ∷ []) ≡ Some (operand.Counted (entry.Class name) count)
dimensions_is name count h small =
    ap (option_and_then (λ (n : ℕ). option_map (λ (x : List ℕ). operand.Counted (entry.Class x) n) (class_in name))) (up_to_is 0xFF count (omega arith) small)
    ∙ ap (option_map (λ (x : List ℕ). operand.Counted (entry.Class x) count)) (class_is name h.entry)
