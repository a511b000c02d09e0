-- What the native methods mean, by name and by number.
use Rattle.std.specs.Prelude.{ℕ, Option, slice_get}
use Rattle.std.specs.Option.{option_map}
use Rattle.program_rules.specs.declared.making.Making.TheVariants as making
use Rattle.program_rules.specs.Deeds.{Meaning}
use Rattle.program_rules.specs.Natives.{do_nothing, append_text, builder_text, integer_value_of, short_value_of, int_value, element_of_list, add_element, assert_true, assert_false}
use Rattle.library_rules.specs.Objects.{same_object, allocation_number, object_text, name_of_class, assertion_status, enum_init, enum_name, enum_ordinal, compare_enum, compare_any_enum, object_class, message, cause, set_message, set_cause, set_message_and_cause, empty_optional, optional_of, optional_of_nullable, is_present, optional_value, optional_or_else}
use Rattle.library_rules.specs.Texts.{text_length, is_empty, char_at, text_equals, text_hash, compare_text, compare_any_text, concat, substring_from, substring, index_of_char, index_of_text, text_starts_with, text_ends_with, itself, text_of_int, text_of_long, text_of_char, text_of_bool, text_chars, builder_of_capacity, builder_of_text, append_int, append_long, append_char, append_bool}
use Rattle.library_rules.specs.Numbers.{long_value_of, byte_value_of, char_value_of, bool_value_of, int_as_long, long_value, long_as_int, long_hash, bool_hash, box_text, long_text, char_box_text, bool_box_text, box_equals, long_equals, compare_box, compare_long_box, subtract_box, compare_ints, compare_longs, parse_int, char_is_digit, char_is_letter, abs_int, abs_long, max_int, max_long, min_int, min_long, floor_mod}
use Rattle.library_rules.specs.Collections.{list_of_capacity, list_size, has_no_items, clear_items, set_element, insert_element, remove_element, unsupported, entry_count, entry_hash, entry_key, entry_value, set_entry_value, add_entry, cut_entry, key_set, value_list, list_iterator, set_iterator, has_next, next, empty_list, empty_set, as_list}
use Rattle.library_rules.specs.Assertions.{assert_equal_ints, assert_equal_longs, assert_null, assert_not_null, assert_same, assert_not_same, fail}
use Rattle.library_rules.specs.declared.native.TheConstants.{NATIVES}
use Rattle.library_rules.specs.declared.native.Native.{Native}
use Rattle.library_rules.specs.declared.native.Native.TheVariants as native
use Rattle.library_rules.specs.declared.native.LangNative.{LangNative}
use Rattle.library_rules.specs.declared.native.LangNative.TheVariants as lang
use Rattle.library_rules.specs.declared.native.UtilNative.{UtilNative}
use Rattle.library_rules.specs.declared.native.UtilNative.TheVariants as util
use Rattle.library_rules.specs.declared.native.ObjectNative.{ObjectNative}
use Rattle.library_rules.specs.declared.native.ObjectNative.TheVariants as object
use Rattle.library_rules.specs.declared.native.ThrowableNative.{ThrowableNative}
use Rattle.library_rules.specs.declared.native.ThrowableNative.TheVariants as throwable
use Rattle.library_rules.specs.declared.native.OptionalNative.{OptionalNative}
use Rattle.library_rules.specs.declared.native.OptionalNative.TheVariants as optional
use Rattle.library_rules.specs.declared.native.TextNative.{TextNative}
use Rattle.library_rules.specs.declared.native.TextNative.TheVariants as text
use Rattle.library_rules.specs.declared.native.BuilderNative.{BuilderNative}
use Rattle.library_rules.specs.declared.native.BuilderNative.TheVariants as builder
use Rattle.library_rules.specs.declared.native.BoxNative.{BoxNative}
use Rattle.library_rules.specs.declared.native.BoxNative.TheVariants as box
use Rattle.library_rules.specs.declared.native.OrderNative.{OrderNative}
use Rattle.library_rules.specs.declared.native.OrderNative.TheVariants as order
use Rattle.library_rules.specs.declared.native.NumberNative.{NumberNative}
use Rattle.library_rules.specs.declared.native.NumberNative.TheVariants as number
use Rattle.library_rules.specs.declared.native.ListNative.{ListNative}
use Rattle.library_rules.specs.declared.native.ListNative.TheVariants as list
use Rattle.library_rules.specs.declared.native.EntryNative.{EntryNative}
use Rattle.library_rules.specs.declared.native.EntryNative.TheVariants as entry
use Rattle.library_rules.specs.declared.native.IteratorNative.{IteratorNative}
use Rattle.library_rules.specs.declared.native.IteratorNative.TheVariants as iterator
use Rattle.library_rules.specs.declared.native.AssertionNative.{AssertionNative}
use Rattle.library_rules.specs.declared.native.AssertionNative.TheVariants as assertion

abbrev pub object_meaning : ObjectNative → Meaning
object_meaning object.DoNothing = do_nothing
object_meaning object.SameObject = same_object
object_meaning object.AllocationNumber = allocation_number
object_meaning object.ObjectText = object_text
object_meaning object.NameOfClass = name_of_class
object_meaning object.AssertionStatus = assertion_status
object_meaning object.EnumInit = enum_init
object_meaning object.EnumName = enum_name
object_meaning object.EnumOrdinal = enum_ordinal
object_meaning object.CompareEnum = compare_enum
object_meaning object.ClassOf = object_class
object_meaning object.CompareAny = compare_any_enum

abbrev pub throwable_meaning : ThrowableNative → Meaning
throwable_meaning throwable.Message = message
throwable_meaning throwable.Cause = cause
throwable_meaning throwable.SetMessage = set_message
throwable_meaning throwable.SetCause = set_cause
throwable_meaning throwable.SetMessageAndCause = set_message_and_cause

abbrev pub optional_meaning : OptionalNative → Meaning
optional_meaning optional.Empty = empty_optional
optional_meaning optional.Of = optional_of
optional_meaning optional.OfNullable = optional_of_nullable
optional_meaning optional.IsPresent = is_present
optional_meaning optional.Value = optional_value
optional_meaning optional.OrElse = optional_or_else

abbrev pub text_meaning : TextNative → Meaning
text_meaning text.Length = text_length
text_meaning text.IsEmpty = is_empty
text_meaning text.CharAt = char_at
text_meaning text.Equals = text_equals
text_meaning text.Hash = text_hash
text_meaning text.Compare = compare_text
text_meaning text.CompareAny = compare_any_text
text_meaning text.Concat = concat
text_meaning text.SubstringFrom = substring_from
text_meaning text.Substring = substring
text_meaning text.IndexOfChar = index_of_char
text_meaning text.IndexOfText = index_of_text
text_meaning text.StartsWith = text_starts_with
text_meaning text.EndsWith = text_ends_with
text_meaning text.Itself = itself
text_meaning text.OfInt = text_of_int
text_meaning text.OfLong = text_of_long
text_meaning text.OfChar = text_of_char
text_meaning text.OfBool = text_of_bool
text_meaning text.Chars = text_chars

abbrev pub builder_meaning : BuilderNative → Meaning
builder_meaning builder.OfCapacity = builder_of_capacity
builder_meaning builder.OfText = builder_of_text
builder_meaning builder.AppendText = append_text
builder_meaning builder.AppendInt = append_int
builder_meaning builder.AppendLong = append_long
builder_meaning builder.AppendChar = append_char
builder_meaning builder.AppendBool = append_bool
builder_meaning builder.ToText = builder_text

abbrev pub box_meaning : BoxNative → Meaning
box_meaning box.OfInt = integer_value_of
box_meaning box.OfLong = long_value_of
box_meaning box.OfShort = short_value_of
box_meaning box.OfByte = byte_value_of
box_meaning box.OfChar = char_value_of
box_meaning box.OfBool = bool_value_of
box_meaning box.IntValue = int_value
box_meaning box.IntAsLong = int_as_long
box_meaning box.LongValue = long_value
box_meaning box.LongAsInt = long_as_int
box_meaning box.LongHash = long_hash
box_meaning box.BoolHash = bool_hash
box_meaning box.IntText = box_text
box_meaning box.LongText = long_text
box_meaning box.CharText = char_box_text
box_meaning box.BoolText = bool_box_text

abbrev pub order_meaning : OrderNative → Meaning
order_meaning order.IntEquals = box_equals making.Integer
order_meaning order.LongEquals = long_equals
order_meaning order.ShortEquals = box_equals making.Short
order_meaning order.ByteEquals = box_equals making.Byte
order_meaning order.CharEquals = box_equals making.Character
order_meaning order.BoolEquals = box_equals making.Boolean
order_meaning order.CompareBox = compare_box
order_meaning order.CompareLongBox = compare_long_box
order_meaning order.SubtractBox = subtract_box
order_meaning order.CompareInts = compare_ints
order_meaning order.CompareLongs = compare_longs

abbrev pub number_meaning : NumberNative → Meaning
number_meaning number.ParseInt = parse_int
number_meaning number.IsDigit = char_is_digit
number_meaning number.IsLetter = char_is_letter
number_meaning number.AbsInt = abs_int
number_meaning number.AbsLong = abs_long
number_meaning number.MaxInt = max_int
number_meaning number.MaxLong = max_long
number_meaning number.MinInt = min_int
number_meaning number.MinLong = min_long
number_meaning number.FloorMod = floor_mod

abbrev pub list_meaning : ListNative → Meaning
list_meaning list.OfCapacity = list_of_capacity
list_meaning list.Size = list_size
list_meaning list.IsEmpty = has_no_items
list_meaning list.Clear = clear_items
list_meaning list.Get = element_of_list
list_meaning list.Set = set_element
list_meaning list.Add = add_element
list_meaning list.Insert = insert_element
list_meaning list.Remove = remove_element
list_meaning list.Unsupported = unsupported

abbrev pub entry_meaning : EntryNative → Meaning
entry_meaning entry.Count = entry_count
entry_meaning entry.Hash = entry_hash
entry_meaning entry.Key = entry_key
entry_meaning entry.Value = entry_value
entry_meaning entry.SetValue = set_entry_value
entry_meaning entry.Add = add_entry
entry_meaning entry.Cut = cut_entry
entry_meaning entry.KeySet = key_set
entry_meaning entry.ValueList = value_list

abbrev pub iterator_meaning : IteratorNative → Meaning
iterator_meaning iterator.OfList = list_iterator
iterator_meaning iterator.OfSet = set_iterator
iterator_meaning iterator.HasNext = has_next
iterator_meaning iterator.Next = next
iterator_meaning iterator.EmptyList = empty_list
iterator_meaning iterator.EmptySet = empty_set
iterator_meaning iterator.AsList = as_list

abbrev pub assertion_meaning : AssertionNative → Meaning
assertion_meaning assertion.EqualInts = assert_equal_ints
assertion_meaning assertion.EqualLongs = assert_equal_longs
assertion_meaning assertion.True = assert_true
assertion_meaning assertion.False = assert_false
assertion_meaning assertion.Null = assert_null
assertion_meaning assertion.NotNull = assert_not_null
assertion_meaning assertion.Same = assert_same
assertion_meaning assertion.NotSame = assert_not_same
assertion_meaning assertion.Fail = fail

abbrev pub lang_meaning : LangNative → Meaning
lang_meaning (lang.Object n) = object_meaning n
lang_meaning (lang.Throwable n) = throwable_meaning n
lang_meaning (lang.Optional n) = optional_meaning n
lang_meaning (lang.Text n) = text_meaning n
lang_meaning (lang.Builder n) = builder_meaning n
lang_meaning (lang.Box n) = box_meaning n
lang_meaning (lang.Order n) = order_meaning n
lang_meaning (lang.Number n) = number_meaning n

abbrev pub util_meaning : UtilNative → Meaning
util_meaning (util.List n) = list_meaning n
util_meaning (util.Entry n) = entry_meaning n
util_meaning (util.Iterator n) = iterator_meaning n

abbrev pub meaning_of : Native → Meaning
meaning_of (native.Lang n) = lang_meaning n
meaning_of (native.Util n) = util_meaning n
meaning_of (native.Junit n) = assertion_meaning n

-- The meaning of a number, if it is one of a native method.
abbrev pub meaning_numbered : ℕ → Option Meaning
meaning_numbered n = option_map meaning_of (slice_get NATIVES n)
