-- The number of each native method: its place in `NATIVES`.
use Rattle.std.specs.Prelude.{ℕ}
use Rattle.library_rules.specs.declared.native.Native.{Native}
use Rattle.library_rules.specs.declared.native.Native.TheVariants as native
use Rattle.library_rules.specs.declared.native.LangNative.{LangNative}
use Rattle.library_rules.specs.declared.native.LangNative.TheVariants as lang
use Rattle.library_rules.specs.declared.native.UtilNative.{UtilNative}
use Rattle.library_rules.specs.declared.native.UtilNative.TheVariants as util
use Rattle.library_rules.specs.declared.native.ObjectNative.{ObjectNative}
use Rattle.library_rules.specs.declared.native.ObjectNative.TheVariants as object
use Rattle.library_rules.specs.declared.native.ThrowableNative.{ThrowableNative}
use Rattle.library_rules.specs.declared.native.ThrowableNative.TheVariants as throwable
use Rattle.library_rules.specs.declared.native.OptionalNative.{OptionalNative}
use Rattle.library_rules.specs.declared.native.OptionalNative.TheVariants as optional
use Rattle.library_rules.specs.declared.native.TextNative.{TextNative}
use Rattle.library_rules.specs.declared.native.TextNative.TheVariants as text
use Rattle.library_rules.specs.declared.native.BuilderNative.{BuilderNative}
use Rattle.library_rules.specs.declared.native.BuilderNative.TheVariants as builder
use Rattle.library_rules.specs.declared.native.BoxNative.{BoxNative}
use Rattle.library_rules.specs.declared.native.BoxNative.TheVariants as box
use Rattle.library_rules.specs.declared.native.OrderNative.{OrderNative}
use Rattle.library_rules.specs.declared.native.OrderNative.TheVariants as order
use Rattle.library_rules.specs.declared.native.NumberNative.{NumberNative}
use Rattle.library_rules.specs.declared.native.NumberNative.TheVariants as number
use Rattle.library_rules.specs.declared.native.ListNative.{ListNative}
use Rattle.library_rules.specs.declared.native.ListNative.TheVariants as list
use Rattle.library_rules.specs.declared.native.EntryNative.{EntryNative}
use Rattle.library_rules.specs.declared.native.EntryNative.TheVariants as entry
use Rattle.library_rules.specs.declared.native.IteratorNative.{IteratorNative}
use Rattle.library_rules.specs.declared.native.IteratorNative.TheVariants as iterator
use Rattle.library_rules.specs.declared.native.AssertionNative.{AssertionNative}
use Rattle.library_rules.specs.declared.native.AssertionNative.TheVariants as assertion

abbrev pub object_number : ObjectNative → ℕ
object_number object.DoNothing = 0
object_number object.SameObject = 1
object_number object.AllocationNumber = 2
object_number object.ObjectText = 3
object_number object.NameOfClass = 4
object_number object.AssertionStatus = 5
object_number object.EnumInit = 6
object_number object.EnumName = 7
object_number object.EnumOrdinal = 8
object_number object.CompareEnum = 9
object_number object.ClassOf = 10
object_number object.CompareAny = 121

abbrev pub throwable_number : ThrowableNative → ℕ
throwable_number throwable.Message = 11
throwable_number throwable.Cause = 12
throwable_number throwable.SetMessage = 13
throwable_number throwable.SetCause = 14
throwable_number throwable.SetMessageAndCause = 15

abbrev pub optional_number : OptionalNative → ℕ
optional_number optional.Empty = 16
optional_number optional.Of = 17
optional_number optional.OfNullable = 18
optional_number optional.IsPresent = 19
optional_number optional.Value = 20
optional_number optional.OrElse = 21

abbrev pub text_number : TextNative → ℕ
text_number text.Length = 22
text_number text.IsEmpty = 23
text_number text.CharAt = 24
text_number text.Equals = 25
text_number text.Hash = 26
text_number text.Compare = 27
text_number text.CompareAny = 28
text_number text.Concat = 29
text_number text.SubstringFrom = 30
text_number text.Substring = 31
text_number text.IndexOfChar = 32
text_number text.IndexOfText = 33
text_number text.StartsWith = 34
text_number text.EndsWith = 35
text_number text.Itself = 36
text_number text.OfInt = 37
text_number text.OfLong = 38
text_number text.OfChar = 39
text_number text.OfBool = 40
text_number text.Chars = 122

abbrev pub builder_number : BuilderNative → ℕ
builder_number builder.OfCapacity = 41
builder_number builder.OfText = 42
builder_number builder.AppendText = 43
builder_number builder.AppendInt = 44
builder_number builder.AppendLong = 45
builder_number builder.AppendChar = 46
builder_number builder.AppendBool = 47
builder_number builder.ToText = 48

abbrev pub box_number : BoxNative → ℕ
box_number box.OfInt = 49
box_number box.OfLong = 50
box_number box.OfShort = 51
box_number box.OfByte = 52
box_number box.OfChar = 53
box_number box.OfBool = 54
box_number box.IntValue = 55
box_number box.IntAsLong = 56
box_number box.LongValue = 57
box_number box.LongAsInt = 58
box_number box.LongHash = 59
box_number box.BoolHash = 60
box_number box.IntText = 61
box_number box.LongText = 62
box_number box.CharText = 63
box_number box.BoolText = 64

abbrev pub order_number : OrderNative → ℕ
order_number order.IntEquals = 65
order_number order.LongEquals = 66
order_number order.ShortEquals = 67
order_number order.ByteEquals = 68
order_number order.CharEquals = 69
order_number order.BoolEquals = 70
order_number order.CompareBox = 71
order_number order.CompareLongBox = 72
order_number order.SubtractBox = 73
order_number order.CompareInts = 74
order_number order.CompareLongs = 75

abbrev pub number_number : NumberNative → ℕ
number_number number.ParseInt = 76
number_number number.IsDigit = 77
number_number number.IsLetter = 78
number_number number.AbsInt = 79
number_number number.AbsLong = 80
number_number number.MaxInt = 81
number_number number.MaxLong = 82
number_number number.MinInt = 83
number_number number.MinLong = 84
number_number number.FloorMod = 85

abbrev pub list_number : ListNative → ℕ
list_number list.OfCapacity = 86
list_number list.Size = 87
list_number list.IsEmpty = 88
list_number list.Clear = 89
list_number list.Get = 90
list_number list.Set = 91
list_number list.Add = 92
list_number list.Insert = 93
list_number list.Remove = 94
list_number list.Unsupported = 95

abbrev pub entry_number : EntryNative → ℕ
entry_number entry.Count = 96
entry_number entry.Hash = 97
entry_number entry.Key = 98
entry_number entry.Value = 99
entry_number entry.SetValue = 100
entry_number entry.Add = 101
entry_number entry.Cut = 102
entry_number entry.KeySet = 103
entry_number entry.ValueList = 104

abbrev pub iterator_number : IteratorNative → ℕ
iterator_number iterator.OfList = 105
iterator_number iterator.OfSet = 106
iterator_number iterator.HasNext = 107
iterator_number iterator.Next = 108
iterator_number iterator.EmptyList = 109
iterator_number iterator.EmptySet = 110
iterator_number iterator.AsList = 111

abbrev pub assertion_number : AssertionNative → ℕ
assertion_number assertion.EqualInts = 112
assertion_number assertion.EqualLongs = 113
assertion_number assertion.True = 114
assertion_number assertion.False = 115
assertion_number assertion.Null = 116
assertion_number assertion.NotNull = 117
assertion_number assertion.Same = 118
assertion_number assertion.NotSame = 119
assertion_number assertion.Fail = 120

abbrev pub lang_number : LangNative → ℕ
lang_number (lang.Object n) = object_number n
lang_number (lang.Throwable n) = throwable_number n
lang_number (lang.Optional n) = optional_number n
lang_number (lang.Text n) = text_number n
lang_number (lang.Builder n) = builder_number n
lang_number (lang.Box n) = box_number n
lang_number (lang.Order n) = order_number n
lang_number (lang.Number n) = number_number n

abbrev pub util_number : UtilNative → ℕ
util_number (util.List n) = list_number n
util_number (util.Entry n) = entry_number n
util_number (util.Iterator n) = iterator_number n

abbrev pub number_of : Native → ℕ
number_of (native.Lang n) = lang_number n
number_of (native.Util n) = util_number n
number_of (native.Junit n) = assertion_number n

-- ---- a native method of a group

abbrev pub as_object : ObjectNative → Native
as_object n = native.Lang (lang.Object n)

abbrev pub as_throwable : ThrowableNative → Native
as_throwable n = native.Lang (lang.Throwable n)

abbrev pub as_optional : OptionalNative → Native
as_optional n = native.Lang (lang.Optional n)

abbrev pub as_text : TextNative → Native
as_text n = native.Lang (lang.Text n)

abbrev pub as_builder : BuilderNative → Native
as_builder n = native.Lang (lang.Builder n)

abbrev pub as_box : BoxNative → Native
as_box n = native.Lang (lang.Box n)

abbrev pub as_order : OrderNative → Native
as_order n = native.Lang (lang.Order n)

abbrev pub as_number : NumberNative → Native
as_number n = native.Lang (lang.Number n)

abbrev pub as_list : ListNative → Native
as_list n = native.Util (util.List n)

abbrev pub as_entry : EntryNative → Native
as_entry n = native.Util (util.Entry n)

abbrev pub as_iterator : IteratorNative → Native
as_iterator n = native.Util (util.Iterator n)

abbrev pub as_assertion : AssertionNative → Native
as_assertion n = native.Junit n
