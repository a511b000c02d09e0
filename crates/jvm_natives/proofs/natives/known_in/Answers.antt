use Rattle.lib_core.specs.declared.known.Known.{Known}
use Rattle.program_rules.specs.declared.making.Making.TheVariants as making
use Rattle.jvm_natives.specs.Natives.{IsMadeBy}
use Rattle.jvm_natives.proofs.Found.{known_is}
use Rattle.jvm_natives.proofs.natives.known_in.Goals as goal

pub returns : goal.returns
returns c =
    let text : IsMadeBy c.args.p.now making.Text c.in-Some.text.0 = rw c.in-Some.is at c.in_ok-text.ensures in
    let list : IsMadeBy c.args.p.now making.List c.in-Some-2.list.0 = rw c.in-Some-2.is at c.in_ok-list.ensures in
    let set : IsMadeBy c.args.p.now making.Set c.in-Some-3.set.0 = rw c.in-Some-3.is at c.in_ok-set.ensures in
    let iterator : IsMadeBy c.args.p.now making.Iterator c.in-Some-4.iterator.0 = rw c.in-Some-4.is at c.in_ok-iterator.ensures in
    let optional : IsMadeBy c.args.p.now making.Optional c.in-Some-5.optional.0 = rw c.in-Some-5.is at c.in_ok-optional.ensures in
    let integer : IsMadeBy c.args.p.now making.Integer c.in-Some-6.integer.0 = rw c.in-Some-6.is at c.in_ok-integer.ensures in
    let long : IsMadeBy c.args.p.now making.Long c.in-Some-7.long.0 = rw c.in-Some-7.is at c.in_ok-long.ensures in
    let short : IsMadeBy c.args.p.now making.Short c.in-Some-8.short.0 = rw c.in-Some-8.is at c.in_ok-short.ensures in
    let byte : IsMadeBy c.args.p.now making.Byte c.in-Some-9.byte.0 = rw c.in-Some-9.is at c.in_ok-byte.ensures in
    let character : IsMadeBy c.args.p.now making.Character c.in-Some-10.character.0 = rw c.in-Some-10.is at c.in_ok-character.ensures in
    let boolean : IsMadeBy c.args.p.now making.Boolean c.in-Some-11.boolean.0 = rw c.in-Some-11.is at c.in_ok-boolean.ensures in
    known_is c.args.p.now (record { text = c.in-Some.text; list = c.in-Some-2.list; set = c.in-Some-3.set; iterator = c.in-Some-4.iterator; optional = c.in-Some-5.optional; integer = c.in-Some-6.integer; long = c.in-Some-7.long; short = c.in-Some-8.short; byte = c.in-Some-9.byte; character = c.in-Some-10.character; boolean = c.in-Some-11.boolean }) c.len.ensures.form text list set iterator optional integer long short byte character boolean
