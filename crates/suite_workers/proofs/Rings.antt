-- `Attr`, `Body` and `Code` of `class_model` hold one another. The lemmas that Rattle makes for each such ring
-- (`TheLaws.TheKnot` of its first type) give their `IsSend` and `IsSync` from those of all else in the ring. They are
-- about a type's row as another's field; `recorded_send` and `recorded_sync` give the type's own.
use denote.RattleType.{RattleType}
use denote.Param.Send.{IsSend, IsSync, sendable, recorded_send, recorded_sync}
use Rattle.std.proofs.Crossing.{crosses}
use Rattle.class_model.proofs.attribute.Body.TheLaws.TheKnot as knot
use Rattle.class_model.specs.contracts.attribute.Attr as Attr
use Rattle.class_model.specs.contracts.attribute.Body as Body
use Rattle.class_model.specs.contracts.attribute.Code as Code
use Rattle.class_model.specs.contracts.class.Class as Class
use Rattle.class_model.specs.contracts.annotation.Note as Note
use Rattle.class_model.specs.contracts.frame.Frame as Frame
use Rattle.class_model.specs.contracts.instruction.Insn as Insn
use Rattle.class_model.specs.contracts.attribute.Row as Row
use Rattle.class_model.specs.contracts.list.Seq as Seq

pub note_send : IsSend Note.the_row
note_send = search (sendable, crosses) depth 60 fits 60000

pub frame_send : IsSend Frame.the_row
frame_send = search (sendable, crosses) depth 60 fits 60000

pub insn_send : IsSend Insn.the_row
insn_send = search (sendable, crosses) depth 60 fits 60000

pub row_send : IsSend Row.the_row
row_send = search (sendable, crosses) depth 60 fits 60000

pub seq_send : (T : RattleType) → IsSend T → IsSend (Seq.the_row T)
seq_send T s = search (sendable, crosses) depth 60 fits 60000

pub seq_sync : (T : RattleType) → IsSync T → IsSync (Seq.the_row T)
seq_sync T s = search (sendable, crosses) depth 60 fits 60000

pub frame_sync : IsSync Frame.the_row
frame_sync = search (sendable, crosses) depth 60 fits 60000

pub note_sync : IsSync Note.the_row
note_sync = search (sendable, crosses) depth 60 fits 60000

pub insn_sync : IsSync Insn.the_row
insn_sync = search (sendable, crosses) depth 60 fits 60000

pub row_sync : IsSync Row.the_row
row_sync = search (sendable, crosses) depth 60 fits 60000

pub attr_fields_send : IsSend (Attr.the_field).row
attr_fields_send = knot.send-Attr (search (seq_send, sendable) depth 30) (seq_send _ frame_send) (search sendable depth 30) (seq_send _ note_send) (search (seq_send, sendable) depth 30) (seq_send _ insn_send) (seq_send _ row_send) (λ h s. seq_send h s)

pub attr_send : IsSend Attr.the_row
attr_send = recorded_send _ _ _ (Attr.the_type).to_one attr_fields_send

pub attr_fields_sync : IsSync (Attr.the_field).row
attr_fields_sync = knot.sync-Attr (search (seq_sync, sendable) depth 30) (seq_sync _ frame_sync) (search sendable depth 30) (seq_sync _ note_sync) (search (seq_sync, sendable) depth 30) (seq_sync _ insn_sync) (seq_sync _ row_sync) (λ h s. seq_sync h s)

pub attr_sync : IsSync Attr.the_row
attr_sync = recorded_sync _ _ _ (Attr.the_type).to_one attr_fields_sync

pub body_fields_send : IsSend (Body.the_field).row
body_fields_send = knot.send-Body (search (seq_send, sendable) depth 30) (seq_send _ frame_send) (search sendable depth 30) (seq_send _ note_send) (search (seq_send, sendable) depth 30) (seq_send _ insn_send) (seq_send _ row_send) (λ h s. seq_send h s)

pub body_send : IsSend Body.the_row
body_send = recorded_send _ _ _ (Body.the_type).to_one body_fields_send

pub body_fields_sync : IsSync (Body.the_field).row
body_fields_sync = knot.sync-Body (search (seq_sync, sendable) depth 30) (seq_sync _ frame_sync) (search sendable depth 30) (seq_sync _ note_sync) (search (seq_sync, sendable) depth 30) (seq_sync _ insn_sync) (seq_sync _ row_sync) (λ h s. seq_sync h s)

pub body_sync : IsSync Body.the_row
body_sync = recorded_sync _ _ _ (Body.the_type).to_one body_fields_sync

pub code_fields_send : IsSend (Code.the_field).row
code_fields_send = knot.send-Code (search (seq_send, sendable) depth 30) (seq_send _ frame_send) (search sendable depth 30) (seq_send _ note_send) (search (seq_send, sendable) depth 30) (seq_send _ insn_send) (seq_send _ row_send) (λ h s. seq_send h s)

pub code_send : IsSend Code.the_row
code_send = recorded_send _ _ _ (Code.the_type).to_one code_fields_send

pub code_fields_sync : IsSync (Code.the_field).row
code_fields_sync = knot.sync-Code (search (seq_sync, sendable) depth 30) (seq_sync _ frame_sync) (search sendable depth 30) (seq_sync _ note_sync) (search (seq_sync, sendable) depth 30) (seq_sync _ insn_sync) (seq_sync _ row_sync) (λ h s. seq_sync h s)

pub code_sync : IsSync Code.the_row
code_sync = recorded_sync _ _ _ (Code.the_type).to_one code_fields_sync

pub class_fields_send : IsSend (Class.the_field).row
class_fields_send = search (attr_send, seq_send, sendable, crosses) depth 60 fits 60000

pub class_send : IsSend Class.the_row
class_send = recorded_send _ _ _ (Class.the_type).to_one class_fields_send

pub class_fields_sync : IsSync (Class.the_field).row
class_fields_sync = search (attr_sync, seq_sync, sendable, crosses) depth 60 fits 60000

pub class_sync : IsSync Class.the_row
class_sync = recorded_sync _ _ _ (Class.the_type).to_one class_fields_sync
