-- What a program holds crosses to other threads.
use denote.RattleType.{RattleType}
use denote.Param.Send.{IsSend, IsSync, sendable, recorded_send, recorded_sync, enum_send, enum_sync}
use denote.Enum.Declared as E
use denote.Struct.Field.{i16-field, i32-field, i64-field, u16-field, u32-field, u8-field}
use Rattle.std.proofs.Crossing.{crosses}
use Rattle.std.proofs.MapsCrossing.{crosses as maps_cross}
use Rattle.suite_workers.proofs.Rings.{attr_send, attr_sync, code_fields_send, code_fields_sync, code_send, code_sync, class_fields_send, class_fields_sync, class_send, class_sync, seq_send, seq_sync}
use Rattle.class_link.specs.contracts.shared.Shared as Shared
use Rattle.class_table.specs.contracts.program.Program as Program
use Rattle.class_model.specs.contracts.shared.SharedBytes as SharedBytes
use Rattle.class_model.specs.contracts.kind.Kind as Kind
use Rattle.class_model.specs.contracts.constant.Const as Const
use Rattle.class_link.specs.contracts.loaded.Loaded as Loaded
use Rattle.class_link.specs.contracts.loaded.EditedFile as EditedFile
use Rattle.class_link.specs.contracts.loaded.LibField as LibField
use Rattle.class_link.specs.contracts.loaded.LibBody as LibBody
use Rattle.class_link.specs.contracts.loaded.LibMethod as LibMethod
use Rattle.class_link.specs.contracts.loaded.LibClass as LibClass
use Rattle.class_link.specs.contracts.loaded.ClassBody as ClassBody
use Rattle.class_link.specs.contracts.linked.FieldRef as FieldRef
use Rattle.class_link.specs.contracts.linked.MethodRef as MethodRef
use Rattle.class_link.specs.contracts.linked.Entry as Entry
use Rattle.class_link.specs.contracts.linked.Switch as Switch
use Rattle.class_link.specs.contracts.linked.LinkedRow as LinkedRow
use Rattle.class_link.specs.contracts.line_table.LineTable as LineTable
use Rattle.class_link.specs.contracts.frames.VType as VType
use Rattle.class_link.specs.contracts.frames.FrameShape as FrameShape
use Rattle.class_link.specs.contracts.frames.StatedFrame as StatedFrame
use Rattle.program_rules.specs.contracts.operation.Element as Element
use Rattle.program_rules.specs.contracts.operation.Operation as Operation
use Rattle.program_rules.specs.contracts.operation.ShiftKind as ShiftKind
use Rattle.program_rules.specs.contracts.operation.Conversion as Conversion
use Rattle.program_rules.specs.contracts.operation.Comparison as Comparison
use Rattle.class_link.specs.contracts.instruction.Instruction as Instruction
use Rattle.class_link.specs.contracts.linked.LinkedCode as LinkedCode
use Rattle.library_rules.specs.contracts.native.Native as Native
use Rattle.class_link.specs.contracts.linked.LinkedBody as LinkedBody
use Rattle.class_link.specs.contracts.linked.LinkedMethod as LinkedMethod
use Rattle.class_link.specs.contracts.linked.FieldConstant as FieldConstant
use Rattle.class_link.specs.contracts.linked.LinkedField as LinkedField
use Rattle.class_link.specs.contracts.linked.LinkedClass as LinkedClass
use Rattle.class_link.specs.contracts.info.ClassInfo as ClassInfo
use Rattle.class_order.specs.contracts.links.Links as Links
use Rattle.class_order.specs.contracts.above.Above as Above
use Rattle.class_table.specs.contracts.supers.Supers as Supers

pub shared_send : (T : RattleType) → IsSend T → IsSync T → IsSend (Shared.the_row T)
shared_send T s y = search (sendable, crosses) depth 60 fits 60000

pub shared_sync : (T : RattleType) → IsSend T → IsSync T → IsSync (Shared.the_row T)
shared_sync T s y = search (sendable, crosses) depth 60 fits 60000

pub shared_bytes_send : IsSend SharedBytes.the_row
shared_bytes_send = search (seq_send, sendable, crosses) depth 60 fits 60000

pub shared_bytes_sync : IsSync SharedBytes.the_row
shared_bytes_sync = search (seq_sync, sendable, crosses) depth 60 fits 60000

pub kind_fields_send : IsSend (Kind.the_field).row
kind_fields_send = search (seq_send, sendable, crosses) depth 60 fits 60000

pub kind_send : IsSend Kind.the_row
kind_send = recorded_send _ _ _ (Kind.the_type).to_one kind_fields_send

pub kind_fields_sync : IsSync (Kind.the_field).row
kind_fields_sync = search (seq_sync, sendable, crosses) depth 60 fits 60000

pub kind_sync : IsSync Kind.the_row
kind_sync = recorded_sync _ _ _ (Kind.the_type).to_one kind_fields_sync

pub const_fields_send : IsSend (Const.the_field).row
const_fields_send = search (seq_send, sendable, crosses) depth 60 fits 60000

pub const_send : IsSend Const.the_row
const_send = recorded_send _ _ _ (Const.the_type).to_one const_fields_send

pub const_fields_sync : IsSync (Const.the_field).row
const_fields_sync = search (seq_sync, sendable, crosses) depth 60 fits 60000

pub const_sync : IsSync Const.the_row
const_sync = recorded_sync _ _ _ (Const.the_type).to_one const_fields_sync

pub loaded_fields_send : IsSend (Loaded.the_field).row
loaded_fields_send = search (shared_bytes_send, class_fields_send, class_send, sendable, crosses) depth 60 fits 60000

pub loaded_send : IsSend Loaded.the_row
loaded_send = recorded_send _ _ _ (Loaded.the_type).to_one loaded_fields_send

pub loaded_fields_sync : IsSync (Loaded.the_field).row
loaded_fields_sync = search (shared_bytes_sync, class_fields_sync, class_sync, sendable, crosses) depth 60 fits 60000

pub loaded_sync : IsSync Loaded.the_row
loaded_sync = recorded_sync _ _ _ (Loaded.the_type).to_one loaded_fields_sync

pub edited_file_fields_send : IsSend (EditedFile.the_field).row
edited_file_fields_send = search (shared_send, shared_sync, loaded_fields_send, loaded_send, loaded_sync, attr_send, attr_sync, seq_send, seq_sync, const_fields_send, const_send, const_sync, shared_bytes_send, shared_bytes_sync, sendable, crosses) depth 60 fits 60000

pub edited_file_send : IsSend EditedFile.the_row
edited_file_send = recorded_send _ _ _ (EditedFile.the_type).to_one edited_file_fields_send

pub edited_file_fields_sync : IsSync (EditedFile.the_field).row
edited_file_fields_sync = search (shared_sync, shared_send, loaded_fields_sync, loaded_sync, loaded_send, attr_sync, attr_send, seq_sync, seq_send, const_fields_sync, const_sync, const_send, shared_bytes_sync, shared_bytes_send, sendable, crosses) depth 60 fits 60000

pub edited_file_sync : IsSync EditedFile.the_row
edited_file_sync = recorded_sync _ _ _ (EditedFile.the_type).to_one edited_file_fields_sync

pub lib_field_fields_send : IsSend (LibField.the_field).row
lib_field_fields_send = search (seq_send, sendable, crosses) depth 60 fits 60000

pub lib_field_send : IsSend LibField.the_row
lib_field_send = recorded_send _ _ _ (LibField.the_type).to_one lib_field_fields_send

pub lib_field_fields_sync : IsSync (LibField.the_field).row
lib_field_fields_sync = search (seq_sync, sendable, crosses) depth 60 fits 60000

pub lib_field_sync : IsSync LibField.the_row
lib_field_sync = recorded_sync _ _ _ (LibField.the_type).to_one lib_field_fields_sync

pub lib_body_fields_send : IsSend (LibBody.the_field).row
lib_body_fields_send = search (code_fields_send, code_send, sendable, crosses) depth 60 fits 60000

pub lib_body_send : IsSend LibBody.the_row
lib_body_send = recorded_send _ _ _ (LibBody.the_type).to_one lib_body_fields_send

pub lib_body_fields_sync : IsSync (LibBody.the_field).row
lib_body_fields_sync = search (code_fields_sync, code_sync, sendable, crosses) depth 60 fits 60000

pub lib_body_sync : IsSync LibBody.the_row
lib_body_sync = recorded_sync _ _ _ (LibBody.the_type).to_one lib_body_fields_sync

pub lib_method_fields_send : IsSend (LibMethod.the_field).row
lib_method_fields_send = search (seq_send, lib_body_fields_send, lib_body_send, sendable, crosses) depth 60 fits 60000

pub lib_method_send : IsSend LibMethod.the_row
lib_method_send = recorded_send _ _ _ (LibMethod.the_type).to_one lib_method_fields_send

pub lib_method_fields_sync : IsSync (LibMethod.the_field).row
lib_method_fields_sync = search (seq_sync, lib_body_fields_sync, lib_body_sync, sendable, crosses) depth 60 fits 60000

pub lib_method_sync : IsSync LibMethod.the_row
lib_method_sync = recorded_sync _ _ _ (LibMethod.the_type).to_one lib_method_fields_sync

pub lib_class_fields_send : IsSend (LibClass.the_field).row
lib_class_fields_send = search (seq_send, const_fields_send, const_send, lib_field_fields_send, lib_field_send, lib_method_fields_send, lib_method_send, sendable, crosses) depth 60 fits 60000

pub lib_class_send : IsSend LibClass.the_row
lib_class_send = recorded_send _ _ _ (LibClass.the_type).to_one lib_class_fields_send

pub lib_class_fields_sync : IsSync (LibClass.the_field).row
lib_class_fields_sync = search (seq_sync, const_fields_sync, const_sync, lib_field_fields_sync, lib_field_sync, lib_method_fields_sync, lib_method_sync, sendable, crosses) depth 60 fits 60000

pub lib_class_sync : IsSync LibClass.the_row
lib_class_sync = recorded_sync _ _ _ (LibClass.the_type).to_one lib_class_fields_sync

pub class_body_fields_send : IsSend (ClassBody.the_field).row
class_body_fields_send = search (shared_send, shared_sync, loaded_fields_send, loaded_send, loaded_sync, edited_file_fields_send, edited_file_send, edited_file_sync, lib_class_fields_send, lib_class_send, lib_class_sync, sendable, crosses) depth 60 fits 60000

pub class_body_send : IsSend ClassBody.the_row
class_body_send = recorded_send _ _ _ (ClassBody.the_type).to_one class_body_fields_send

pub class_body_fields_sync : IsSync (ClassBody.the_field).row
class_body_fields_sync = search (shared_sync, shared_send, loaded_fields_sync, loaded_sync, loaded_send, edited_file_fields_sync, edited_file_sync, edited_file_send, lib_class_fields_sync, lib_class_sync, lib_class_send, sendable, crosses) depth 60 fits 60000

pub class_body_sync : IsSync ClassBody.the_row
class_body_sync = recorded_sync _ _ _ (ClassBody.the_type).to_one class_body_fields_sync

pub field_ref_fields_send : IsSend (FieldRef.the_field).row
field_ref_fields_send = search (shared_send, shared_sync, seq_send, seq_sync, kind_fields_send, kind_send, kind_sync, sendable, crosses) depth 60 fits 60000

pub field_ref_send : IsSend FieldRef.the_row
field_ref_send = recorded_send _ _ _ (FieldRef.the_type).to_one field_ref_fields_send

pub field_ref_fields_sync : IsSync (FieldRef.the_field).row
field_ref_fields_sync = search (shared_sync, shared_send, seq_sync, seq_send, kind_fields_sync, kind_sync, kind_send, sendable, crosses) depth 60 fits 60000

pub field_ref_sync : IsSync FieldRef.the_row
field_ref_sync = recorded_sync _ _ _ (FieldRef.the_type).to_one field_ref_fields_sync

pub method_ref_fields_send : IsSend (MethodRef.the_field).row
method_ref_fields_send = search (shared_send, shared_sync, seq_send, seq_sync, kind_fields_send, kind_send, kind_sync, sendable, crosses) depth 60 fits 60000

pub method_ref_send : IsSend MethodRef.the_row
method_ref_send = recorded_send _ _ _ (MethodRef.the_type).to_one method_ref_fields_send

pub method_ref_fields_sync : IsSync (MethodRef.the_field).row
method_ref_fields_sync = search (shared_sync, shared_send, seq_sync, seq_send, kind_fields_sync, kind_sync, kind_send, sendable, crosses) depth 60 fits 60000

pub method_ref_sync : IsSync MethodRef.the_row
method_ref_sync = recorded_sync _ _ _ (MethodRef.the_type).to_one method_ref_fields_sync

pub entry_fields_send : IsSend (Entry.the_field).row
entry_fields_send = search (shared_send, shared_sync, seq_send, seq_sync, field_ref_fields_send, field_ref_send, field_ref_sync, method_ref_fields_send, method_ref_send, method_ref_sync, sendable, crosses) depth 60 fits 60000

pub entry_send : IsSend Entry.the_row
entry_send = recorded_send _ _ _ (Entry.the_type).to_one entry_fields_send

pub entry_fields_sync : IsSync (Entry.the_field).row
entry_fields_sync = search (shared_sync, shared_send, seq_sync, seq_send, field_ref_fields_sync, field_ref_sync, field_ref_send, method_ref_fields_sync, method_ref_sync, method_ref_send, sendable, crosses) depth 60 fits 60000

pub entry_sync : IsSync Entry.the_row
entry_sync = recorded_sync _ _ _ (Entry.the_type).to_one entry_fields_sync

pub switch_fields_send : IsSend (Switch.the_field).row
switch_fields_send = search (seq_send, sendable, crosses) depth 60 fits 60000

pub switch_send : IsSend Switch.the_row
switch_send = recorded_send _ _ _ (Switch.the_type).to_one switch_fields_send

pub switch_fields_sync : IsSync (Switch.the_field).row
switch_fields_sync = search (seq_sync, sendable, crosses) depth 60 fits 60000

pub switch_sync : IsSync Switch.the_row
switch_sync = recorded_sync _ _ _ (Switch.the_type).to_one switch_fields_sync

pub linked_row_fields_send : IsSend (LinkedRow.the_field).row
linked_row_fields_send = search (shared_send, shared_sync, seq_send, seq_sync, sendable, crosses) depth 60 fits 60000

pub linked_row_send : IsSend LinkedRow.the_row
linked_row_send = recorded_send _ _ _ (LinkedRow.the_type).to_one linked_row_fields_send

pub linked_row_fields_sync : IsSync (LinkedRow.the_field).row
linked_row_fields_sync = search (shared_sync, shared_send, seq_sync, seq_send, sendable, crosses) depth 60 fits 60000

pub linked_row_sync : IsSync LinkedRow.the_row
linked_row_sync = recorded_sync _ _ _ (LinkedRow.the_type).to_one linked_row_fields_sync

pub line_table_send : IsSend LineTable.the_row
line_table_send = search (seq_send, sendable, crosses) depth 60 fits 60000

pub line_table_sync : IsSync LineTable.the_row
line_table_sync = search (seq_sync, sendable, crosses) depth 60 fits 60000

pub v_type_fields_send : IsSend (VType.the_field).row
v_type_fields_send = search (shared_send, shared_sync, seq_send, seq_sync, sendable, crosses) depth 60 fits 60000

pub v_type_send : IsSend VType.the_row
v_type_send = recorded_send _ _ _ (VType.the_type).to_one v_type_fields_send

pub v_type_fields_sync : IsSync (VType.the_field).row
v_type_fields_sync = search (shared_sync, shared_send, seq_sync, seq_send, sendable, crosses) depth 60 fits 60000

pub v_type_sync : IsSync VType.the_row
v_type_sync = recorded_sync _ _ _ (VType.the_type).to_one v_type_fields_sync

pub frame_shape_fields_send : IsSend (FrameShape.the_field).row
frame_shape_fields_send = search (v_type_fields_send, v_type_send, seq_send, sendable, crosses) depth 60 fits 60000

pub frame_shape_send : IsSend FrameShape.the_row
frame_shape_send = recorded_send _ _ _ (FrameShape.the_type).to_one frame_shape_fields_send

pub frame_shape_fields_sync : IsSync (FrameShape.the_field).row
frame_shape_fields_sync = search (v_type_fields_sync, v_type_sync, seq_sync, sendable, crosses) depth 60 fits 60000

pub frame_shape_sync : IsSync FrameShape.the_row
frame_shape_sync = recorded_sync _ _ _ (FrameShape.the_type).to_one frame_shape_fields_sync

pub stated_frame_fields_send : IsSend (StatedFrame.the_field).row
stated_frame_fields_send = search (frame_shape_fields_send, frame_shape_send, sendable, crosses) depth 60 fits 60000

pub stated_frame_send : IsSend StatedFrame.the_row
stated_frame_send = recorded_send _ _ _ (StatedFrame.the_type).to_one stated_frame_fields_send

pub stated_frame_fields_sync : IsSync (StatedFrame.the_field).row
stated_frame_fields_sync = search (frame_shape_fields_sync, frame_shape_sync, sendable, crosses) depth 60 fits 60000

pub stated_frame_sync : IsSync StatedFrame.the_row
stated_frame_sync = recorded_sync _ _ _ (StatedFrame.the_type).to_one stated_frame_fields_sync

pub i16_send : IsSend i16-field.row
i16_send = search sendable depth 30

pub i16_sync : IsSync i16-field.row
i16_sync = search sendable depth 30

pub i32_send : IsSend i32-field.row
i32_send = search sendable depth 30

pub i32_sync : IsSync i32-field.row
i32_sync = search sendable depth 30

pub i64_send : IsSend i64-field.row
i64_send = search sendable depth 30

pub i64_sync : IsSync i64-field.row
i64_sync = search sendable depth 30

pub u16_send : IsSend u16-field.row
u16_send = search sendable depth 30

pub u16_sync : IsSync u16-field.row
u16_sync = search sendable depth 30

pub u32_send : IsSend u32-field.row
u32_send = search sendable depth 30

pub u32_sync : IsSync u32-field.row
u32_sync = search sendable depth 30

pub u8_send : IsSend u8-field.row
u8_send = search sendable depth 30

pub u8_sync : IsSync u8-field.row
u8_sync = search sendable depth 30

pub element_fields_send : IsSend (Element.the_field).row
element_fields_send = search (sendable, crosses) depth 60 fits 60000

pub element_send : IsSend Element.the_row
element_send = recorded_send _ _ _ (Element.the_type).to_one element_fields_send

pub element_fields_sync : IsSync (Element.the_field).row
element_fields_sync = search (sendable, crosses) depth 60 fits 60000

pub element_sync : IsSync Element.the_row
element_sync = recorded_sync _ _ _ (Element.the_type).to_one element_fields_sync

pub operation_fields_send : IsSend (Operation.the_field).row
operation_fields_send = search (sendable, crosses) depth 60 fits 60000

pub operation_send : IsSend Operation.the_row
operation_send = recorded_send _ _ _ (Operation.the_type).to_one operation_fields_send

pub operation_fields_sync : IsSync (Operation.the_field).row
operation_fields_sync = search (sendable, crosses) depth 60 fits 60000

pub operation_sync : IsSync Operation.the_row
operation_sync = recorded_sync _ _ _ (Operation.the_type).to_one operation_fields_sync

pub shift_kind_fields_send : IsSend (ShiftKind.the_field).row
shift_kind_fields_send = search (sendable, crosses) depth 60 fits 60000

pub shift_kind_send : IsSend ShiftKind.the_row
shift_kind_send = recorded_send _ _ _ (ShiftKind.the_type).to_one shift_kind_fields_send

pub shift_kind_fields_sync : IsSync (ShiftKind.the_field).row
shift_kind_fields_sync = search (sendable, crosses) depth 60 fits 60000

pub shift_kind_sync : IsSync ShiftKind.the_row
shift_kind_sync = recorded_sync _ _ _ (ShiftKind.the_type).to_one shift_kind_fields_sync

pub conversion_fields_send : IsSend (Conversion.the_field).row
conversion_fields_send = search (sendable, crosses) depth 60 fits 60000

pub conversion_send : IsSend Conversion.the_row
conversion_send = recorded_send _ _ _ (Conversion.the_type).to_one conversion_fields_send

pub conversion_fields_sync : IsSync (Conversion.the_field).row
conversion_fields_sync = search (sendable, crosses) depth 60 fits 60000

pub conversion_sync : IsSync Conversion.the_row
conversion_sync = recorded_sync _ _ _ (Conversion.the_type).to_one conversion_fields_sync

pub comparison_fields_send : IsSend (Comparison.the_field).row
comparison_fields_send = search (sendable, crosses) depth 60 fits 60000

pub comparison_send : IsSend Comparison.the_row
comparison_send = recorded_send _ _ _ (Comparison.the_type).to_one comparison_fields_send

pub comparison_fields_sync : IsSync (Comparison.the_field).row
comparison_fields_sync = search (sendable, crosses) depth 60 fits 60000

pub comparison_sync : IsSync Comparison.the_row
comparison_sync = recorded_sync _ _ _ (Comparison.the_type).to_one comparison_fields_sync

pub instruction_fields_send : IsSend (Instruction.the_field).row
instruction_fields_send = enum_send (E.shape Instruction.the_type) (
  tt,
  (
    tt,
    (
      (i32_send, tt),
      (
        (i64_send, tt),
        (
          (u32_send, tt),
          (
            (u32_send, tt),
            (
              (u16_send, tt),
              (
                (u16_send, tt),
                (
                  (u16_send, tt),
                  (
                    (u16_send, tt),
                    (
                      (u16_send, tt),
                      (
                        (u16_send, tt),
                        (
                          (element_fields_send, tt),
                          (
                            (element_fields_send, tt),
                            (
                              tt,
                              (
                                tt,
                                (
                                  tt,
                                  (
                                    tt,
                                    (
                                      tt,
                                      (
                                        tt,
                                        (
                                          tt,
                                          (
                                            tt,
                                            (
                                              tt,
                                              (
                                                (operation_fields_send, tt),
                                                (
                                                  (operation_fields_send, tt),
                                                  (
                                                    tt,
                                                    (
                                                      tt,
                                                      (
                                                        (shift_kind_fields_send, tt),
                                                        (
                                                          (shift_kind_fields_send, tt),
                                                          (
                                                            (u16_send, (i16_send, tt)),
                                                            (
                                                              (conversion_fields_send, tt),
                                                              (
                                                                tt,
                                                                (
                                                                  (comparison_fields_send, (u32_send, tt)),
                                                                  (
                                                                    (comparison_fields_send, (u32_send, tt)),
                                                                    (
                                                                      (u32_send, tt),
                                                                      (
                                                                        (u32_send, tt),
                                                                        (
                                                                          (u32_send, tt),
                                                                          (
                                                                            (u32_send, tt),
                                                                            (
                                                                              (u32_send, tt),
                                                                              (
                                                                                (u32_send, tt),
                                                                                (
                                                                                  (u32_send, tt),
                                                                                  (
                                                                                    tt,
                                                                                    (
                                                                                      tt,
                                                                                      (
                                                                                        tt,
                                                                                        (
                                                                                          tt,
                                                                                          (
                                                                                            (u32_send, tt),
                                                                                            (
                                                                                              (u32_send, tt),
                                                                                              (
                                                                                                (u32_send, tt),
                                                                                                (
                                                                                                  (u32_send, tt),
                                                                                                  (
                                                                                                    (u32_send, tt),
                                                                                                    (
                                                                                                      (u32_send, tt),
                                                                                                      (
                                                                                                        (u32_send, tt),
                                                                                                        (
                                                                                                          (u32_send, tt),
                                                                                                          (
                                                                                                            (u32_send, tt),
                                                                                                            (
                                                                                                              (u8_send, tt),
                                                                                                              (
                                                                                                                (u32_send, tt),
                                                                                                                (
                                                                                                                  (u32_send, (u8_send, tt)),
                                                                                                                  (
                                                                                                                    tt,
                                                                                                                    (
                                                                                                                      tt,
                                                                                                                      (
                                                                                                                        (u32_send, tt),
                                                                                                                        (
                                                                                                                          (u32_send, tt),
                                                                                                                          (
                                                                                                                            tt,
                                                                                                                            (
                                                                                                                              tt,
                                                                                                                              (
                                                                                                                                tt,
                                                                                                                                tt,
                                                                                                                              ),
                                                                                                                            ),
                                                                                                                          ),
                                                                                                                        ),
                                                                                                                      ),
                                                                                                                    ),
                                                                                                                  ),
                                                                                                                ),
                                                                                                              ),
                                                                                                            ),
                                                                                                          ),
                                                                                                        ),
                                                                                                      ),
                                                                                                    ),
                                                                                                  ),
                                                                                                ),
                                                                                              ),
                                                                                            ),
                                                                                          ),
                                                                                        ),
                                                                                      ),
                                                                                    ),
                                                                                  ),
                                                                                ),
                                                                              ),
                                                                            ),
                                                                          ),
                                                                        ),
                                                                      ),
                                                                    ),
                                                                  ),
                                                                ),
                                                              ),
                                                            ),
                                                          ),
                                                        ),
                                                      ),
                                                    ),
                                                  ),
                                                ),
                                              ),
                                            ),
                                          ),
                                        ),
                                      ),
                                    ),
                                  ),
                                ),
                              ),
                            ),
                          ),
                        ),
                      ),
                    ),
                  ),
                ),
              ),
            ),
          ),
        ),
      ),
    ),
  ),
)

pub instruction_send : IsSend Instruction.the_row
instruction_send = recorded_send _ _ _ (Instruction.the_type).to_one instruction_fields_send

pub instruction_fields_sync : IsSync (Instruction.the_field).row
instruction_fields_sync = enum_sync (E.shape Instruction.the_type) (
  tt,
  (
    tt,
    (
      (i32_sync, tt),
      (
        (i64_sync, tt),
        (
          (u32_sync, tt),
          (
            (u32_sync, tt),
            (
              (u16_sync, tt),
              (
                (u16_sync, tt),
                (
                  (u16_sync, tt),
                  (
                    (u16_sync, tt),
                    (
                      (u16_sync, tt),
                      (
                        (u16_sync, tt),
                        (
                          (element_fields_sync, tt),
                          (
                            (element_fields_sync, tt),
                            (
                              tt,
                              (
                                tt,
                                (
                                  tt,
                                  (
                                    tt,
                                    (
                                      tt,
                                      (
                                        tt,
                                        (
                                          tt,
                                          (
                                            tt,
                                            (
                                              tt,
                                              (
                                                (operation_fields_sync, tt),
                                                (
                                                  (operation_fields_sync, tt),
                                                  (
                                                    tt,
                                                    (
                                                      tt,
                                                      (
                                                        (shift_kind_fields_sync, tt),
                                                        (
                                                          (shift_kind_fields_sync, tt),
                                                          (
                                                            (u16_sync, (i16_sync, tt)),
                                                            (
                                                              (conversion_fields_sync, tt),
                                                              (
                                                                tt,
                                                                (
                                                                  (comparison_fields_sync, (u32_sync, tt)),
                                                                  (
                                                                    (comparison_fields_sync, (u32_sync, tt)),
                                                                    (
                                                                      (u32_sync, tt),
                                                                      (
                                                                        (u32_sync, tt),
                                                                        (
                                                                          (u32_sync, tt),
                                                                          (
                                                                            (u32_sync, tt),
                                                                            (
                                                                              (u32_sync, tt),
                                                                              (
                                                                                (u32_sync, tt),
                                                                                (
                                                                                  (u32_sync, tt),
                                                                                  (
                                                                                    tt,
                                                                                    (
                                                                                      tt,
                                                                                      (
                                                                                        tt,
                                                                                        (
                                                                                          tt,
                                                                                          (
                                                                                            (u32_sync, tt),
                                                                                            (
                                                                                              (u32_sync, tt),
                                                                                              (
                                                                                                (u32_sync, tt),
                                                                                                (
                                                                                                  (u32_sync, tt),
                                                                                                  (
                                                                                                    (u32_sync, tt),
                                                                                                    (
                                                                                                      (u32_sync, tt),
                                                                                                      (
                                                                                                        (u32_sync, tt),
                                                                                                        (
                                                                                                          (u32_sync, tt),
                                                                                                          (
                                                                                                            (u32_sync, tt),
                                                                                                            (
                                                                                                              (u8_sync, tt),
                                                                                                              (
                                                                                                                (u32_sync, tt),
                                                                                                                (
                                                                                                                  (u32_sync, (u8_sync, tt)),
                                                                                                                  (
                                                                                                                    tt,
                                                                                                                    (
                                                                                                                      tt,
                                                                                                                      (
                                                                                                                        (u32_sync, tt),
                                                                                                                        (
                                                                                                                          (u32_sync, tt),
                                                                                                                          (
                                                                                                                            tt,
                                                                                                                            (
                                                                                                                              tt,
                                                                                                                              (
                                                                                                                                tt,
                                                                                                                                tt,
                                                                                                                              ),
                                                                                                                            ),
                                                                                                                          ),
                                                                                                                        ),
                                                                                                                      ),
                                                                                                                    ),
                                                                                                                  ),
                                                                                                                ),
                                                                                                              ),
                                                                                                            ),
                                                                                                          ),
                                                                                                        ),
                                                                                                      ),
                                                                                                    ),
                                                                                                  ),
                                                                                                ),
                                                                                              ),
                                                                                            ),
                                                                                          ),
                                                                                        ),
                                                                                      ),
                                                                                    ),
                                                                                  ),
                                                                                ),
                                                                              ),
                                                                            ),
                                                                          ),
                                                                        ),
                                                                      ),
                                                                    ),
                                                                  ),
                                                                ),
                                                              ),
                                                            ),
                                                          ),
                                                        ),
                                                      ),
                                                    ),
                                                  ),
                                                ),
                                              ),
                                            ),
                                          ),
                                        ),
                                      ),
                                    ),
                                  ),
                                ),
                              ),
                            ),
                          ),
                        ),
                      ),
                    ),
                  ),
                ),
              ),
            ),
          ),
        ),
      ),
    ),
  ),
)

pub instruction_sync : IsSync Instruction.the_row
instruction_sync = recorded_sync _ _ _ (Instruction.the_type).to_one instruction_fields_sync

pub linked_code_fields_send : IsSend (LinkedCode.the_field).row
linked_code_fields_send = search (seq_send, instruction_fields_send, instruction_send, switch_fields_send, switch_send, linked_row_fields_send, linked_row_send, line_table_send, stated_frame_fields_send, stated_frame_send, sendable, crosses) depth 60 fits 60000

pub linked_code_send : IsSend LinkedCode.the_row
linked_code_send = recorded_send _ _ _ (LinkedCode.the_type).to_one linked_code_fields_send

pub linked_code_fields_sync : IsSync (LinkedCode.the_field).row
linked_code_fields_sync = search (seq_sync, instruction_fields_sync, instruction_sync, switch_fields_sync, switch_sync, linked_row_fields_sync, linked_row_sync, line_table_sync, stated_frame_fields_sync, stated_frame_sync, sendable, crosses) depth 60 fits 60000

pub linked_code_sync : IsSync LinkedCode.the_row
linked_code_sync = recorded_sync _ _ _ (LinkedCode.the_type).to_one linked_code_fields_sync

pub native_fields_send : IsSend (Native.the_field).row
native_fields_send = search (sendable, crosses) depth 100 fits 400000

pub native_send : IsSend Native.the_row
native_send = recorded_send _ _ _ (Native.the_type).to_one native_fields_send

pub native_fields_sync : IsSync (Native.the_field).row
native_fields_sync = search (sendable, crosses) depth 100 fits 400000

pub native_sync : IsSync Native.the_row
native_sync = recorded_sync _ _ _ (Native.the_type).to_one native_fields_sync

pub linked_body_fields_send : IsSend (LinkedBody.the_field).row
linked_body_fields_send = search (shared_send, shared_sync, linked_code_fields_send, linked_code_send, linked_code_sync, native_fields_send, native_send, native_sync, sendable, crosses) depth 60 fits 60000

pub linked_body_send : IsSend LinkedBody.the_row
linked_body_send = recorded_send _ _ _ (LinkedBody.the_type).to_one linked_body_fields_send

pub linked_body_fields_sync : IsSync (LinkedBody.the_field).row
linked_body_fields_sync = search (shared_sync, shared_send, linked_code_fields_sync, linked_code_sync, linked_code_send, native_fields_sync, native_sync, native_send, sendable, crosses) depth 60 fits 60000

pub linked_body_sync : IsSync LinkedBody.the_row
linked_body_sync = recorded_sync _ _ _ (LinkedBody.the_type).to_one linked_body_fields_sync

pub linked_method_fields_send : IsSend (LinkedMethod.the_field).row
linked_method_fields_send = search (shared_send, shared_sync, seq_send, seq_sync, kind_fields_send, kind_send, kind_sync, linked_body_fields_send, linked_body_send, linked_body_sync, sendable, crosses) depth 60 fits 60000

pub linked_method_send : IsSend LinkedMethod.the_row
linked_method_send = recorded_send _ _ _ (LinkedMethod.the_type).to_one linked_method_fields_send

pub linked_method_fields_sync : IsSync (LinkedMethod.the_field).row
linked_method_fields_sync = search (shared_sync, shared_send, seq_sync, seq_send, kind_fields_sync, kind_sync, kind_send, linked_body_fields_sync, linked_body_sync, linked_body_send, sendable, crosses) depth 60 fits 60000

pub linked_method_sync : IsSync LinkedMethod.the_row
linked_method_sync = recorded_sync _ _ _ (LinkedMethod.the_type).to_one linked_method_fields_sync

pub field_constant_fields_send : IsSend (FieldConstant.the_field).row
field_constant_fields_send = search (shared_send, shared_sync, seq_send, seq_sync, sendable, crosses) depth 60 fits 60000

pub field_constant_send : IsSend FieldConstant.the_row
field_constant_send = recorded_send _ _ _ (FieldConstant.the_type).to_one field_constant_fields_send

pub field_constant_fields_sync : IsSync (FieldConstant.the_field).row
field_constant_fields_sync = search (shared_sync, shared_send, seq_sync, seq_send, sendable, crosses) depth 60 fits 60000

pub field_constant_sync : IsSync FieldConstant.the_row
field_constant_sync = recorded_sync _ _ _ (FieldConstant.the_type).to_one field_constant_fields_sync

pub linked_field_fields_send : IsSend (LinkedField.the_field).row
linked_field_fields_send = search (shared_send, shared_sync, seq_send, seq_sync, kind_fields_send, kind_send, kind_sync, field_constant_fields_send, field_constant_send, field_constant_sync, sendable, crosses) depth 60 fits 60000

pub linked_field_send : IsSend LinkedField.the_row
linked_field_send = recorded_send _ _ _ (LinkedField.the_type).to_one linked_field_fields_send

pub linked_field_fields_sync : IsSync (LinkedField.the_field).row
linked_field_fields_sync = search (shared_sync, shared_send, seq_sync, seq_send, kind_fields_sync, kind_sync, kind_send, field_constant_fields_sync, field_constant_sync, field_constant_send, sendable, crosses) depth 60 fits 60000

pub linked_field_sync : IsSync LinkedField.the_row
linked_field_sync = recorded_sync _ _ _ (LinkedField.the_type).to_one linked_field_fields_sync

pub linked_class_fields_send : IsSend (LinkedClass.the_field).row
linked_class_fields_send = search (shared_send, shared_sync, seq_send, seq_sync, entry_fields_send, entry_send, entry_sync, linked_field_fields_send, linked_field_send, linked_field_sync, linked_method_fields_send, linked_method_send, linked_method_sync, sendable, crosses) depth 60 fits 60000

pub linked_class_send : IsSend LinkedClass.the_row
linked_class_send = recorded_send _ _ _ (LinkedClass.the_type).to_one linked_class_fields_send

pub linked_class_fields_sync : IsSync (LinkedClass.the_field).row
linked_class_fields_sync = search (shared_sync, shared_send, seq_sync, seq_send, entry_fields_sync, entry_sync, entry_send, linked_field_fields_sync, linked_field_sync, linked_field_send, linked_method_fields_sync, linked_method_sync, linked_method_send, sendable, crosses) depth 60 fits 60000

pub linked_class_sync : IsSync LinkedClass.the_row
linked_class_sync = recorded_sync _ _ _ (LinkedClass.the_type).to_one linked_class_fields_sync

pub class_info_send : IsSend ClassInfo.the_row
class_info_send = search (seq_send, class_body_fields_send, class_body_send, linked_class_fields_send, linked_class_send, sendable, crosses) depth 60 fits 60000

pub class_info_sync : IsSync ClassInfo.the_row
class_info_sync = search (seq_sync, class_body_fields_sync, class_body_sync, linked_class_fields_sync, linked_class_sync, sendable, crosses) depth 60 fits 60000

pub links_fields_send : IsSend (Links.the_field).row
links_fields_send = search (sendable, crosses) depth 60 fits 60000

pub links_send : IsSend Links.the_row
links_send = recorded_send _ _ _ (Links.the_type).to_one links_fields_send

pub links_fields_sync : IsSync (Links.the_field).row
links_fields_sync = search (sendable, crosses) depth 60 fits 60000

pub links_sync : IsSync Links.the_row
links_sync = recorded_sync _ _ _ (Links.the_type).to_one links_fields_sync

pub above_fields_send : IsSend (Above.the_field).row
above_fields_send = search (sendable, crosses) depth 60 fits 60000

pub above_send : IsSend Above.the_row
above_send = recorded_send _ _ _ (Above.the_type).to_one above_fields_send

pub above_fields_sync : IsSync (Above.the_field).row
above_fields_sync = search (sendable, crosses) depth 60 fits 60000

pub above_sync : IsSync Above.the_row
above_sync = recorded_sync _ _ _ (Above.the_type).to_one above_fields_sync

pub supers_fields_send : IsSend (Supers.the_field).row
supers_fields_send = search (links_fields_send, links_send, above_fields_send, above_send, sendable, crosses) depth 60 fits 60000

pub supers_send : IsSend Supers.the_row
supers_send = recorded_send _ _ _ (Supers.the_type).to_one supers_fields_send

pub supers_fields_sync : IsSync (Supers.the_field).row
supers_fields_sync = search (links_fields_sync, links_sync, above_fields_sync, above_sync, sendable, crosses) depth 60 fits 60000

pub supers_sync : IsSync Supers.the_row
supers_sync = recorded_sync _ _ _ (Supers.the_type).to_one supers_fields_sync

pub program_send : IsSend Program.the_row
program_send = search (class_info_send, class_info_sync, supers_send, supers_sync, seq_send, seq_sync, sendable, crosses, maps_cross) depth 60 fits 60000

pub program_sync : IsSync Program.the_row
program_sync = search (class_info_send, class_info_sync, supers_send, supers_sync, seq_send, seq_sync, sendable, crosses, maps_cross) depth 60 fits 60000
