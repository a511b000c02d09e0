-- What is passed on of crates below.
pub use Rattle.jvm_lines.specs.Below.{AreFramesOf, AreLayouts, AreLookups, AreNatives, AreSlots}
pub use Rattle.jvm_lines.specs.Below.{AreWhole, Finds, IsCatchRow, IsCodeOf, IsThrown, IsWithin}
pub use Rattle.jvm_lines.specs.Below.{MethodCode, Runs, RunsCode, StandsAtOp, TellsNeed, Turn}
pub use Rattle.jvm_lines.specs.Below.{Turned, Waits, acting, frame_of, frames_of, frames_on}
pub use Rattle.jvm_lines.specs.Below.{jvm_invokes_IsOfMethod as IsOfMethod, row_at, storing_element}
pub use Rattle.jvm_lines.specs.Lines.{IsLineReached, IsReachedIf, ReachesLine, lines_of}
pub use Rattle.jvm_lines.specs.Marking.{AreMarkedRight, AreReached, Marked}
pub use Rattle.jvm_lines.specs.Below.jvm_act_contracts_codes_Codes as jvm_act_contracts_codes_Codes
pub use Rattle.jvm_lines.specs.Below.jvm_act_contracts_methods_MethodCode as jvm_act_contracts_methods_MethodCode
pub use Rattle.jvm_lines.specs.Below.jvm_members_contracts_layouts_Layouts as jvm_members_contracts_layouts_Layouts
pub use Rattle.jvm_lines.specs.Below.jvm_members_contracts_sites_ObjectField as jvm_members_contracts_sites_ObjectField
pub use Rattle.jvm_lines.specs.Below.jvm_members_contracts_slots_Slots as jvm_members_contracts_slots_Slots
pub use Rattle.jvm_lines.specs.Below.jvm_natives_contracts_natives_Natives as jvm_natives_contracts_natives_Natives
pub use Rattle.jvm_lines.specs.Below.jvm_receivers_contracts_lookups_Lookups as jvm_receivers_contracts_lookups_Lookups
pub use Rattle.jvm_lines.specs.Below.jvm_receivers_contracts_owned_Owned as jvm_receivers_contracts_owned_Owned
pub use Rattle.jvm_lines.specs.Below.jvm_unwind_contracts_row_Catch as jvm_unwind_contracts_row_Catch
pub use Rattle.jvm_lines.specs.Below.jvm_unwind_contracts_row_CatchRow as jvm_unwind_contracts_row_CatchRow
pub use Rattle.jvm_lines.specs.Below.jvm_unwind_contracts_unwinding_Handlers as jvm_unwind_contracts_unwinding_Handlers
pub use Rattle.jvm_lines.specs.Below.jvm_unwind_declared_turn_Turn_TheVariants as jvm_unwind_declared_turn_Turn_TheVariants
