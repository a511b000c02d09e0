-- The code of a method, and what is executed at a place of it.
use Rattle.std.proofs.Common.{◌≡◌, ◌∙◌, ◌⊎◌, inl, inr, ◌≤◌, sym, refl, ap, subst, ℕ, ◌<◌, ℤ, Bool, List, [], ◌∷◌, ◌++◌, map, Option, None, Some, append-nil}
use Rattle.std.specs.Prelude.{slice_get, All}
use Rattle.std.specs.Option.{option_map, option_copied}
use Rattle.std.proofs.lemmas.Option.{slice_get-map}
use Rattle.program_rules.specs.Instructions as def
use Rattle.program_rules.specs.Linked as rules
use Rattle.program_rules.specs.Outlines.{is_class_initializer}
use Rattle.program_rules.specs.Programs.{Look}
use Rattle.machine_rules.specs.State as machine
use Rattle.machine_rules.specs.Calls.{room_of, room_in}
use Rattle.machine_rules.specs.Effects.{Current}
use Rattle.machine_rules.specs.Steps.{Fetched, fetch, fetch_from, fetch_in_method, fetch_in_code}
use Rattle.machine_rules.specs.Throwing.{rows_of, rows_in, is_initializer_method}
use Rattle.class_link.specs.declared.linked.Entry.{Entry}
use Rattle.class_link.specs.declared.linked.LinkedBody.{LinkedBody}
use Rattle.class_link.specs.declared.linked.LinkedBody.TheVariants as body
use Rattle.class_link.specs.declared.linked.LinkedCode.{LinkedCode}
use Rattle.class_link.specs.declared.linked.LinkedMethod.{LinkedMethod}
use Rattle.class_link.specs.Info.{Info}
use Rattle.class_link.specs.Symbols.{kind_of}
use Rattle.class_link.specs.View.{method_of, body_of, code_of, row_of}
use Rattle.class_link.specs.View as view
use Rattle.class_table.specs.Table.{look, name_at, entries_at}
use Rattle.jvm_state.specs.declared.op.Op.{Op}
use Rattle.jvm_state.specs.Ops.{instruction_of}
use Rattle.jvm_unwind.specs.declared.row.CatchRow.{CatchRow}
use Rattle.jvm_unwind.specs.Rows.{catch_row_of, IsCatchRow, AreRowsOf}
use Rattle.jvm_code.specs.Decoded.{named_by, AreDecoded}
use Rattle.jvm_unwind.specs.declared.unwinding.Handlers.{Handlers}
use Rattle.jvm_unwind.specs.Unwinding.{AreHandlersOf}
use Rattle.jvm_frames.specs.Frames.{NumberedFrame}
use Rattle.jvm_unwind.specs.Turns.{frame_of}
use Rattle.jvm_invokes.specs.Invoked.{IsOfMethod}
use Rattle.jvm_act.specs.Laws.{HasRoomToLand, FramesAreHandled}
use Rattle.jvm_act.specs.declared.methods.MethodCode.{MethodCode}
use Rattle.jvm_act.specs.Methods.{IsCodeOf, HasNoCode, current_of, fetched, meaning}

-- ---- what a method has for objects that are thrown in it

pub handlers_of : (p : List Info) (class place : ℕ) (m : LinkedMethod) (c : LinkedCode) (h : Handlers) → rules.method_in (look p (name_at p class)) place ≡ Some (method_of (entries_at p class) m) → m.body ≡ body.Code c → AreRowsOf p h.rows.items c.rows → All (IsCatchRow p) h.rows.items → ((es : List Entry) → h.initializes ≡ is_class_initializer (method_of es m)) → AreHandlersOf p class place h
handlers_of p class place m c h there is rows right initializes = record {
  rows = λ f named placed.
      rows
      ∙ sym (ap (λ b. rows_in (rules.code_in (body_of (entries_at p class) b))) is)
      ∙ sym (ap (λ o. rows_in (rules.code_of o)) there)
      ∙ sym (ap (λ k. rows_in (rules.code_of (rules.method_in (look p (name_at p class)) k))) placed)
      ∙ sym (ap (λ n. rows_in (rules.code_of (rules.method_in (look p n) f.method))) named);
  right = right;
  initializes = initializes (entries_at p class) ∙ sym (ap is_initializer_method there);
}

-- ---- the code of a method

pub code_is : (p : List Info) (class place : ℕ) (m : LinkedMethod) (linked : LinkedCode) (code : MethodCode) → rules.method_in (look p (name_at p class)) place ≡ Some (method_of (entries_at p class) m) → m.body ≡ body.Code linked → code.linked ≡ linked → code.result ≡ m.result → AreDecoded linked.instructions code.code.ops.items code.code.longs.items → AreHandlersOf p class place code.handlers → IsCodeOf p class place code
code_is p class place m linked code there is same result ops handlers = record {
  method = m;
  there = there;
  body = is ∙ ap body.Code (sym same);
  result = sym result;
  ops = subst (λ l. AreDecoded l.instructions code.code.ops.items code.code.longs.items) (sym same) ops;
  handlers = handlers;
}

-- ---- methods without code

code_by : List Entry → Option LinkedMethod → Option rules.LinkedCode
code_by es o = rules.code_of (option_map (method_of es) o)

pub no_method : (p : List Info) (class place : ℕ) → option_map (method_of (entries_at p class)) None ≡ rules.method_in (look p (name_at p class)) place → HasNoCode p class place
no_method p class place e = sym (ap rules.code_of e)

pub no_body : (p : List Info) (class place : ℕ) (m : LinkedMethod) → option_map (method_of (entries_at p class)) (Some m) ≡ rules.method_in (look p (name_at p class)) place → rules.code_in (body_of (entries_at p class) m.body) ≡ None → HasNoCode p class place
no_body p class place m e none = sym (ap rules.code_of e) ∙ none

-- ---- what is executed

module _ (p : List Info) (class place : ℕ) (m : MethodCode) (is : IsCodeOf p class place m) where
  abbrev es : List Entry
  es = entries_at p class

  abbrev means : List ℤ → Op → def.Instruction
  means longs = instruction_of longs (named_by es m.linked.switches)

  -- The instructions of the definitions are those in eight bytes.
  decoded : map (view.instruction_of es m.linked.switches) m.linked.instructions ≡ map (means m.code.longs.items) m.code.ops.items
  decoded = sym (is.ops es m.linked.switches []) ∙ ap (λ longs. map (means longs) m.code.ops.items) (append-nil m.code.longs.items)

  initializes : is_class_initializer (method_of es is.method) ≡ m.handlers.initializes
  initializes = sym (is.handlers.initializes ∙ ap is_initializer_method is.there)

  pub fetched_at : (f : machine.Frame) → f.class ≡ name_at p class → f.method ≡ place → fetch (look p) f ≡ fetched p class m f.at
  fetched_at f named placed =
      ap (λ n. fetch_in_method (rules.method_in (look p n) f.method) f.at) named
      ∙ ap (λ k. fetch_in_method (rules.method_in (look p (name_at p class)) k) f.at) placed
      ∙ ap (λ o. fetch_in_method o f.at) is.there
      ∙ ap (λ b. fetch_in_code (method_of es is.method) f.at (rules.code_in (body_of es b))) is.body
      ∙ ap (λ r. fetch_from (record { result = option_map kind_of r; max_stack = m.linked.max_stack; initializes = is_class_initializer (method_of es is.method) }) (slice_get (map (view.instruction_of es m.linked.switches) m.linked.instructions) f.at)) is.result
      ∙ ap (λ b. fetch_from (record { result = option_map kind_of m.result; max_stack = m.linked.max_stack; initializes = b }) (slice_get (map (view.instruction_of es m.linked.switches) m.linked.instructions) f.at)) initializes
      ∙ ap (λ is. fetch_from (current_of m) (slice_get is f.at)) decoded
      ∙ ap (fetch_from (current_of m)) (slice_get-map (means m.code.longs.items) m.code.ops.items f.at)

  pub room_at : (f : machine.Frame) → f.class ≡ name_at p class → f.method ≡ place → room_of (look p) f ≡ Some m.linked.max_stack
  room_at f named placed =
      ap (λ n. room_in (rules.code_of (rules.method_in (look p n) f.method))) named
      ∙ ap (λ k. room_in (rules.code_of (rules.method_in (look p (name_at p class)) k))) placed
      ∙ ap (λ o. room_in (rules.code_of o)) is.there
      ∙ ap (λ b. room_in (rules.code_in (body_of es b))) is.body

  -- Its rows are those of the linked code.
  rows_are : map (catch_row_of p) m.handlers.rows.items ≡ map row_of m.linked.rows
  rows_are =
      is.handlers.rows (record { class = name_at p class; method = place; at = 0; locals = []; stack = [] }) refl refl
      ∙ ap (λ o. rows_in (rules.code_of o)) is.there
      ∙ ap (λ b. rows_in (rules.code_in (body_of es b))) is.body

-- ---- an object is thrown in a frame

none_mapped : {A B : Type 0} (f : A → B) (xs : List A) → map f xs ≡ [] → xs ≡ []
none_mapped f [] e = refl
none_mapped f (x ∷ xs) e = absurd cc

some_same : {A : Type 0} (x y : A) → Some x ≡ Some y → x ≡ y
some_same x y e = cc

room_to_land : (p : List Info) (m : MethodCode) (f : NumberedFrame) → IsCodeOf p f.class f.method m → IsOfMethod p f → HasRoomToLand m → (m.handlers.rows.items ≡ []) ⊎ (1 ≤ f.room)
room_to_land p m f is of (inl none) =
    inl (none_mapped (catch_row_of p) m.handlers.rows.items (rows_are p f.class f.method m is ∙ ap (map row_of) none))
room_to_land p m f is of (inr room) =
    let e : m.linked.max_stack ≡ f.room = some_same m.linked.max_stack f.room (sym (room_at p f.class f.method m is (frame_of p f) refl refl) ∙ of.room) in
    inr (subst (λ n. 1 ≤ n) e room)

pub frames_are_handled : FramesAreHandled
frames_are_handled p m f is of room = record {
  class = of.class;
  handlers = is.handlers;
  room = room_to_land p m f is of room;
}
