-- Rows of an exception table by number, and whether a frame may be left for their handlers.
use Rattle.std.specs.Prelude.{◌≡◌, ℕ, Bool, true, ◌&&◌, ◌||◌, nat_le, nat_lt, if◌then◌else◌, List, [], ◌∷◌, map}
use Rattle.program_rules.specs.Names.{Name}
use Rattle.program_rules.specs.Types.{Obj}
use Rattle.program_rules.specs.Linked.{LinkedRow}
use Rattle.type_rules.specs.References.{Classes, throwable_name}
use Rattle.type_rules.specs.Assignability.{FrameTypes}
use Rattle.type_rules.specs.Frames.{stated_at}
use Rattle.type_rules.specs.Rows.{Setting, leads_to}
use Rattle.type_rules.specs.Rules.{caught_name}
use Rattle.vframes.specs.declared.frame.Frame.{Frame}
use Rattle.vframes.specs.declared.named.Named.{Named}
use Rattle.vframes.specs.Named.{name_at}
use Rattle.vframes.specs.FrameView.{types_of}
use Rattle.type_rows.specs.declared.site.Site.{Site}
use Rattle.type_rows.specs.Sites.{IsSettingOf}
use Rattle.vframes.specs.declared.handlers.Handler.{Handler}

-- A row of an exception table: what it covers, where its handler begins, the class that it catches,
-- and whether that is thrown.
pub record Caught : Type 0 where
  pub start : ℕ
  pub end : ℕ
  pub target : ℕ
  pub name : Name
  pub thrown : Bool

-- A class that is thrown, or of which there is no object.
abbrev pub is_thrown : Classes → Name → Bool
is_thrown p n = p.absent n || p.subtype n throwable_name

-- A row by the names of a class, and one of the rules.
abbrev pub caught_in : List Named → Handler → Caught
caught_in ns h = record {
  start = h.start;
  end = h.end;
  target = h.target;
  name = name_at ns h.caught;
  thrown = h.is_thrown;
}

abbrev pub caught_of : Classes → LinkedRow → Caught
caught_of p r = record {
  start = r.start;
  end = r.end;
  target = r.handler;
  name = caught_name r.catch;
  thrown = is_thrown p (caught_name r.catch);
}

-- These are the rows of an exception table, in order.
abbrev pub AreHandlersOf : Classes → List Named → List Handler → List LinkedRow → Type 0
AreHandlersOf p ns hs rows = map (caught_in ns) hs ≡ map (caught_of p) rows

-- Whether a row covers an instruction.
abbrev pub covers_at : ℕ → Caught → Bool
covers_at at h = nat_le h.start at && nat_lt at h.end

-- Whether a handler takes the locals of a frame and what it catches (rule 10).
abbrev pub takes_caught : Setting → FrameTypes → Caught → Bool
takes_caught s f h =
    leads_to s.program (record f { stack = Obj h.name ∷ [] }) (stated_at h.target s.frames)
    && h.thrown

-- Whether it does, where it covers the instruction.
abbrev pub fits : Setting → ℕ → FrameTypes → Caught → Bool
fits s at f h = if covers_at at h then takes_caught s f h else true

-- Whether all do.
abbrev pub all_fit : Setting → ℕ → FrameTypes → List Caught → Bool
all_fit s at f [] = true
all_fit s at f (h ∷ hs) = fits s at f h && all_fit s at f hs

-- ---- at a site

-- Nothing but the stack has changed.
pub record HasLocalsOf (old new : Frame) : Type 0 where
  pub locals : new.locals ≡ old.locals
  pub flag : new.flag ≡ old.flag

-- Whether a handler takes the locals; whether it does, where it covers the instruction; whether all
-- do.
abbrev pub TakesCaught : Site → Handler → Frame → Bool → Type 0
TakesCaught t h f b =
    (s : Setting) → IsSettingOf s t
    → takes_caught s (types_of t.names.now f) (caught_in t.names.now h) ≡ b

abbrev pub Fits : Site → ℕ → Handler → Frame → Bool → Type 0
Fits t at h f b =
    (s : Setting) → IsSettingOf s t
    → fits s at (types_of t.names.now f) (caught_in t.names.now h) ≡ b

abbrev pub AllFit : Site → ℕ → List Handler → Frame → Bool → Type 0
AllFit t at hs f b =
    (s : Setting) → IsSettingOf s t
    → all_fit s at (types_of t.names.now f) (map (caught_in t.names.now) hs) ≡ b
