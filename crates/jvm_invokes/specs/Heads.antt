-- What a call asks of the method that it runs.
use Rattle.std.specs.Prelude.{◌≡◌, List, Some}
use Rattle.program_rules.specs.Linked.{LinkedMethod, method_in, code_of}
use Rattle.program_rules.specs.Outlines.{Written, Natively, Abstractly, head_of}
use Rattle.machine_rules.specs.Calls.{room_in}
use Rattle.library_rules.specs.Numbered.{meaning_of}
use Rattle.class_link.specs.Info.{Info}
use Rattle.class_table.specs.Table.{look, name_at}
use Rattle.jvm_link.specs.declared.site.Site.{Site}
use Rattle.jvm_invokes.specs.declared.heads.Body.{Body}
use Rattle.jvm_invokes.specs.declared.heads.Body.TheVariants as body
use Rattle.jvm_invokes.specs.declared.heads.Head.{Head}

-- What a call of a method runs: code with these locals and this room, a native meaning, or nothing.
abbrev pub IsBody : LinkedMethod → Body → Type 0
IsBody m (body.Code locals stack) =
    ((head_of m).callable ≡ Written locals) × (room_in (code_of (Some m)) ≡ Some stack)
IsBody m (body.Native n) = (head_of m).callable ≡ Natively (meaning_of n)
IsBody m body.Empty = (head_of m).callable ≡ Abstractly

-- What a call asks of the method at a place.
pub record IsHead (s : Site) (m : LinkedMethod) (h : Head) : Type 0 where
  pub number : h.number ≡ s.place
  pub flags : h.flags ≡ m.flags
  pub body : IsBody m h.body

-- A method of a program stands here.
abbrev pub StandsAt : List Info → Site → LinkedMethod → Type 0
StandsAt p s m = method_in (look p (name_at p s.class.0)) s.place ≡ Some m
