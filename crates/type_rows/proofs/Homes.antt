-- The class of a setting; objects that aren't initialised.
use Rattle.std.proofs.Common.{◌≡◌, ◌<◌, ◌-◌, ◌&&◌, ℕ, suc, arith, Bool, List, true, false, ap, refl}
use Rattle.std.specs.Prelude.{if◌then◌else◌}
use Rattle.program_rules.specs.Names.{same, instance_initializer}
use Rattle.program_rules.specs.Instructions.{FieldRef, MethodRef}
use Rattle.program_rules.specs.Types as rules
use Rattle.type_rules.specs.Assignability.{FrameTypes, assignable}
use Rattle.type_rules.specs.Rows.{Setting, Checked, Fails, calls_special, declares, falls, has_room, initialises, is_any_reference, is_owner, may_name, plainly_named, takes_args, takes_such, with_result}
use Rattle.vframes.specs.declared.fresh.Fresh.TheVariants as fresh
use Rattle.vframes.specs.declared.named.Named.{Named}
use Rattle.vframes.specs.declared.slot_type.SlotType.{SlotType}
use Rattle.vframes.specs.declared.slot_type.SlotType.TheVariants as slot
use Rattle.vframes.specs.Fresh.{is_fresh}
use Rattle.vframes.specs.View.{type_of}
use Rattle.type_rows.specs.declared.site.Site.{Site}
use Rattle.type_rows.specs.Items.{IsIn}
use Rattle.type_rows.specs.Sites.{IsSettingOf, home_of}

pub at_home : (s : Setting) (t : Site) → IsSettingOf s t → IsIn s (home_of t)
at_home s t x = record { program = x.program; class = x.class; linked = x.linked }

pub owner_this : (s : Setting) (r : FieldRef) (ns : List Named) (t : SlotType) → is_fresh fresh.This t ≡ true → is_owner s r (type_of ns t) ≡ (same r.class s.class && declares r.name r.desc s.linked.fields)
owner_this s r ns slot.Top e = cc
owner_this s r ns slot.Int e = cc
owner_this s r ns slot.Long e = cc
owner_this s r ns slot.Null e = cc
owner_this s r ns slot.UninitThis e = refl
owner_this s r ns (slot.Uninit k) e = cc
owner_this s r ns (slot.Obj i) e = cc

pub owner_other : (s : Setting) (r : FieldRef) (ns : List Named) (t : SlotType) → is_fresh fresh.This t ≡ false → is_owner s r (type_of ns t) ≡ assignable s.program (type_of ns t) (rules.Obj r.class)
owner_other s r ns slot.Top e = refl
owner_other s r ns slot.Int e = refl
owner_other s r ns slot.Long e = refl
owner_other s r ns slot.Null e = refl
owner_other s r ns slot.UninitThis e = cc
owner_other s r ns (slot.Uninit k) e = refl
owner_other s r ns (slot.Obj i) e = refl

pub more_by : (n : ℕ) → 0 < n → n ≡ suc (n - 1)
more_by n l = omega (arith, l)

-- ---- special calls

abbrev pub by_initializer : Setting → FrameTypes → MethodRef → Checked
by_initializer s f r =
    takes_args s r.args f.stack (λ below. takes_such is_any_reference below (λ t rest.
    has_room s (with_result r.result rest) (initialises s f r (with_result r.result rest) t)))

abbrev pub near_ends : Setting → FrameTypes → MethodRef → rules.VType → List rules.VType → Checked
near_ends s f r t rest =
    has_room s (with_result r.result rest)
    (plainly_named r
    (if may_name s r.class && assignable s.program t (rules.Obj s.class)
    then falls f (with_result r.result rest) else Fails 12))

abbrev pub by_near : Setting → FrameTypes → MethodRef → Checked
by_near s f r =
    takes_args s r.args f.stack (λ below. takes_such (λ t.
    assignable s.program t (rules.Obj r.class)) below (near_ends s f r))

pub init_only : (s : Setting) (f : FrameTypes) (r : MethodRef) → same r.name instance_initializer ≡ true → calls_special s f r ≡ by_initializer s f r
init_only s f r e = ap (λ b. if b then by_initializer s f r else by_near s f r) e

pub near_only : (s : Setting) (f : FrameTypes) (r : MethodRef) → same r.name instance_initializer ≡ false → calls_special s f r ≡ by_near s f r
near_only s f r e = ap (λ b. if b then by_initializer s f r else by_near s f r) e
