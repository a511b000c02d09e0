-- The layouts of classes, kept by the class's number.
use Rattle.std.specs.Prelude.{◌≡◌, ◌≤◌, ◌+◌, ℕ, List, Option, Some, None, length}
use Rattle.std.proofs.Common.{get_or}
use Rattle.class_link.specs.Info.{Info}
use Rattle.jvm_layout.specs.declared.layout.Layout.{Layout}
use Rattle.jvm_layout.specs.Layouts.{IsLayoutOf}

-- What is held for a class, if anything is.
abbrev pub layout_at : ℕ → List (Option Layout) → Option Layout
layout_at class rows = get_or rows class None

-- The layout of a class, in which each slot takes a word.
pub record IsLaidOut (p : List Info) (class : ℕ) (l : Layout) : Type 0 where
  pub layout : IsLayoutOf p class l
  pub slots : length l.values ≤ 1 + l.more

-- All that is held is right.
abbrev pub AreLayouts : List Info → List (Option Layout) → Type 0
AreLayouts p rows = (class : ℕ) (l : Layout) → layout_at class rows ≡ Some l → IsLaidOut p class l
