use Rattle.std.proofs.Common.{◌≡◌, ◌++◌, map, take}
use Rattle.std.specs.List.{flat_map}
use Rattle.class_link.specs.View.{line_of}
use Rattle.class_link.specs.Linking.{lines_of, content_of}
use Rattle.class_link.proofs.code_linking.add_all_lines.Given as goal

abbrev pub invariant-loop-attr : goal.invariant-loop-attr
invariant-loop-attr l = map line_of l.lines.items ≡ map line_of l.initial.lines.items ++ flat_map (λ a. lines_of (content_of a)) (take l.attr-index l.attrs)
