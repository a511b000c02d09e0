use Rattle.std.proofs.Common.{◌≡◌, map, take}
use Rattle.class_link.specs.View.{method_of}
use Rattle.class_link.specs.Linking.{library_method}
use Rattle.class_link.proofs.library_linking.library_methods.Given as goal

abbrev pub invariant-loop-method : goal.invariant-loop-method
invariant-loop-method l = map (method_of l.entries) l.linked.items ≡ map (library_method l.classes) (take l.method-index l.methods)
