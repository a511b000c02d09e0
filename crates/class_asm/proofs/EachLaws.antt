-- What was made before, in front of what is still made.
use Rattle.std.proofs.Common.{List, ◌++◌}

abbrev pub fronted : {S B : Type 0} → List B → List B × S → List B × S
fronted front x = (front ++ x.0, x.1)
