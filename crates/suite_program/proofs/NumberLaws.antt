-- The class files of a program by their numbers.
use Rattle.std.proofs.Common.{◌≡◌, zero, suc, ◌≤◌, List, [], ◌∷◌, length, map, drop, ap, arith}
use Rattle.class_link.specs.declared.loaded.Loaded.{Loaded}
use Rattle.class_link.specs.declared.loaded.LibClass.{LibClass}
use Rattle.class_link.specs.declared.loaded.ClassBody.TheVariants as body
use Rattle.class_link.specs.Info.{Info}
use Rattle.class_table.specs.Table.{bodies_of}
use Rattle.suite_program.specs.Programs.{classes_in, HaveFirstNumbers}
use Rattle.suite_program.proofs.FileLaws.{file_by}

pub numbered : (p : List Info) (classes : List Loaded) (library : List LibClass) → map (λ i. i.body) p ≡ bodies_of classes library → HaveFirstNumbers p (classes_in classes)
numbered p [] library e k lt = absurd (omega (arith, lt))
numbered [] (c ∷ cs) library e k lt = absurd cc
numbered (x ∷ p) (c ∷ cs) library e zero lt = file_by x (body.File c) (let f : x.body ≡ body.File c = cc in f)
numbered (x ∷ p) (c ∷ cs) library e (suc k) lt = numbered p cs library (ap (drop 1) e) k (omega (arith, lt))

pub as_many : (p : List Info) (classes : List Loaded) (library : List LibClass) → map (λ i. i.body) p ≡ bodies_of classes library → length classes ≤ length p
as_many p [] library e = omega arith
as_many [] (c ∷ cs) library e = absurd cc
as_many (x ∷ p) (c ∷ cs) library e = let rest = as_many p cs library (ap (drop 1) e) in omega (arith, rest)
