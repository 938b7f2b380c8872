-- What stands already stays.
use Rattle.std.proofs.Common.{◌≡◌, true, false, cond, Some, codes, ◌++◌, ap}
use Rattle.fs_semantics.specs.FileTree.{Path, Tree, is_none}
use Rattle.fs_semantics.specs.Programs.{Program, Creat, Cp, run}
use Rattle.model_semantics.specs.declared.states.FileState.{FileState}
use Rattle.model_semantics.specs.declared.states.FileState.TheVariants as file
use Rattle.compiled_models.specs.Files.{where_none, spared_row}
use Rattle.compiled_models.specs.Alike.{has_filling}

-- where something stands, what is put only where nothing does changes nothing
stays : (p : Path) (e : Program) (t : Tree) → is_none t p ≡ false → run (where_none p e) t ≡ Some t
stays p e t h = ap (λ b. cond b (run e t) (Some t)) h

-- so does a file that says `replace` false
pub spared : (p : Path) (state : FileState) (t : Tree) → has_filling state ≡ true → is_none t p ≡ false → run (spared_row p state) t ≡ Some t
spared p (file.Content content) t h there = stays p (Creat p content) t there
spared p (file.Copied from) t h there = stays p (Cp from p) t there
spared p (file.Fetched address) t h there = stays p (Creat p (codes "source:" ++ address)) t there
spared p file.Unsaid t h there = cc
spared p file.Present t h there = cc
spared p file.File t h there = cc
spared p file.Folder t h there = cc
spared p file.Absent t h there = cc
spared p (file.Link target) t h there = cc
