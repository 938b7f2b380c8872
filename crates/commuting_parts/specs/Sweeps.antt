-- Sweeps of folders that are swept again later.
use Rattle.std.specs.Prelude.{◌≡◌, ◌≢◌, ◌⊎◌, List, [], ◌∷◌, ◌++◌}
use Rattle.std.specs.List.{AllByRecursion}
use Rattle.fs_semantics.specs.FileTree.{Path, parent}
use Rattle.fs_semantics.specs.Programs as model
use Rattle.fs_lang.specs.declared.program.Program.{Program}
use Rattle.fs_lang.specs.Meaning.{program_of}

-- removes a folder that has become empty
abbrev pub sweep : Path → model.Program
sweep d = model.If (model.IsEmpty d) (model.Rm d) model.Id

-- the program removes what stands at the path, or does so if it is a file, or if it is an empty folder
abbrev pub RemovesAt : Path → model.Program → Type 0
RemovesAt p e = (e ≡ model.Rm p) ⊎ ((e ≡ model.If (model.IsFile p) (model.Rm p) model.Id) ⊎ (e ≡ sweep p))

-- it removes something else than the folder, and not what the folder is in
abbrev pub IsHarmlessTo : Path → model.Program → Type 0
IsHarmlessTo d e = (p : Path) × RemovesAt p e × (d ≢ p) × (parent d ≢ p)

-- a sweep of a folder to which these steps are harmless
abbrev pub IsSweptBehind : List Program → Program → Type 0
IsSweptBehind before c = (d : Path) × (program_of c ≡ sweep d) × (d ≢ [])
    × AllByRecursion (λ e. IsHarmlessTo d (program_of e)) before

-- sweeps of folders to which these steps are harmless, and the sweeps ahead of each
abbrev pub AreSwept : List Program → List Program → Type 0
AreSwept before [] = Unit {0}
AreSwept before (c ∷ cs) = IsSweptBehind before c × AreSwept (before ++ c ∷ []) cs
