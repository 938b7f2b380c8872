-- The texts of paths.
use Rattle.std.specs.Prelude.{◌≡◌, ◌≢◌, ℕ, ◌≤◌, List, [], ◌∷◌, ◌++◌, length, codes}
use Rattle.std.specs.List.{AllByRecursion}
use Rattle.rh_base.specs.declared.limits.TheConstants.{PATH_BYTES, PATH_SEGMENTS}
use Rattle.fs_lang.specs.declared.path.PathFault.{PathFault}
use Rattle.fs_lang.specs.declared.path.PathFault.TheVariants as fault
use Rattle.fs_semantics.specs.FileTree.{Path, IsSegment}

-- any number of slashes, none too
abbrev pub AreSlashes : List ℕ → Type 0
AreSlashes text = AllByRecursion (λ b. b ≡ 47) text

-- The segments in order, each with one slash or more ahead of it, and any number of slashes at the end.
abbrev pub Segments : Path → List ℕ → Type 0
Segments [] text = AreSlashes text
Segments (s ∷ p) text = (slashes rest : List ℕ) × (slashes ≢ []) × AreSlashes slashes × Segments p rest × (text ≡ slashes ++ (s ++ rest))

-- The text of a path: it begins with a slash; repeated and trailing slashes don't count; no piece between slashes is one
-- dot or two, or has a zero in it; and it is within the limits.
pub record IsPathText (text : List ℕ) (p : Path) : Type 0 where
  pub not_empty : text ≢ []
  pub spelled : Segments p text
  pub segments : AllByRecursion IsSegment p
  pub bytes : length text ≤ PATH_BYTES
  pub depth : length p ≤ PATH_SEGMENTS

-- a fact where the fault is that the text is no path
abbrev pub IfBad : PathFault → Type 0 → Type 0
IfBad fault.Bad P = P
IfBad (fault.Memory m) P = Unit {0}

-- each segment after a slash
abbrev pub spelled : Path → List ℕ
spelled [] = []
spelled (s ∷ p) = codes "/" ++ (s ++ spelled p)

-- the text of a path as it is written
abbrev pub path_text : Path → List ℕ
path_text [] = codes "/"
path_text (s ∷ p) = spelled (s ∷ p)
