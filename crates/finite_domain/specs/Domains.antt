-- The finite domain of a list of programs.
use Rattle.std.specs.Prelude.{◌≡◌, ◌≢◌, ◌⊎◌, ◌↔◌, ℕ, Bool, ◌||◌, IsTrue, List, [], ◌∷◌, ◌++◌}
use Rattle.std.specs.List.{list_any}
use Rattle.std.specs.Ordering.{nat_cmp, is_eq}
use Rattle.std.specs.Cmp.Lexicographic.{slice_cmp}
use Rattle.fs_semantics.specs.FileTree.{Segment, Path, IsBytes, IsSegment, is_root, is_among}
use Rattle.fs_semantics.specs.Programs.{Program}
use Rattle.finite_domain.specs.Mentions.{At, Below, Text, AnyMentions}

-- the two texts are the same
abbrev pub text_eq : List ℕ → List ℕ → Bool
text_eq c d = is_eq (slice_cmp nat_cmp c d)

-- the text stands in the list
abbrev pub is_text_among : List ℕ → List (List ℕ) → Bool
is_text_among c cs = list_any (text_eq c) cs

-- one of the programs mentions the path
abbrev pub SpeakOf : List Program → Path → Type 0
SpeakOf es p = AnyMentions es (At p) ⊎ AnyMentions es (Below p)

-- a path of the programs or one above it, but not the root
pub record IsNamed (es : List Program) (p : Path) : Type 0 where
  pub not_root : p ≢ []
  pub more : Path
  pub spoken : SpeakOf es (p ++ more)

-- Paths and contents that are enough: the named paths, fresh children, and contents (and targets).
pub record Domain : Type 0 where
  pub named : List Path
  pub fresh : List Path
  pub contents : List (List ℕ)

-- a named path or a fresh child
abbrev pub is_path_of : Domain → Path → Bool
is_path_of d p = is_among p d.named || is_among p d.fresh

-- the root or a named path
abbrev pub is_known : Domain → Path → Bool
is_known d p = is_root p || is_among p d.named

-- The domain of the programs: the named paths; under each path whose children matter one fresh child, whose segment no
-- path of the programs has; the empty text, the constants, and one fresh text for each path.
pub record IsDomain (es : List Program) (d : Domain) : Type 0 where
  pub named : (p : Path) → IsTrue (is_among p d.named) ↔ IsNamed es p
  pub other : Segment
  pub other_is : IsSegment other
  pub unused : (front back : Path) → SpeakOf es (front ++ other ∷ back) → ⊥
  pub fresh : (q : Path) → IsTrue (is_among q d.fresh) ↔ ((p : Path) × AnyMentions es (Below p) × (q ≡ p ++ other ∷ []))
  pub constants : List (List ℕ)
  pub constants_are : (c : List ℕ) → IsTrue (is_text_among c constants) ↔ AnyMentions es (Text c)
  pub text : Path → List ℕ
  pub bytes : (p : Path) → IsTrue (is_path_of d p) → IsBytes (text p)
  pub new_text : (p : Path) → IsTrue (is_path_of d p) → AnyMentions es (Text (text p)) → ⊥
  pub own_text : (p q : Path) → IsTrue (is_path_of d p) → IsTrue (is_path_of d q) → text p ≡ text q → p ≡ q
  pub contents : (c : List ℕ) → IsTrue (is_text_among c d.contents)
      ↔ ((c ≡ []) ⊎ AnyMentions es (Text c) ⊎ ((p : Path) × IsTrue (is_path_of d p) × (c ≡ text p)))
