-- What programs ask of a tree, and trees that agree on it.
use Rattle.std.specs.Prelude.{◌≡◌, ◌⊎◌, Some, None}
use Rattle.std.specs.FinMap as map
use Rattle.fs_semantics.specs.FileTree.{Path, Tree, parent}
use Rattle.fs_semantics.specs.Programs.{Test, True, False, Not, And, Or, IsFile, IsLink, IsDir, IsEmpty, IsNone, Program, Programs, Id, Err, Mkdir, Creat, Link, Rm, Cp, Steps, If, none, next, Outcome}

-- the test asks what stands at the path
abbrev pub TestReads : Test → Path → Type 0
TestReads True q = ⊥
TestReads False q = ⊥
TestReads (Not a) q = TestReads a q
TestReads (And a b) q = TestReads a q ⊎ TestReads b q
TestReads (Or a b) q = TestReads a q ⊎ TestReads b q
TestReads (IsFile p) q = q ≡ p
TestReads (IsLink p) q = q ≡ p
TestReads (IsDir p) q = q ≡ p
TestReads (IsEmpty p) q = q ≡ p
TestReads (IsNone p) q = q ≡ p

-- the test asks whether the path has children
abbrev pub TestReadsBelow : Test → Path → Type 0
TestReadsBelow True q = ⊥
TestReadsBelow False q = ⊥
TestReadsBelow (Not a) q = TestReadsBelow a q
TestReadsBelow (And a b) q = TestReadsBelow a q ⊎ TestReadsBelow b q
TestReadsBelow (Or a b) q = TestReadsBelow a q ⊎ TestReadsBelow b q
TestReadsBelow (IsFile p) q = ⊥
TestReadsBelow (IsLink p) q = ⊥
TestReadsBelow (IsDir p) q = ⊥
TestReadsBelow (IsEmpty p) q = q ≡ p
TestReadsBelow (IsNone p) q = ⊥

-- what is made needs a free place and a folder above it
abbrev pub MakingReads : Path → Path → Type 0
MakingReads p q = (q ≡ p) ⊎ (q ≡ parent p)

-- the program asks what stands at the path
abbrev mutual
  pub Reads : Program → Path → Type 0
  Reads Id q = ⊥
  Reads Err q = ⊥
  Reads (Mkdir p) q = MakingReads p q
  Reads (Creat p content) q = MakingReads p q
  Reads (Link p target) q = MakingReads p q
  Reads (Rm p) q = q ≡ p
  Reads (Cp from p) q = (q ≡ from) ⊎ MakingReads p q
  Reads (Steps es) q = StepsRead es q
  Reads (If a e f) q = TestReads a q ⊎ (Reads e q ⊎ Reads f q)

  pub StepsRead : Programs → Path → Type 0
  StepsRead none q = ⊥
  StepsRead (next e es) q = Reads e q ⊎ StepsRead es q

-- the program asks whether the path has children
abbrev mutual
  pub ReadsBelow : Program → Path → Type 0
  ReadsBelow Id q = ⊥
  ReadsBelow Err q = ⊥
  ReadsBelow (Mkdir p) q = ⊥
  ReadsBelow (Creat p content) q = ⊥
  ReadsBelow (Link p target) q = ⊥
  ReadsBelow (Rm p) q = q ≡ p
  ReadsBelow (Cp from p) q = ⊥
  ReadsBelow (Steps es) q = StepsReadBelow es q
  ReadsBelow (If a e f) q = TestReadsBelow a q ⊎ (ReadsBelow e q ⊎ ReadsBelow f q)

  pub StepsReadBelow : Programs → Path → Type 0
  StepsReadBelow none q = ⊥
  StepsReadBelow (next e es) q = ReadsBelow e q ⊎ StepsReadBelow es q

-- the trees have the same entries at the first paths, and children at the same places directly below the second
pub record Agree (at below : Path → Type 0) (t u : Tree) : Type 0 where
  pub entries : (q : Path) → at q → map.get t q ≡ map.get u q
  pub children : (q : Path) → below (parent q) → map.contains_key t q ≡ map.contains_key u q

-- the trees agree on what the program asks
abbrev pub AgreeOn : Program → Tree → Tree → Type 0
AgreeOn e t u = Agree (Reads e) (ReadsBelow e) t u

-- both are Error, or both are trees, of which this holds
abbrev pub AreAlike : (Tree → Tree → Type 0) → Outcome → Outcome → Type 0
AreAlike P None None = Unit {0}
AreAlike P None (Some u) = ⊥
AreAlike P (Some t) None = ⊥
AreAlike P (Some t) (Some u) = P t u
