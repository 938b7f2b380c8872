-- Ordered sets, by their tests.
use Rattle.std.proofs.Common.{◌≡◌, Bool, true, false, cond, not, ◌&&◌, ◌||◌, List, [], ◌∷◌, refl, sym, ap, ◌∙◌}
use Rattle.std.specs.BTreeSet.{BTreeSet, Updates}
use Rattle.fs_semantics.specs.FileTree.{Path, path_cmp, path_eq, parent, is_among}
use Rattle.fs_semantics.proofs.Trees.{path_eq_refl, path_eq_same}
use Rattle.fs_semantics.proofs.Keys.{same_bool}
use Rattle.effect_sets.specs.Footprints.{Paths, nowhere}
use Rattle.effect_sets.specs.Members.{members, with_one, without_one, common, is_parent_of}
use Rattle.std.proofs.Math.Bool.{and-false}

-- a side of a disjunction that follows from the other adds nothing
same_or : (b x : Bool) → (b ≡ true → x ≡ true) → x ≡ (b || x)
same_or true x h = h refl
same_or false x h = refl

-- a member is one more without a change
pub already : (s : BTreeSet Path) (p : Path) → members s p ≡ true → members s ≡ with_one p (members s)
already s p h = λ i q. same_or (path_eq q p) (members s q) (λ e. ap (members s) (path_eq_same q p e) ∙ h) i

-- that paths are one holds either way round
path_eq_flip : (p q : Path) → path_eq p q ≡ path_eq q p
path_eq_flip p q = same_bool (path_eq p q) (path_eq q p) (λ h. ap (λ r. path_eq r p) (sym (path_eq_same p q h)) ∙ path_eq_refl p) (λ h. ap (λ r. path_eq r q) (sym (path_eq_same q p h)) ∙ path_eq_refl q)

-- a choice of true, or of what is there, is a disjunction
one_more : (b x : Bool) → cond b true x ≡ (b || x)
one_more true x = refl
one_more false x = refl

-- a conjunction with true is its other side
and_true : (x : Bool) → (x && true) ≡ x
and_true true = refl
and_true false = refl

-- a choice of false, or of what is there, is what is there without it
one_less : (b x : Bool) → cond b false x ≡ (x && not b)
one_less true x = sym (and-false x)
one_less false x = sym (and_true x)

-- to put a path in gives the set with it
pub put_in : (s n : BTreeSet Path) (p : Path) → Updates path_cmp s n p true → members n ≡ with_one p (members s)
put_in s n p u = λ i q. (u.0 q ∙ ap (λ b. cond b true (members s q)) (path_eq_flip p q) ∙ one_more (path_eq q p) (members s q)) i

-- to take a path out gives the set without it
pub taken_out : (s n : BTreeSet Path) (p : Path) → Updates path_cmp s n p false → members n ≡ without_one p (members s)
taken_out s n p u = λ i q. (u.0 q ∙ ap (λ b. cond b false (members s q)) (path_eq_flip p q) ∙ one_less (path_eq q p) (members s q)) i

-- a set has all of itself in common
pub common_itself : (f : Paths) → common f f ≡ f
common_itself f = λ i q. twice (f q) i
  where
    twice : (b : Bool) → (b && b) ≡ b
    twice true = refl
    twice false = refl

-- a path of the set is one more of what is in it, and another isn't
pub kept_in : (s : BTreeSet Path) (f : Paths) (p : Path) → members s p ≡ true → with_one p f ≡ (λ q. (path_eq q p && members s q) || f q)
kept_in s f p h = λ i q. ap (λ b. b || f q) (by (path_eq q p) (members s q) (λ e. ap (members s) (path_eq_same q p e) ∙ h)) i
  where
    by : (b x : Bool) → (b ≡ true → x ≡ true) → b ≡ (b && x)
    by true x k = sym (k refl)
    by false x k = refl

-- a path that isn't in the set leaves what is in common
pub kept_out : (s : BTreeSet Path) (f : Paths) (p : Path) → members s p ≡ false → f ≡ (λ q. (path_eq q p && members s q) || f q)
kept_out s f p h = λ i q. ap (λ b. b || f q) (by (path_eq q p) (members s q) (λ e. ap (members s) (path_eq_same q p e) ∙ h)) i
  where
    by : (b x : Bool) → (b ≡ true → x ≡ false) → false ≡ (b && x)
    by true x k = sym (k refl)
    by false x k = refl

-- a path that is looked at moves from those to come to those that are in common, if it is in the set
moved : (b c x y : Bool) → ((c && x) || ((b && x) || y)) ≡ (((b || c) && x) || y)
moved true true true y = refl
moved true true false y = refl
moved true false true y = refl
moved true false false y = refl
moved false true true y = refl
moved false true false y = refl
moved false false x y = refl

-- the next path of a walk
pub one_shared : (old rest : List Path) (p : Path) (f g h : Paths) (q : Path) → old ≡ p ∷ rest → h ≡ (λ r. (path_eq r p && f r) || g r)
    → ((is_among q rest && f q) || h q) ≡ ((is_among q old && f q) || g q)
one_shared old rest p f g h q next is =
    ap (λ k. (is_among q rest && f q) || k q) is ∙ moved (path_eq q p) (is_among q rest) (f q) (g q) ∙ sym (ap (λ l. (is_among q l && f q) || g q) next)

-- three sets in either order are the same
pub turned : (b c y : Bool) → (c || (b || y)) ≡ ((b || c) || y)
turned true true y = refl
turned true false y = refl
turned false c y = refl

-- the parent of the next path moves from those to come to those that were found
pub one_parent : (old rest : List Path) (p : Path) (g h : Paths) (q : Path) → old ≡ p ∷ rest → h ≡ with_one (parent p) g
    → (is_parent_of q rest || h q) ≡ (is_parent_of q old || g q)
one_parent old rest p g h q next is =
    ap (λ k. is_parent_of q rest || k q) is ∙ turned (path_eq q (parent p)) (is_parent_of q rest) (g q) ∙ sym (ap (λ l. is_parent_of q l || g q) next)

-- a set without keys has no path
pub no_members : (s : BTreeSet Path) → s.keys ≡ [] → members s ≡ nowhere
no_members s h = λ i q. (ap (is_among q) h) i

-- what isn't there adds nothing to two sets
three : (b c x : Bool) → x ≡ false → (c || (b || x)) ≡ (b || c)
three true true x h = refl
three true false x h = refl
three false true x h = refl
three false false x h = h

-- the parents that were found are those of what is written and of the folders
pub parents_are : (writes folders : List Path) (f g h : Paths) (q : Path) → f ≡ nowhere → g ≡ (λ r. is_parent_of r writes || f r) → h ≡ (λ r. is_parent_of r folders || g r)
    → h q ≡ (is_parent_of q writes || is_parent_of q folders)
parents_are writes folders f g h q a b c =
    ap (λ k. k q) c ∙ ap (λ k. is_parent_of q folders || k q) b ∙ three (is_parent_of q writes) (is_parent_of q folders) (f q) (ap (λ k. k q) a)
