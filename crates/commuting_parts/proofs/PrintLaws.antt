-- Programs whose footprints are apart, where some folders stand.
use Rattle.std.proofs.Common.{◌≡◌, ◌≢◌, ◌⊎◌, inl, inr, ℕ, ◌<◌, length, Bool, true, false, not, cond, ◌&&◌, ◌||◌, List, [], ◌∷◌, ◌++◌, get_or, Some, None, refl, sym, ap, subst, ◌∙◌, arith}
use Rattle.std.specs.List.{AllByRecursion}
use Rattle.std.specs.Prelude.{IsTrue}
use Rattle.std.specs.BTreeSet.{BTreeSet}
use Rattle.std.proofs.lemmas.Bool.{or_left, or_right, both_ways, cases_Bool, false_from_ne_true}
use Rattle.fs_semantics.specs.FileTree.{Path, Tree, IsTree, HasParents, parent, path_eq, is_dir, is_root}
use Rattle.fs_semantics.specs.Programs.{Test, True, False, Not, And, Or, IsFile, IsLink, IsDir, IsEmpty, IsNone, Program, Id, Err, Mkdir, If, run}
use Rattle.fs_semantics.specs.Changes.{IsProper, CommuteFrom, Commutes}
use Rattle.fs_semantics.specs.Orders.{Told}
use Rattle.fs_semantics.proofs.Trees.{path_eq_refl, path_eq_same}
use Rattle.fs_lang.specs.declared.program.Program.{Program as Written}
use Rattle.fs_lang.specs.Meaning.{program_of, programs_in}
use Rattle.effect_sets.specs.Footprints.{Paths, Footprint, nowhere, no_footprint, joined, see, looking, looking_below, ensuring, test_footprint, ensured, in_case, sure_after, footprint_after, steps_footprint, footprint, IsClearOf, AreApart}
use Rattle.effect_sets.specs.Members.{members}
use Rattle.sure_folders.specs.Folders.{In, Stand, IsTreeWith, MayRemove, sure_folders}
use Rattle.sure_folders.specs.Before.{IsSureBefore}
use Rattle.sure_folders.specs.Apart.{Leaves, where_stand, AreApartWith}
use Rattle.commuting_parts.specs.Runs.{LeadsTo, LeavesTest}
use Rattle.commuting_parts.specs.Prints.{TreeWith, CommuteWith, IsClearIn, AreApartIn}
use Rattle.commuting_parts.proofs.CommuteLaws.{leaves_asked}
use Rattle.sure_folders.proofs.Within.{any_within, either_within}
use Rattle.std.proofs.Math.Bool.{or-false}

-- ---- what isn't written isn't removed

-- the law of folders that are sure by footprints
abbrev pub ByFootprints : Type 0
ByFootprints = (given : Paths) (es : List Program) (before : ℕ → ℕ → Bool) (i maker : ℕ) (p : Path)
    → maker < length es → maker ≢ i → Told before maker i → In (sure_after (get_or es maker Id) nowhere) p
    → AllByRecursion (λ e. (footprint e).writes p ≡ false) es → IsSureBefore given es (Told before) i p

-- a choice that makes a folder where none stands ensures that folder
made_sure : (p : Path) → ensured (IsDir p) Id (Mkdir p) ≡ Some p
made_sure p = ap (λ b. cond b (Some p) None) (path_eq_refl p)

-- the footprint of two branches that look at nothing and change nothing
abbrev branches : Footprint
branches = joined no_footprint no_footprint

-- behind a program that makes sure of the folder it is sure, so it stays
pub unremoved : ByFootprints → (e : Program) (p : Path) → (footprint e).writes p ≡ false → MayRemove e p → ⊥
unremoved by e p unwritten =
    (by nowhere (If (IsDir p) Id (Mkdir p) ∷ e ∷ []) (λ a b. true) 1 0 p (omega arith) (λ same. omega arith) refl
    (ap (λ o. in_case {X = Paths} o (λ r q. path_eq q r || nowhere q) (λ q. sure_after Id nowhere q && sure_after (Mkdir p) nowhere q) p) (made_sure p) ∙ or_left _ _ (path_eq_refl p))
    (ap (λ o. (in_case o (λ r. ensuring r nowhere) (joined (test_footprint (IsDir p) nowhere) (joined (footprint_after Id nowhere) (footprint_after (Mkdir p) nowhere)))).writes p) (made_sure p), (unwritten, tt))).stays.1.0

-- ---- apart where some folders stand

-- where none of three holds, none does with a condition on the first
narrowed : (a b c x : Bool) → (a || b || c) ≡ false → ((a && x) || b || c) ≡ false
narrowed true b c x h = absurd (both_ways _ h (or_left (true || b) c refl))
narrowed false b c x h = h

-- what holds only where something else does never holds without it
sure_read : (a x : Bool) → (a ≡ true → x ≡ true) → (a && not x) ≡ false
sure_read true x h = ap not (h refl)
sure_read false x h = refl

-- a footprint that is clear of another, some folders aside, is clear of it where those folders stand
clear_with : (folders : Paths) (f g : Footprint) → IsClearIn folders f g → IsClearOf (where_stand folders f) (where_stand folders g)
clear_with folders f g c = record {
  writes = λ q w. narrowed (g.reads q) (g.writes q) (g.folders q) (not (folders q)) (c.writes q w);
  folders = λ q m. sure_read (g.reads q) (folders q) (c.folders_made q m);
  children = c.children;
}

module _ (by : ByFootprints) where
  -- a program whose footprint is clear, some folders aside, removes none of them
  left_standing : (folders : Paths) (e : Program) (g : Footprint) → IsClearIn folders (footprint e) g → Leaves folders e
  left_standing folders e g c p stands = unremoved by e p (false_from_ne_true _ (λ w. both_ways _ (c.kept p w) stands))

  -- programs whose footprints are apart, some folders aside, are apart where those folders stand
  apart_with : (folders : Paths) (e f : Program) → AreApartIn folders (footprint e) (footprint f) → AreApartWith folders e f
  apart_with folders e f a = record {
    left = left_standing folders e (footprint f) a.left;
    right = left_standing folders f (footprint e) a.right;
    apart = record { left = clear_with folders (footprint e) (footprint f) a.left; right = clear_with folders (footprint f) (footprint e) a.right };
  }

  -- the law of programs that are apart where folders stand
  abbrev pub ApartCommute : Type 0
  ApartCommute = (folders : Paths) (e f : Program) → IsProper e → IsProper f → AreApartWith folders e f → CommuteFrom (IsTreeWith (In folders)) e f

  -- such programs, where they are proper, commute where the folders stand
  pub apart_commute : ApartCommute → (folders : BTreeSet Path) (e f : Program) → IsProper e → IsProper f
      → AreApartIn (members folders) (footprint e) (footprint f) → CommuteWith folders e f
  apart_commute law folders e f proper proper_too a = law (members folders) e f proper proper_too (apart_with (members folders) e f a)

  module _ (tree : (e : Program) (t u : Tree) → IsProper e → IsTree t → run e t ≡ Some u → IsTree u)
      (kept : (e : Program) (p : Path) (t u : Tree) → (MayRemove e p → ⊥) → IsTrue (is_dir t p) → run e t ≡ Some u → IsTrue (is_dir u p)) where
    -- where none of the folders is written they stay
    pub keeps : (folders : BTreeSet Path) (e : Program) (g : Footprint) → IsProper e → IsClearIn (members folders) (footprint e) g
        → LeadsTo (TreeWith folders) (TreeWith folders) (run e)
    keeps folders e g proper c t u good ends =
        let left = left_standing (members folders) e g c in
        record { is_tree = tree e t u proper good.is_tree ends; stand = λ p k. kept e p t u (left p k) (good.stand p k) ends }

    -- and the folders stand that the program makes sure of
    pub makes : ((e : Program) (p : Path) → In (sure_after e nowhere) p → In (sure_folders e) p)
        → ((e : Program) (t u : Tree) → HasParents t → run e t ≡ Some u → Stand (In (sure_folders e)) u)
        → (folders more : BTreeSet Path) (e : Program) (g : Footprint) → IsProper e → IsClearIn (members folders) (footprint e) g
        → ((p : Path) → In (members more) p → In (members folders) p ⊎ In (sure_after e nowhere) p)
        → LeadsTo (TreeWith folders) (TreeWith more) (run e)
    makes fewer sure folders more e g proper c all t u good ends =
        let still = keeps folders e g proper c t u good ends in
        let has : HasParents t = record { no_root = good.is_tree.no_root; parents = good.is_tree.parents } in
        record {
          is_tree = still.is_tree;
          stand = λ p k. elim (all p k) [
            | inl stood ↦ still.stand p stood
            | inr made ↦ sure e t u has ends p (fewer e p made)
          ];
        }

-- ---- less that is looked at and changed

-- all that is in the first footprint is in the second
pub record Within (f g : Footprint) : Type 0 where
  pub reads : (q : Path) → f.reads q ≡ true → g.reads q ≡ true
  pub writes : (q : Path) → f.writes q ≡ true → g.writes q ≡ true
  pub folders : (q : Path) → f.folders q ≡ true → g.folders q ≡ true
  pub children : (q : Path) → f.children q ≡ true → g.children q ≡ true

-- one of two holds with what follows from the second in its place
one_of : (a b c d : Bool) → (b ≡ true → d ≡ true) → (a || b) ≡ true → (a || d) ≡ true
one_of true b c d h k = refl
one_of false b c d h k = h k

-- a footprint within another is so too where both are joined with a third
joined_within : (x f g : Footprint) → Within f g → Within (joined x f) (joined x g)
joined_within x f g w = record {
  reads = λ q. one_of (x.reads q) (f.reads q) true (g.reads q) (w.reads q);
  writes = λ q. one_of (x.writes q) (f.writes q) true (g.writes q) (w.writes q);
  folders = λ q. one_of (x.folders q) (f.folders q) true (g.folders q) (w.folders q);
  children = λ q. one_of (x.children q) (f.children q) true (g.children q) (w.children q);
}

-- the first steps of a list
pub front_within : (front back : List Written) (sure : Paths) → Within (steps_footprint (programs_in front) sure) (steps_footprint (programs_in (front ++ back)) sure)
front_within [] back sure = record { reads = λ q k. cc; writes = λ q k. cc; folders = λ q k. cc; children = λ q k. cc }
front_within (e ∷ front) back sure =
    joined_within (footprint_after (program_of e) sure) (steps_footprint (programs_in front) (sure_after (program_of e) sure))
    (steps_footprint (programs_in (front ++ back)) (sure_after (program_of e) sure)) (front_within front back (sure_after (program_of e) sure))

-- what is apart from a footprint is apart from what is within it
pub apart_within : (folders : Paths) (x f g : Footprint) → Within f g → AreApartIn folders x g → AreApartIn folders x f
apart_within folders x f g w a = record {
  left = record {
    kept = a.left.kept;
    writes = λ q h. false_from_ne_true _ (λ m. both_ways _ (a.left.writes q h)
        (any_within (f.reads q) (f.writes q) (f.folders q) (g.reads q) (g.writes q) (g.folders q) (w.reads q) (w.writes q) (w.folders q) m));
    folders_made = λ q h r. a.left.folders_made q h (w.reads q r);
    children = λ q h. false_from_ne_true _ (λ m. both_ways _ (a.left.children q h) (w.children (parent q) m));
  };
  right = record {
    kept = λ q h. a.right.kept q (w.writes q h);
    writes = λ q h. a.right.writes q (w.writes q h);
    folders_made = λ q h r. a.right.folders_made q (w.folders q h) r;
    children = λ q h. a.right.children q (either_within (f.writes q) (f.folders q) (g.writes q) (g.folders q) (w.writes q) (w.folders q) h);
  };
}

-- ---- tests

-- where neither of two holds, and neither of two others, none of the four does
neither : (x y z w : Bool) → (x || y) ≡ false → (z || w) ≡ false → ((x || z) || (y || w)) ≡ false
neither true y z w h k = absurd (both_ways _ h refl)
neither false true z w h k = absurd (both_ways _ h refl)
neither false false true w h k = absurd (both_ways _ k refl)
neither false false false w h k = k

-- a test writes nothing and makes no folder
changes_nothing : (c : Test) (sure : Paths) (q : Path) → ((test_footprint c sure).writes q || (test_footprint c sure).folders q) ≡ false
changes_nothing True sure q = refl
changes_nothing False sure q = refl
changes_nothing (Not a) sure q = changes_nothing a sure q
changes_nothing (And a b) sure q =
    let x = test_footprint a sure in
    let y = test_footprint b sure in
    neither (x.writes q) (x.folders q) (y.writes q) (y.folders q) (changes_nothing a sure q) (changes_nothing b sure q)
changes_nothing (Or a b) sure q =
    let x = test_footprint a sure in
    let y = test_footprint b sure in
    neither (x.writes q) (x.folders q) (y.writes q) (y.folders q) (changes_nothing a sure q) (changes_nothing b sure q)
changes_nothing (IsFile p) sure q = refl
changes_nothing (IsLink p) sure q = refl
changes_nothing (IsDir p) sure q = refl
changes_nothing (IsEmpty p) sure q = refl
changes_nothing (IsNone p) sure q = refl

-- a choice to fail where a test holds ensures no folder
not_ensured : (c : Test) → ensured c Err Id ≡ None
not_ensured True = refl
not_ensured False = refl
not_ensured (Not a) = refl
not_ensured (And a b) = refl
not_ensured (Or a b) = refl
not_ensured (IsFile p) = refl
not_ensured (IsLink p) = refl
not_ensured (IsDir p) = refl
not_ensured (IsEmpty p) = refl
not_ensured (IsNone p) = refl

-- the footprint of a test that a program asks
abbrev asked : Test → Footprint
asked c = joined (test_footprint c nowhere) branches

-- a choice to fail where the test holds has that footprint
asks : (c : Test) → footprint (If c Err Id) ≡ asked c
asks c = ap (λ o. in_case o (λ p. ensuring p nowhere) (asked c)) (not_ensured c)

-- a test that is asked writes nothing and makes no folder
unchanged : (c : Test) (q : Path) → ((asked c).writes q || (asked c).folders q) ≡ false
unchanged c q =
    (λ i. or-false ((test_footprint c nowhere).writes q) i || or-false ((test_footprint c nowhere).folders q) i) ∙ changes_nothing c nowhere q

-- what is clear of what a test looks at is clear of the test asked
clear_of_asked : (f : Footprint) (c : Test) → IsClearOf f (test_footprint c nowhere) → IsClearOf f (asked c)
clear_of_asked f c clear =
    let t = test_footprint c nowhere in
    record {
      writes = λ q h. (λ i. or-false (t.reads q) i || or-false (t.writes q) i || or-false (t.folders q) i) ∙ clear.writes q h;
      folders = λ q h. or-false (t.reads q) ∙ clear.folders q h;
      children = λ q h. or-false (t.children (parent q)) ∙ clear.children q h;
    }

-- a test that is asked is clear of everything
asked_is_clear : (f : Footprint) (c : Test) → IsClearOf (asked c) f
asked_is_clear f c =
    let none : (q : Path) (X : Type 0) → ((asked c).writes q || (asked c).folders q) ≡ true → X = λ q X h. absurd (both_ways _ (unchanged c q) h) in
    record {
      writes = λ q h. none q _ (or_left _ _ h);
      folders = λ q h. none q _ (or_right ((asked c).writes q) _ h);
      children = λ q h. none q _ h;
    }

-- a program whose footprint is clear of what the test looks at leaves the test
pub test_left : ((e f : Program) → IsProper e → IsProper f → AreApart (footprint e) (footprint f) → Commutes e f)
    → (folders : BTreeSet Path) (c : Test) (f : Program) → IsProper f → IsClearOf (footprint f) (test_footprint c nowhere)
    → LeavesTest (TreeWith folders) c (run f)
test_left law folders c f proper clear t u good ends =
    leaves_asked IsTree c f (law (If c Err Id) f (tt, tt) proper
    (subst (λ x. AreApart x (footprint f)) (sym (asks c))
    (record { left = asked_is_clear (footprint f) c; right = clear_of_asked (footprint f) c clear })))
    t u good.is_tree ends

-- ---- what a test looks at

-- who looks at a path outside of a set sees no path of the set
unread : (f : Paths) (p q : Path) → f p ≡ false → f q ≡ true → see p nowhere q ≡ false
unread f p q free here = elim (cases_Bool (path_eq q p)) [
  | inl same ↦ absurd (both_ways _ free (ap f (sym (path_eq_same q p same)) ∙ here))
  | inr other ↦ ap (λ b. b && not (is_root q || false)) other
]

-- what neither writes a path nor makes a folder there is clear of a look at it
pub clear_of_path : (f : Footprint) (p : Path) → f.writes p ≡ false → f.folders p ≡ false → IsClearOf f (looking p nowhere)
clear_of_path f p unwritten unmade = record {
  writes = λ q h. ap (λ b. b || false || false) (unread f.writes p q unwritten h);
  folders = λ q h. unread f.folders p q unmade h;
  children = λ q h. refl;
}

-- what is clear of a look at a folder, and changes nothing in it, is clear of a look at it and its children
pub clear_of_folder : (f : Footprint) (p : Path) → IsClearOf f (looking p nowhere)
    → ((q : Path) → IsTrue (f.writes q || f.folders q) → path_eq (parent q) p ≡ false) → IsClearOf f (looking_below p nowhere)
clear_of_folder f p at below = record { writes = at.writes; folders = at.folders; children = below }

-- where none of three holds, and none of three others, none of the six does
six : (a b c d e f : Bool) → (a || c || e) ≡ false → (b || d || f) ≡ false → ((a || b) || (c || d) || (e || f)) ≡ false
six true b c d e f h k = absurd (both_ways _ h (or_left (true || c) e refl))
six false b true d e f h k = absurd (both_ways _ h refl)
six false true false d e f h k = absurd (both_ways _ k (or_left (true || d) f refl))
six false false false true e f h k = absurd (both_ways _ k refl)
six false false false false e f h k = one e f h k
  where
    one : (x y : Bool) → x ≡ false → y ≡ false → (x || y) ≡ false
    one false y h k = k
    one true y h k = cc

-- of either of two tests
pub clear_of_joined : (f x y : Footprint) → IsClearOf f x → IsClearOf f y → IsClearOf f (joined x y)
clear_of_joined f x y left right = record {
  writes = λ q h. six (x.reads q) (y.reads q) (x.writes q) (y.writes q) (x.folders q) (y.folders q) (left.writes q h) (right.writes q h);
  folders = λ q h. either (x.reads q) (y.reads q) (left.folders q h) (right.folders q h);
  children = λ q h. either (x.children (parent q)) (y.children (parent q)) (left.children q h) (right.children q h);
}
  where
    either : (a b : Bool) → a ≡ false → b ≡ false → (a || b) ≡ false
    either false b h k = k
    either true b h k = cc
