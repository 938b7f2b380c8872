-- A tree on which files at disjoint paths can be put: the folders above them, and nothing else.
use Rattle.std.proofs.Common.{◌≡◌, ◌≢◌, ◌⊎◌, inl, inr, ℕ, zero, suc, ◌+◌, ◌<◌, ◌≤◌, ◌==◌, Bool, true, false, cond, List, [], ◌∷◌, ◌++◌, length, get_or, Option, Some, None, refl, sym, ap, subst, ◌∙◌, arith, eqb-true}
use Rattle.std.proofs.lemmas.Bool.{ne_eqb, eqb-false}
use Rattle.std.specs.Prelude.{map, is_some, IsSome}
use Rattle.std.specs.List.{AllByRecursion}
use Rattle.std.specs.FinMap as finite
use Rattle.std.specs.FinMap.{get-empty, get-insert}
use Rattle.fs_semantics.specs.FileTree.{Path, IsSegment, parent, path_cmp, path_eq, Entry, Folder, File, Tree, HasText, is_folder_entry, is_dir, IsTree}
use Rattle.fs_semantics.specs.Programs.{Program, Id, and_then, run}
use Rattle.fs_semantics.specs.Orders.{times, NoneAhead, up_from, IsLinearExtension, outcome, Succeeds}
use Rattle.fs_semantics.specs.Models.{put}
use Rattle.fs_semantics.specs.Disjoint.{IsAncestor, IsDisjointFrom, AreDisjoint}
use Rattle.fs_semantics.specs.PlainFiles.{PlainFile, IsFilePath, ArePlain, puts, Unordered}
use Rattle.fs_semantics.proofs.Trees.{path_total, path_eq_refl, path_eq_same}
use Rattle.fs_semantics.proofs.Puts.{can_put, put_is, can_put_other}
use Rattle.fs_semantics.proofs.PlainFiles.{not_parent, plain_alike}
use Rattle.fs_semantics.proofs.Commuting.{same_times_of}

-- the path is one of these
abbrev In : Path → List Path → Type 0
In q [] = ⊥
In q (p ∷ ps) = (q ≡ p) ⊎ In q ps

-- what is in the first of two lists is in both joined
In-append_left : (q : Path) (ps qs : List Path) → In q ps → In q (ps ++ qs)
In-append_left q [] qs h = absurd h
In-append_left q (p ∷ ps) qs (inl e) = inl e
In-append_left q (p ∷ ps) qs (inr h) = inr (In-append_left q ps qs h)

-- what is in the second is, too
In-append_right : (q : Path) (ps qs : List Path) → In q qs → In q (ps ++ qs)
In-append_right q [] qs h = h
In-append_right q (p ∷ ps) qs h = inr (In-append_right q ps qs h)

-- what is in two lists joined is in one of them
In-append : (q : Path) (ps qs : List Path) → In q (ps ++ qs) → In q ps ⊎ In q qs
In-append q [] qs h = inr h
In-append q (p ∷ ps) qs (inl e) = inl (inl e)
In-append q (p ∷ ps) qs (inr h) = elim (In-append q ps qs h) [ inl a ↦ inl (inr a) | inr b ↦ inr b ]

-- a path of a list is, behind a segment, one of the list behind that segment
In-map : (s : List ℕ) (q : Path) (ps : List Path) → In q ps → In (s ∷ q) (map (λ p. s ∷ p) ps)
In-map s q [] h = absurd h
In-map s q (p ∷ ps) (inl e) = inl (ap (λ r. s ∷ r) e)
In-map s q (p ∷ ps) (inr h) = inr (In-map s q ps h)

-- and each of those comes from one of the list
In-mapped : (s : List ℕ) (q : Path) (ps : List Path) → In q (map (λ p. s ∷ p) ps) → (r : Path) × (q ≡ s ∷ r) × In r ps
In-mapped s q [] h = absurd h
In-mapped s q (p ∷ ps) (inl e) = (p, e, inl refl)
In-mapped s q (p ∷ ps) (inr h) = let more = In-mapped s q ps h in (more.0, more.1, inr more.2)

-- the proper fronts of a path, but the root
fronts : Path → List Path
fronts [] = []
fronts (s ∷ []) = []
fronts (s ∷ r ∷ p) = (s ∷ []) ∷ map (λ q. s ∷ q) (fronts (r ∷ p))

-- one of them, or the root
abbrev InOrRoot : Path → List Path → Type 0
InOrRoot q ps = (q ≡ []) ⊎ In q ps

-- a path's parent is one of its fronts, or the root
parent_in : (s : List ℕ) (p : Path) → InOrRoot (parent (s ∷ p)) (fronts (s ∷ p))
unfolding fronts
parent_in s [] = inl refl
parent_in s (r ∷ p) = elim (parent_in r p) [
  | inl e ↦ inr (inl (ap (λ q. s ∷ q) e))
  | inr h ↦ inr (inr (In-map s (parent (r ∷ p)) (fronts (r ∷ p)) h))
]

-- what is known of each front
record IsFront (q p : Path) : Type 0 where
  above : IsAncestor q p
  nonempty : q ≢ []
  parent_too : InOrRoot (parent q) (fronts p)

-- the fronts of a path are just what it begins with
front_is : (q p : Path) → In q (fronts p) → IsFront q p
unfolding fronts
front_is q [] h = absurd h
front_is q (s ∷ []) h = absurd h
front_is q (s ∷ r ∷ p) (inl e) = record {
  above = (r ∷ p, (λ k. cc), ap (λ x. x ++ r ∷ p) (sym e));
  nonempty = λ k. let no : ◌≡◌ {A = Path} [] (s ∷ []) = sym k ∙ e in cc;
  parent_too = inl (ap parent e);
}
front_is q (s ∷ r ∷ p) (inr h) =
    let m = In-mapped s q (fronts (r ∷ p)) h in
    let f = front_is m.0 (r ∷ p) m.2 in
    record {
      above = (f.above.0, f.above.1, ap (λ x. s ∷ x) f.above.2 ∙ ap (λ x. x ++ f.above.0) (sym m.1));
      nonempty = λ k. let no : ◌≡◌ {A = Path} [] (s ∷ m.0) = sym k ∙ m.1 in cc;
      parent_too = under m.0 f.nonempty f.parent_too m.1;
    }
  where
    under : (x : Path) → x ≢ [] → InOrRoot (parent x) (fronts (r ∷ p)) → q ≡ s ∷ x → InOrRoot (parent q) ((s ∷ []) ∷ map (λ q. s ∷ q) (fronts (r ∷ p)))
    under [] n up e = absurd (n refl)
    under (y ∷ x) n (inl root) e = inr (inl (ap parent e ∙ ap (λ z. s ∷ z) root))
    under (y ∷ x) n (inr there) e = inr (inr (subst (λ z. In z (map (λ q. s ∷ q) (fronts (r ∷ p)))) (sym (ap parent e)) (In-map s (parent (y ∷ x)) (fronts (r ∷ p)) there)))

-- the fronts of all of these paths
all_fronts : List Path → List Path
all_fronts [] = []
all_fronts (p ∷ ps) = fronts p ++ all_fronts ps

-- the folders of a list
folders : List Path → Tree
folders [] = finite.empty
folders (p ∷ ps) = finite.insert (folders ps) p Folder

-- each of these paths has a folder
folder_at : (q : Path) (ps : List Path) → In q ps → finite.get (folders ps) q ≡ Some Folder
unfolding folders
folder_at q [] h = absurd h
folder_at q (p ∷ ps) (inl e) = get-insert path_total (folders ps) p Folder q ∙ ap (λ b. cond b (Some Folder) (finite.get (folders ps) q)) (ap (λ r. path_eq q r) (sym e) ∙ path_eq_refl q)
folder_at q (p ∷ ps) (inr h) = get-insert path_total (folders ps) p Folder q ∙ ap (cond (path_eq q p) (Some Folder)) (folder_at q ps h) ∙ same (path_eq q p)
  where
    same : (b : Bool) → cond b (Some Folder) (Some Folder) ≡ Some Folder
    same true = refl
    same false = refl

-- and what has an entry is one of these paths
some_at : (q : Path) (ps : List Path) → is_some (finite.get (folders ps) q) ≡ true → In q ps
unfolding folders
some_at q [] h = let none : ◌≡◌ true false = sym h ∙ ap is_some (get-empty path_cmp q) in cc
some_at q (p ∷ ps) h = elim (path_eq q p) as (λ b. path_eq q p ≡ b → is_some (cond b (Some Folder) (finite.get (folders ps) q)) ≡ true → In q (p ∷ ps)) [
  | true ↦ λ e k. inl (path_eq_same q p e)
  | false ↦ λ e k. inr (some_at q ps k)
] refl (ap is_some (sym (get-insert path_total (folders ps) p Folder q)) ∙ h)

-- at each path there is nothing or a folder
only_folders : (q : Path) (ps : List Path) → (finite.get (folders ps) q ≡ None) ⊎ (finite.get (folders ps) q ≡ Some Folder)
only_folders q ps = elim (is_some (finite.get (folders ps) q)) as (λ b. is_some (finite.get (folders ps) q) ≡ b → (finite.get (folders ps) q ≡ None) ⊎ (finite.get (folders ps) q ≡ Some Folder)) [
  | true ↦ λ e. inr (folder_at q ps (some_at q ps e))
  | false ↦ λ e. inl (nothing (finite.get (folders ps) q) e)
] refl
  where
    nothing : (r : Option Entry) → is_some r ≡ false → r ≡ None
    nothing None h = refl
    nothing (Some x) h = cc

-- neither nothing nor a folder has a text
no_text : (r : Option Entry) (text : List ℕ) → (r ≡ None) ⊎ (r ≡ Some Folder) → HasText r text → ⊥
no_text r text (inl e) h = subst (λ s. HasText s text) e h
no_text r text (inr e) h = subst (λ s. HasText s text) e h

-- other paths have no entry
none_at : (q : Path) (ps : List Path) → (In q ps → ⊥) → finite.get (folders ps) q ≡ None
none_at q ps h = elim (finite.get (folders ps) q) as (λ r. finite.get (folders ps) q ≡ r → r ≡ None) [ None ↦ λ e. refl | Some x ↦ λ e. absurd (h (some_at q ps (ap is_some e))) ] refl

-- a front of several paths is a front of one of them
of_one : (q : Path) (ps : List Path) → In q (all_fronts ps) → (p : Path) × In p ps × In q (fronts p)
unfolding all_fronts
of_one q [] h = absurd h
of_one q (p ∷ ps) h = elim (In-append q (fronts p) (all_fronts ps) h) [
  | inl a ↦ (p, inl refl, a)
  | inr b ↦ let more = of_one q ps b in (more.0, inr more.1, more.2)
]

-- a front of one of several paths is a front of them
among_all : (q p : Path) (ps : List Path) → In p ps → In q (fronts p) → In q (all_fronts ps)
unfolding all_fronts
among_all q p [] h k = absurd h
among_all q p (r ∷ ps) (inl e) k = In-append_left q (fronts r) (all_fronts ps) (subst (λ x. In q (fronts x)) e k)
among_all q p (r ∷ ps) (inr h) k = In-append_right q (fronts r) (all_fronts ps) (among_all q p ps h k)

-- the tree with the folders above these paths, and nothing else
ground : List Path → Tree
ground ps = folders (all_fronts ps)

-- ---- it is a tree

-- at each of these fronts, and at the root, a folder stands
dir_at : (q : Path) (ps : List Path) → InOrRoot q (all_fronts ps) → is_dir (ground ps) q ≡ true
unfolding ground
dir_at [] ps h = refl
dir_at (s ∷ q) ps (inl e) = cc
dir_at (s ∷ q) ps (inr h) = ap is_folder_entry (folder_at (s ∷ q) (all_fronts ps) h)

-- a front of one of the paths, or the root, is one of all, or the root
up_to_all : (q p : Path) (ps : List Path) → In p ps → InOrRoot q (fronts p) → InOrRoot q (all_fronts ps)
up_to_all q p ps h (inl e) = inl e
up_to_all q p ps h (inr k) = inr (among_all q p ps h k)

-- what holds of all paths holds of one that is in the list
all_in : (P : Path → Type 0) (ps : List Path) (p : Path) → AllByRecursion P ps → In p ps → P p
all_in P [] p all h = absurd h
all_in P (q ∷ ps) p all (inl e) = subst P (sym e) all.0
all_in P (q ∷ ps) p all (inr h) = all_in P ps p all.1 h

-- a front of a path of segments is made of segments
front_segments : (q more : Path) → AllByRecursion IsSegment (q ++ more) → AllByRecursion IsSegment q
front_segments [] more all = tt
front_segments (s ∷ q) more all = (all.0, front_segments q more all.1)

-- the folders above paths of segments are a file tree
ground_is_tree : (ps : List Path) → AllByRecursion (AllByRecursion IsSegment) ps → IsTree (ground ps)
unfolding ground
ground_is_tree ps proper = record {
  no_root = none_at [] (all_fronts ps) (λ h. let one = of_one [] ps h in (front_is [] one.0 one.2).nonempty refl);
  paths = λ q h. let one = of_one q ps (some_at q (all_fronts ps) h) in let f = front_is q one.0 one.2 in
      front_segments q f.above.0 (subst (AllByRecursion IsSegment) f.above.2 (all_in (AllByRecursion IsSegment) ps one.0 proper one.1));
  parents = λ q h. let one = of_one q ps (some_at q (all_fronts ps) h) in
      dir_at (parent q) ps (up_to_all (parent q) one.0 ps one.1 (front_is q one.0 one.2).parent_too);
  texts = λ q text h. absurd (no_text (finite.get (folders (all_fronts ps)) q) text (only_folders q (all_fronts ps)) h);
}

-- ---- each file can be put on it

-- of disjoint paths none is above another
disjoint_in : (p q : Path) (ps : List Path) → AreDisjoint ps → In p ps → In q ps → IsAncestor p q → ⊥
disjoint_in p q [] disjoint h k a = h
disjoint_in p q (r ∷ ps) disjoint (inl e) (inl d) a = no_self q a.0 a.1 (a.2 ∙ ap (λ x. x ++ a.0) (e ∙ sym d))
  where
    no_self : (x more : Path) → more ≢ [] → x ≡ x ++ more → ⊥
    no_self [] more n e = n (sym e)
    no_self (s ∷ x) more n e = no_self x more n cc
disjoint_in p q (r ∷ ps) disjoint (inl e) (inr k) a = (all_in (IsDisjointFrom r) ps q disjoint.0 k).not_above (a.0, a.1, a.2 ∙ ap (λ x. x ++ a.0) e)
disjoint_in p q (r ∷ ps) disjoint (inr h) (inl d) a = (all_in (IsDisjointFrom r) ps p disjoint.0 h).not_below (a.0, a.1, sym d ∙ a.2)
disjoint_in p q (r ∷ ps) disjoint (inr h) (inr k) a = disjoint_in p q ps disjoint.1 h k a

-- at each of disjoint paths a file can be put on that tree
free_on_ground : (p : Path) (ps : List Path) → AreDisjoint ps → In p ps → p ≢ [] → can_put p (ground ps) ≡ true
unfolding ground
free_on_ground [] ps disjoint h n = absurd (n refl)
free_on_ground (s ∷ p) ps disjoint h n =
    let free : finite.get (folders (all_fronts ps)) (s ∷ p) ≡ None = none_at (s ∷ p) (all_fronts ps) (λ k.
    let one = of_one (s ∷ p) ps k in disjoint_in (s ∷ p) one.0 ps disjoint h one.1 (front_is (s ∷ p) one.0 one.2).above) in
    let up : is_dir (folders (all_fronts ps)) (parent (s ∷ p)) ≡ true = dir_at (parent (s ∷ p)) ps (up_to_all (parent (s ∷ p)) (s ∷ p) ps h (parent_in s p)) in
    rw (free, up) refl

-- ---- and all of them, one after the other

-- programs without the first one are run by the numbers from the second on
pub shifted : (e : Program) (es : List Program) (k n : ℕ) (t : Tree) → outcome (e ∷ es) (up_from (suc k) n) t ≡ outcome es (up_from k n) t
shifted e es k zero t = refl
shifted e es k (suc n) t = ap (and_then (run (get_or es k Id) t)) (λ i u. shifted e es (suc k) n u i)

-- each of the files can be put on the tree
abbrev AllCanPut : List PlainFile → Tree → Type 0
AllCanPut files t = AllByRecursion (λ f. can_put f.0 t ≡ true) files

-- the files can still be put once one was put at a path disjoint from theirs
stay_free : (p : Path) (x : Entry) (files : List PlainFile) (t : Tree) → p ≢ [] → AllByRecursion (λ f. IsFilePath f.0) files → AllByRecursion (IsDisjointFrom p) (map (λ f. f.0) files)
    → AllCanPut files t → AllCanPut files (finite.insert t p x)
stay_free p x [] t n paths disjoint can = tt
stay_free p x (f ∷ files) t n paths disjoint can = (
  can_put_other f.0 p x t (λ e. disjoint.0.differ (sym e)) (not_parent f.0 p paths.0.not_root disjoint.0.not_above) ∙ can.0,
  stay_free p x files t n paths.1 disjoint.1 can.1,
)

-- a file that can be put is put
put_done : (p : Path) (c : List ℕ) (t : Tree) → p ≢ [] → can_put p t ≡ true → run (put p c) t ≡ Some (finite.insert t p (File c))
put_done [] c t n can = absurd (n refl)
put_done (s ∷ p) c t n can = put_is s p c t ∙ ap (λ b. cond b (Some (finite.insert t (s ∷ p) (File c))) None) can

-- files at disjoint paths that can be put are all put, one after the other
all_done : (files : List PlainFile) (t : Tree) → AllByRecursion (λ f. IsFilePath f.0) files → AreDisjoint (map (λ f. f.0) files) → AllCanPut files t → IsSome (outcome (puts files) (up_from 0 (length files)) t)
all_done [] t paths disjoint can = refl
all_done (f ∷ files) t paths disjoint can =
    let first = put_done f.0 f.1 t paths.0.not_root can.0 in
    let u = finite.insert t f.0 (File f.1) in
    let rest = all_done files (finite.insert t f.0 (File f.1)) paths.1 disjoint.1 (stay_free f.0 (File f.1) files t paths.0.not_root paths.1 disjoint.0 can.1) in
    subst (λ r. IsSome (and_then r (outcome (puts (f ∷ files)) (up_from 1 (length files))))) (sym first)
    (subst (λ r. IsSome r) (sym (shifted (put f.0 f.1) (puts files) 0 (length files) (finite.insert t f.0 (File f.1)))) rest)

-- ---- the order by number is allowed

-- the numbers from one on, so many, are below their end
pub up_below : (k n m : ℕ) → k + n ≤ m → AllByRecursion (λ i. i < m) (up_from k n)
up_below k zero m h = tt
up_below k (suc n) m h = (omega arith, up_below (suc k) n m (omega arith))

-- no smaller number stands among them
pub none_before : (k n j : ℕ) → j < k → times j (up_from k n) ≡ 0
none_before k zero j h = refl
none_before k (suc n) j h = ap (λ b. cond b 1 0 + times j (up_from (suc k) n)) (ne_eqb k j (omega arith)) ∙ omega (arith, none_before (suc k) n j (omega arith))

-- and each of them stands there once
pub once_up : (k n j : ℕ) → k ≤ j → j < k + n → times j (up_from k n) ≡ 1
once_up k zero j h l = absurd (omega arith)
once_up k (suc n) j h l = elim (k == j) as (λ b. (k == j) ≡ b → cond b 1 0 + times j (up_from (suc k) n) ≡ 1) [
  | true ↦ λ e. let same : k ≡ j = eqb-true k j e in omega (arith, none_before (suc k) n j (omega arith))
  | false ↦ λ e. omega (arith, once_up (suc k) n j (let other : k ≡ j → ⊥ = eqb-false k j e in omega arith) (omega arith))
] refl

-- where nothing comes before another, any order keeps that
no_order : (o : List ℕ) → NoneAhead Unordered o
no_order [] = tt
no_order (i ∷ o) = (nothing o, no_order o)
  where
    nothing : (p : List ℕ) → AllByRecursion (λ a. Unordered a i → ⊥) p
    nothing [] = tt
    nothing (j ∷ p) = ((λ h. cc), nothing p)

-- the paths of files are made of segments
map_all : (files : List PlainFile) → AllByRecursion (λ f. IsFilePath f.0) files → AllByRecursion (AllByRecursion IsSegment) (map (λ f. f.0) files)
map_all [] all = tt
map_all (f ∷ files) all = (all.0.segments, map_all files all.1)

-- files that can be put at each of their paths can all be put
can_from : (files : List PlainFile) (t : Tree) → ((f : PlainFile) → In f.0 (map (λ f. f.0) files) → f.0 ≢ [] → can_put f.0 t ≡ true) → AllByRecursion (λ f. IsFilePath f.0) files → AllCanPut files t
can_from [] t h paths = tt
can_from (f ∷ files) t h paths = (h f (inl refl) paths.0.not_root, can_from files t (λ g k. h g (inr k)) paths.1)

-- there are as many programs as files
length-puts : (files : List PlainFile) → length (puts files) ≡ length files
length-puts [] = refl
length-puts (f ∷ files) = ap suc (length-puts files)

-- the order by number is allowed where nothing comes before another
pub unordered_allowed : (n : ℕ) → IsLinearExtension n Unordered (up_from 0 n)
unordered_allowed n = record { below = up_below 0 n n (omega arith); once = λ k h. once_up 0 n k (omega arith) (omega (arith, h)); kept = no_order (up_from 0 n) }

-- from the folders above the files every order ends in a tree
on_ground : (files : List PlainFile) → ArePlain files → IsSome (outcome (puts files) (up_from 0 (length files)) (ground (map (λ f. f.0) files)))
on_ground files plain =
    let paths = map (λ f. f.0) files in
    all_done files (ground (map (λ f. f.0) files)) plain.paths plain.disjoint
    (can_from files (ground (map (λ f. f.0) files)) (λ f h n. free_on_ground f.0 (map (λ f. f.0) files) plain.disjoint h n) plain.paths)

-- files at disjoint paths can be put, in any allowed order, from some tree
pub plain_succeeds : (files : List PlainFile) (before : ℕ → ℕ → Type 0) (o : List ℕ) → ArePlain files → IsLinearExtension (length (puts files)) before o → Succeeds (puts files) before
plain_succeeds files before o plain allowed =
    let n = length (puts files) in
    let first = unordered_allowed (length (puts files)) in
    let same : (k : ℕ) → times k (up_from 0 (length (puts files))) ≡ times k o = λ k.
    same_times_of (length (puts files)) (up_from 0 (length (puts files))) o first.below first.once allowed.below allowed.once k in
    let ends : IsSome (outcome (puts files) (up_from 0 (length (puts files))) (ground (map (λ f. f.0) files))) =
    subst (λ m. IsSome (outcome (puts files) (up_from 0 m) (ground (map (λ f. f.0) files)))) (sym (length-puts files)) (on_ground files plain) in
    record {
      tree = ground (map (λ f. f.0) files);
      is_tree = ground_is_tree (map (λ f. f.0) files) (map_all files plain.paths);
      order = o;
      allowed = allowed;
      ends = subst IsSome (plain_alike files plain (up_from 0 (length (puts files))) o same (ground (map (λ f. f.0) files))) ends;
    }
