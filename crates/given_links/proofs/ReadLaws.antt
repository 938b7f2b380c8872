-- What paths are read as: one path each, behind no link.
use Rattle.std.proofs.Common.{◌≡◌, ◌≢◌, ◌↔◌, ◌⊎◌, inl, inr, ℕ, zero, suc, ◌+◌, ◌-◌, ◌<◌, ◌≤◌, true, false, cond, List, [], ◌∷◌, ◌++◌, length, length-append, append-nil, map, Option, Some, None, refl, sym, ap, subst, ◌∙◌, arith}
use Rattle.std.specs.List.{AllByRecursion}
use Rattle.std.specs.Str.{bytes_eq}
use Rattle.std.proofs.lemmas.Slice.Eq.{bytes_eq-Decides}
use Rattle.fs_semantics.specs.FileTree.{Path}
use Rattle.fs_semantics.specs.Disjoint.{IsDisjointFrom, AreDisjoint}
use Rattle.given_links.specs.declared.links.GivenLink.{GivenLink}
use Rattle.given_links.specs.Links.{IsWithin, IsOneOf, IsBehindNone, AreLinks, IsReadAs, stays, goes}
use Rattle.given_links.specs.Reading.{behind, moved, once, or_here, read_by, read_as}

-- ---- what is left behind a path

-- what is left behind a path comes behind it
pub behind_some : (q p r : Path) → behind q p ≡ Some r → p ≡ q ++ r
behind_some [] p r h = cc
behind_some (s ∷ q) [] r h = cc
behind_some (s ∷ q) (t ∷ p) r h = elim (bytes_eq s t) as (λ b. bytes_eq s t ≡ b → cond b (behind q p) None ≡ Some r → t ∷ p ≡ s ∷ q ++ r) [
  | true ↦ λ e k. ap (λ u. u ∷ p) (sym ((bytes_eq-Decides s t).0 e)) ∙ ap (λ l. s ∷ l) (behind_some q p r k)
  | false ↦ λ e k. cc
] refl h

-- and what comes behind a path is what is left
pub behind_joined : (q r : Path) → behind q (q ++ r) ≡ Some r
behind_joined [] r = refl
behind_joined (s ∷ q) r = ap (λ b. cond b (behind q (q ++ r)) None) ((bytes_eq-Decides s s).1 refl) ∙ behind_joined q r

-- nothing is left where something isn't
none_some : (o : Option Path) (r : Path) → o ≡ None → o ≡ Some r → ⊥
none_some o r e f = cc

-- where nothing is left behind a path, the other isn't it or below it
not_within : (q p : Path) → behind q p ≡ None → IsWithin p q → ⊥
not_within q p h w = none_some (behind q p) w.0 h (ap (behind q) w.1 ∙ behind_joined q w.0)

-- ---- one link

-- the first path is at or below a link's path, and the second at the same place at or below its target
pub record IsMoved (links : List GivenLink) (p q : Path) : Type 0 where
  pub link : GivenLink
  pub more : Path
  pub one : IsOneOf link links
  pub from : p ≡ link.path ++ more
  pub to : q ≡ link.target ++ more

-- a path that is found behind a link is moved by one
pub moved_by : (links : List GivenLink) (p q : Path) → once links p ≡ Some q → IsMoved links p q
moved_by [] p q h = cc
moved_by (l ∷ links) p q h = elim (behind l.path p) as (λ o. behind l.path p ≡ o → moved o l.target (once links p) ≡ Some q → IsMoved (l ∷ links) p q) [
  | None ↦ λ e k. let m = moved_by links p q k in record { link = m.link; more = m.more; one = inr m.one; from = m.from; to = m.to }
  | Some rest ↦ λ e k. let same : l.target ++ rest ≡ q = cc in record { link = l; more = rest; one = inl refl; from = behind_some l.path p rest e; to = sym same }
] refl h

-- where none is found the path is behind no link
pub behind_no_link : (links : List GivenLink) (p : Path) → once links p ≡ None → IsBehindNone p links
behind_no_link [] p h = tt
behind_no_link (l ∷ links) p h = elim (behind l.path p) as (λ o. behind l.path p ≡ o → moved o l.target (once links p) ≡ None → IsBehindNone p (l ∷ links)) [
  | None ↦ λ e k. (not_within l.path p e, behind_no_link links p k)
  | Some rest ↦ λ e k. cc
] refl h

-- what holds of all links holds of each
of_one : (P : GivenLink → Type 0) (links : List GivenLink) (l : GivenLink) → AllByRecursion P links → IsOneOf l links → P l
of_one P [] l h i = absurd i
of_one P (m ∷ links) l h (inl e) = subst P (sym e) h.0
of_one P (m ∷ links) l h (inr i) = of_one P links l h.1 i

-- ---- reading ends

-- where two paths are one, and the front of the one isn't within the front of the other, its rest is longer
shorter : (a t rest more : Path) → t ++ more ≡ a ++ rest → (IsWithin t a → ⊥) → length rest < length more
shorter [] t rest more e n = absurd (n (t, refl))
shorter (s ∷ a) [] rest more e n = omega (arith, ap length e, length-append a rest)
shorter (s ∷ a) (r ∷ t) rest more e n =
    let first : r ≡ s = cc in
    let others : t ++ more ≡ a ++ rest = cc in
    shorter a t rest more others (λ w. n (w.0, ap (λ u. u ∷ t) first ∙ ap (λ u. s ∷ u) w.1))

module _ (links : List GivenLink) (are : AreLinks links) where
  -- behind a target
  ends_behind : (n : ℕ) (t more : Path) → IsBehindNone t links → length more ≤ n → IsReadAs links (t ++ more) (read_by n links (t ++ more))
  ends_behind zero t [] none short = stays (subst (λ p. IsBehindNone p links) (sym (append-nil t)) none)
  ends_behind zero t (s ∷ more) none short = absurd (omega (arith, short))
  ends_behind (suc n) t more none short = elim (once links (t ++ more)) as (λ o. once links (t ++ more) ≡ o → IsReadAs links (t ++ more) (or_here o (t ++ more) (read_by n links))) [
    | None ↦ λ e. stays (behind_no_link links (t ++ more) e)
    | Some q ↦ λ e.
        let m = moved_by links (t ++ more) q e in
        let less = shorter m.link.path t m.more more m.from (of_one (λ l. IsWithin t l.path → ⊥) links m.link none m.one) in
        let rest = ends_behind n m.link.target m.more (of_one (λ l. IsBehindNone l.target links) links m.link are.targets m.one) (omega (arith, less, short)) in
        goes m.link m.more m.one m.from (subst (λ p. IsReadAs links (m.link.target ++ m.more) (read_by n links p)) (sym m.to) rest)
  ] refl

  -- no link's path is the root
  not_root : (l : GivenLink) → IsOneOf l links → l.path ≢ []
  not_root l i e = of_one (λ m. IsWithin l.target m.path → ⊥) links l (of_one (λ l. IsBehindNone l.target links) links l are.targets i) i (l.target, ap (λ p. p ++ l.target) (sym e))

  -- a path but the root has a length
  some_length : (p : Path) → p ≢ [] → 0 < length p
  some_length [] h = absurd (h refl)
  some_length (s ∷ p) h = omega arith

  -- what a link leaves of a path is shorter than the path
  less_left : (p : Path) (n : ℕ) (q : Path) (m : IsMoved links p q) → length p ≡ suc n → length m.more ≤ n
  less_left p n q m e = omega (arith, e, ap length m.from, length-append m.link.path m.more, some_length m.link.path (not_root m.link m.one))

  -- what a path is read as by turns is what it is read as
  pub ends : (p : Path) → IsReadAs links p (read_as links p)
  ends p = at (length p) refl
    where
      at : (n : ℕ) → length p ≡ n → IsReadAs links p (read_by n links p)
      at zero e = stays (at_root p e)
        where
          all_away : (ls : List GivenLink) → ((l : GivenLink) → IsOneOf l ls → l.path ≢ []) → IsBehindNone [] ls
          all_away [] h = tt
          all_away (l ∷ ls) h = ((λ w. empty_front l.path w.0 w.1 (h l (inl refl))), all_away ls (λ m i. h m (inr i)))
            where
              empty_front : (a b : Path) → [] ≡ a ++ b → a ≢ [] → ⊥
              empty_front [] b e n = n refl
              empty_front (s ∷ a) b e n = cc

          at_root : (p : Path) → length p ≡ zero → IsBehindNone p links
          at_root [] e = all_away links not_root
          at_root (s ∷ p) e = absurd (omega (arith, e))
      at (suc n) e = elim (once links p) as (λ o. once links p ≡ o → IsReadAs links p (or_here o p (read_by n links))) [
        | None ↦ λ none. stays (behind_no_link links p none)
        | Some q ↦ λ some.
            let m = moved_by links p q some in
            let rest = ends_behind n m.link.target m.more (of_one (λ l. IsBehindNone l.target links) links m.link are.targets m.one) (less_left p n q m e) in
            goes m.link m.more m.one m.from (subst (λ r. IsReadAs links (m.link.target ++ m.more) (read_by n links r)) (sym m.to) rest)
      ] refl

-- ---- one reading alone

-- of two fronts of one path one begins with the other
within_either : (a b x y : Path) → a ++ x ≡ b ++ y → IsWithin a b ⊎ IsWithin b a
within_either [] b x y e = inr (b, refl)
within_either (s ∷ a) [] x y e = inl (s ∷ a, refl)
within_either (s ∷ a) (r ∷ b) x y e =
    let first : s ≡ r = cc in
    let others : a ++ x ≡ b ++ y = cc in
    elim (within_either a b x y others) [
      | inl w ↦ inl (w.0, ap (λ u. u ∷ a) first ∙ ap (λ u. r ∷ u) w.1)
      | inr w ↦ inr (w.0, ap (λ u. u ∷ b) (sym first) ∙ ap (λ u. s ∷ u) w.1)
    ]

-- behind the same front the rests of one path are the same
same_rest : (a x y : Path) → a ++ x ≡ a ++ y → x ≡ y
same_rest [] x y e = e
same_rest (s ∷ a) x y e = let others : a ++ x ≡ a ++ y = cc in same_rest a x y others

-- of disjoint paths none is within the other
apart : (p q : Path) → IsDisjointFrom p q → IsWithin p q ⊎ IsWithin q p → ⊥
apart p q d (inl ([], e)) = d.differ (e ∙ append-nil q)
apart p q d (inl (s ∷ more, e)) = d.not_below (s ∷ more, (λ k. cc), e)
apart p q d (inr ([], e)) = d.differ (sym (e ∙ append-nil p))
apart p q d (inr (s ∷ more, e)) = d.not_above (s ∷ more, (λ k. cc), e)

-- what holds of the paths of all links holds of that of each
among_paths : (P : Path → Type 0) (links : List GivenLink) (l : GivenLink) → AllByRecursion P (map (λ m. m.path) links) → IsOneOf l links → P l.path
among_paths P [] l h i = absurd i
among_paths P (m ∷ links) l h (inl e) = subst (λ k. P k.path) (sym e) h.0
among_paths P (m ∷ links) l h (inr i) = among_paths P links l h.1 i

-- one of two is one of them the other way round
either_way : {A B : Type 0} → A ⊎ B → B ⊎ A
either_way (inl a) = inr a
either_way (inr b) = inl b

-- links of which the one's path is within the other's are one link
same_link : (links : List GivenLink) (l m : GivenLink) → AreDisjoint (map (λ k. k.path) links) → IsOneOf l links → IsOneOf m links → IsWithin l.path m.path ⊎ IsWithin m.path l.path → l ≡ m
same_link [] l m d i j w = absurd i
same_link (k ∷ links) l m d (inl a) (inl b) w = a ∙ sym b
same_link (k ∷ links) l m d (inl a) (inr j) w = absurd (apart l.path m.path (subst (λ x. IsDisjointFrom x.path m.path) (sym a) (among_paths (IsDisjointFrom k.path) links m d.0 j)) w)
same_link (k ∷ links) l m d (inr i) (inl b) w = absurd (apart m.path l.path (subst (λ x. IsDisjointFrom x.path l.path) (sym b) (among_paths (IsDisjointFrom k.path) links l d.0 i)) (either_way w))
same_link (k ∷ links) l m d (inr i) (inr j) w = same_link links l m d.1 i j w

module _ (links : List GivenLink) (are : AreLinks links) where
  -- a path is read as one path only
  pub one : (p q r : Path) → IsReadAs links p q → IsReadAs links p r → q ≡ r
  one p q r (stays a) (stays b) = refl
  one p q r (stays a) (goes m more j f k) = absurd (of_one (λ l. IsWithin p l.path → ⊥) links m a j (more, f))
  one p q r (goes l more i e h) (stays b) = absurd (of_one (λ l. IsWithin p l.path → ⊥) links l b i (more, e))
  one p q r (goes l more i e h) (goes m rest j f k) =
      let same = same_link links l m are.paths i j (within_either l.path m.path more rest (sym e ∙ f)) in
      let left : more ≡ rest = same_rest l.path more rest (sym e ∙ f ∙ ap (λ x. x.path ++ rest) (sym same)) in
      one (l.target ++ more) q r h (subst (λ x. IsReadAs links (x.target ++ more) r) (sym same) (subst (λ x. IsReadAs links (m.target ++ x) r) (sym left) k))

  -- and that is the one that is found by turns
  pub exact : (p q : Path) → IsReadAs links p q ↔ (q ≡ read_as links p)
  exact p q = ((λ h. one p q (read_as links p) h (ends links are p)), (λ e. subst (IsReadAs links p) (sym e) (ends links are p)))

  -- a path at or below a link's path is read as the same place at or below the target
  pub alike : (l : GivenLink) → IsOneOf l links → (more : Path) → read_as links (l.path ++ more) ≡ read_as links (l.target ++ more)
  alike l i more = sym ((exact (l.path ++ more) (read_as links (l.target ++ more))).0 (goes l more i refl (ends links are (l.target ++ more))))

  -- what a path is read as is behind no link
  none_left : (p q : Path) → IsReadAs links p q → IsBehindNone q links
  none_left p q (stays a) = a
  none_left p q (goes l more i e h) = none_left (l.target ++ more) q h

  -- and so is what is found by turns
  pub behind_none : (p : Path) → IsBehindNone (read_as links p) links
  behind_none p = none_left p (read_as links p) (ends links are p)

-- without links a path is read as itself
pub no_link : (p : Path) → read_as [] p ≡ p
no_link p = at (length p)
  where
    at : (n : ℕ) → read_by n [] p ≡ p
    at zero = refl
    at (suc n) = refl

-- ---- turn by turn

-- a path that is moved has one turn less left
turn : (n : ℕ) (links : List GivenLink) (p q : Path) → once links p ≡ Some q → read_by (suc n) links p ≡ read_by n links q
turn n links p q e = ap (λ o. or_here o p (read_by n links)) e

-- and so it is counted from the turns that are done
pub next_turn : (n i : ℕ) (links : List GivenLink) (p q : Path) → i < n → once links p ≡ Some q → read_by (n - (i + 1)) links q ≡ read_by (n - i) links p
next_turn n i links p q h e =
    let more : n - i ≡ suc (n - (i + 1)) = omega (arith, h) in
    sym (ap (λ k. read_by k links p) more ∙ turn (n - (i + 1)) links p q e)
