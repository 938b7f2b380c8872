-- Paths that are kept once.
use Rattle.std.proofs.Common.{◌≡◌, ◌≢◌, ℕ, Bool, true, false, true≢false, cond, not, ◌&&◌, ◌||◌, List, [], ◌∷◌, ◌++◌, map, append_assoc, append-nil, Option, Some, None, is_some, option_map, bytes_eq, Bor, refl, sym, ap, ap₂, ◌∙◌}
use Rattle.std.specs.Prelude.{◌↔◌, IsTrue}
use Rattle.std.specs.List.{list_any, AllByRecursion}
use Rattle.std.proofs.lemmas.Slice.Eq.{bytes_eq-Decides}
use Rattle.fs_semantics.specs.FileTree.{Path, IsSegment, path_eq, is_among}
use Rattle.fs_lang.specs.PathText.{path_text}
use Rattle.pp_value.specs.Keys.{value_at}
use Rattle.pkg_listing.specs.Packages.{are_new, stand_once, with_path, AreKeyed, AreApart}
use Rattle.std.proofs.lemmas.Bool.{and_parts, or_parts, not-true}
use Rattle.fs_semantics.proofs.Keys.{same_bool}
use Rattle.std.proofs.Math.Bool.{or-false}

-- paths that are written alike are the same, and are compared so, as the laws of paths say
abbrev pub SameText : Type 0
SameText = (p q : Path) → AllByRecursion IsSegment p → AllByRecursion IsSegment q → path_text p ≡ path_text q → p ≡ q

-- paths are told to be equal exactly where they are
abbrev pub SamePath : Type 0
SamePath = (p q : Path) → IsTrue (path_eq p q) ↔ (p ≡ q)

-- ---- a path by its text

-- the texts of paths are told to be equal exactly where the paths are
same_test : SameText → SamePath → (p q : Path) → AllByRecursion IsSegment p → AllByRecursion IsSegment q → bytes_eq (path_text q) (path_text p) ≡ path_eq p q
same_test texts paths p q is_p is_q =
    same_bool (bytes_eq (path_text q) (path_text p)) (path_eq p q)
    (λ h. (paths p q).1 (texts p q is_p is_q (sym ((bytes_eq-Decides (path_text q) (path_text p)).0 h))))
    (λ h. (bytes_eq-Decides (path_text q) (path_text p)).1 (ap path_text (sym ((paths p q).0 h))))

-- of something under a condition, or else of what may be there, one is there where either is
some_or : {X : Type 0} (t : Bool) (x : X) (o : Option X) → is_some (cond t (Some x) o) ≡ (t || is_some o)
some_or true x o = refl
some_or false x o = refl

-- a value stands under the text of a path exactly where the path is among all
among_key : SameText → SamePath → (es : List (List ℕ × Path)) (p : Path) → AreKeyed es → AllByRecursion IsSegment p
    → is_some (value_at (path_text p) es) ≡ is_among p (map (λ e. e.1) es)
among_key texts paths [] p keyed is_p = refl
among_key texts paths (e ∷ es) p keyed is_p =
    some_or (bytes_eq e.0 (path_text p)) e.1 (value_at (path_text p) es)
    ∙ ap₂ (λ a b. a || b) (ap (λ k. bytes_eq k (path_text p)) keyed.0.0 ∙ same_test texts paths p e.1 is_p keyed.0.1) (among_key texts paths es p keyed.1 is_p)

-- something is found exactly where it stands there
found_some : (r : Option (Bor Path)) (o : Option Path) → option_map (λ x. x.now) r ≡ o → is_some r ≡ is_some o
found_some None o h = ap is_some h
found_some (Some x) o h = ap is_some h

-- a path is found under its text exactly where it is among those that are kept
pub told : SameText → SamePath → (es : List (List ℕ × Path)) (p : Path) (key : List ℕ) (r : Option (Bor Path)) (whole : List Path) → AreKeyed es → AllByRecursion IsSegment p → key ≡ path_text p
    → option_map (λ x. x.now) r ≡ value_at key es → map (λ e. e.1) es ≡ whole → is_some r ≡ is_among p whole
told texts paths es p key r whole keyed is_p key_is found is =
    found_some r (value_at key es) found ∙ ap (λ k. is_some (value_at k es)) key_is ∙ among_key texts paths es p keyed is_p ∙ ap (is_among p) is

-- a path that is there adds nothing
pub stays : (p : Path) (whole : List Path) → is_among p whole ≡ true → whole ≡ with_path whole p
stays p whole h = sym (ap (λ t. cond t whole (whole ++ p ∷ [])) h)

-- the paths with one more at the end are those and that one
map_last : (es : List (List ℕ × Path)) (e : List ℕ × Path) → map (λ x. x.1) (es ++ e ∷ []) ≡ map (λ x. x.1) es ++ e.1 ∷ []
map_last [] e = refl
map_last (x ∷ es) e = ap (λ l. x.1 ∷ l) (map_last es e)

-- a new path that is put under its text is the one more path
pub grows : (es new : List (List ℕ × Path)) (key : List ℕ) (copy p : Path) (whole : List Path) → new ≡ es ++ (key, copy) ∷ [] → copy ≡ p → map (λ e. e.1) es ≡ whole → is_among p whole ≡ false
    → map (λ e. e.1) new ≡ with_path whole p
grows es new key copy p whole pushed copied is h =
    ap (map (λ e. e.1)) pushed ∙ map_last es (key, copy) ∙ (λ i. is i ++ copied i ∷ []) ∙ sym (ap (λ t. cond t whole (whole ++ p ∷ [])) h)

-- each path still stands behind its text when one more does
pub keyed_last : (es : List (List ℕ × Path)) (e : List ℕ × Path) → AreKeyed es → e.0 ≡ path_text e.1 → AllByRecursion IsSegment e.1 → AreKeyed (es ++ e ∷ [])
keyed_last [] e h k s = ((k, s), tt)
keyed_last (x ∷ es) e h k s = (h.0, keyed_last es e h.1 k s)

-- where nothing is found nothing stands there
pub none_found : (r : Option (Bor Path)) (o : Option Path) → option_map (λ x. x.now) r ≡ o → is_some r ≡ false → o ≡ None
none_found None o h e = sym h
none_found (Some x) o h e = absurd (true≢false e)

-- ---- each path once

-- one of two lists joined passes a test exactly where one of either does
any_append : (f : Path → Bool) (ps qs : List Path) → list_any f (ps ++ qs) ≡ (list_any f ps || list_any f qs)
any_append f [] qs = refl
any_append f (p ∷ ps) qs = ap (λ t. f p || t) (any_append f ps qs) ∙ sym (or_assoc (f p) (list_any f ps) (list_any f qs))
  where
    or_assoc : (a b c : Bool) → ((a || b) || c) ≡ (a || (b || c))
    or_assoc true b c = refl
    or_assoc false b c = refl

-- with one more seen, a path that is new was new before, and differs from it
new_before : SamePath → (seen : List Path) (p : Path) (ps : List Path) → AllByRecursion (λ q. is_among q (seen ++ p ∷ []) ≡ false) ps
    → AllByRecursion (λ q. is_among q seen ≡ false) ps × AllByRecursion (λ q. p ≢ q) ps
new_before paths seen p [] h = (tt, tt)
new_before paths seen p (q ∷ ps) h =
    let two = or_parts (is_among q seen) (path_eq q p || false) (sym (any_append (path_eq q) seen (p ∷ [])) ∙ h.0) in
    let rest = new_before paths seen p ps h.1 in (
      (two.0, rest.0),
      ((λ e. true≢false (sym ((paths q p).1 (sym e)) ∙ (sym (or-false (path_eq q p)) ∙ two.1))), rest.1),
    )

-- paths that are all new are none of those seen, and differ from one another
apart_of : SamePath → (seen ps : List Path) → are_new seen ps ≡ true → AllByRecursion (λ q. is_among q seen ≡ false) ps × AreApart ps
apart_of paths seen [] h = (tt, tt)
apart_of paths seen (p ∷ ps) h =
    let two = and_parts (not (is_among p seen)) (are_new (seen ++ p ∷ []) ps) h in
    let rest = apart_of paths (seen ++ p ∷ []) ps two.1 in
    let before = new_before paths seen p ps rest.0 in
    ((not-true (is_among p seen) two.0, before.0), (before.1, rest.1))

-- paths that differ from one more seen are none of those seen with it
new_behind : SamePath → (seen : List Path) (p : Path) (ps : List Path) → AllByRecursion (λ q. is_among q seen ≡ false) ps → AllByRecursion (λ q. p ≢ q) ps
    → AllByRecursion (λ q. is_among q (seen ++ p ∷ []) ≡ false) ps
new_behind paths seen p [] h d = tt
new_behind paths seen p (q ∷ ps) h d = (
  any_append (path_eq q) seen (p ∷ []) ∙ ap₂ (λ a b. a || b) h.0 (or-false (path_eq q p) ∙ differ (path_eq q p) refl),
  new_behind paths seen p ps h.1 d.1,
)
  where
    differ : (t : Bool) → path_eq q p ≡ t → t ≡ false
    differ true e = absurd (d.0 (sym ((paths q p).0 e)))
    differ false e = refl

-- and paths that are none of those seen, and differ from one another, are all new
apart_back : SamePath → (seen ps : List Path) → AllByRecursion (λ q. is_among q seen ≡ false) ps → AreApart ps → are_new seen ps ≡ true
apart_back paths seen [] h a = refl
apart_back paths seen (p ∷ ps) h a = ap₂ (λ x y. not x && y) h.0 (apart_back paths (seen ++ p ∷ []) ps (new_behind paths seen p ps h.1 a.0) a.1)

-- where nothing was seen no path was
nothing_seen : (ps : List Path) → AllByRecursion (λ q. is_among q [] ≡ false) ps
nothing_seen [] = tt
nothing_seen (p ∷ ps) = (refl, nothing_seen ps)

-- no path is told to stand twice exactly where all differ from one another
pub once_where : SamePath → (ps : List Path) → (stand_once ps ≡ true) ↔ AreApart ps
once_where paths ps = ((λ h. (apart_of paths [] ps h).1), (λ a. apart_back paths [] ps (nothing_seen ps) a))

-- ---- paths that are added one after the other

-- two lists are new exactly where the first is, and the second is once that was seen
pub are_new_append : (seen ps qs : List Path) → are_new seen (ps ++ qs) ≡ (are_new seen ps && are_new (seen ++ ps) qs)
are_new_append seen [] qs = ap (λ l. are_new l qs) (sym (append-nil seen))
are_new_append seen (p ∷ ps) qs =
    ap (λ t. not (is_among p seen) && t) (are_new_append (seen ++ p ∷ []) ps qs ∙ ap (λ l. are_new (seen ++ p ∷ []) ps && are_new l qs) (append_assoc seen (p ∷ []) ps))
    ∙ sym (and_assoc (not (is_among p seen)) (are_new (seen ++ p ∷ []) ps) (are_new (seen ++ p ∷ ps) qs))
  where
    and_assoc : (a b c : Bool) → ((a && b) && c) ≡ (a && (b && c))
    and_assoc true b c = refl
    and_assoc false b c = refl
