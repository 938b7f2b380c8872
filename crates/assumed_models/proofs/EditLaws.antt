-- Edits that are found by the texts of their paths.
use Rattle.std.proofs.Common.{◌≡◌, ℕ, zero, suc, ◌+◌, ◌<◌, ◌≤◌, ◌==◌, Bool, true, false, true≢false, cond, not, List, [], ◌∷◌, ◌++◌, length, map, drop, get_or, add-one, append_assoc, append-nil, slice_get, Option, Some, None, Result, Ok, Err, IfOk, bytes_eq, refl, sym, ap, subst, ◌∙◌, arith}
use Rattle.std.specs.Prelude.{filter}
use Rattle.std.specs.List.{AllByRecursion}
use Rattle.std.proofs.lemmas.Slice.Eq.{bytes_eq-Decides}
use Rattle.std.proofs.Math.Seq.{drop-cons}
use Rattle.rh_base.specs.declared.text.NoMemory.{NoMemory}
use Rattle.fs_semantics.specs.FileTree.{Path, IsSegment, path_eq}
use Rattle.fs_semantics.specs.Programs.{Program}
use Rattle.fs_lang.specs.PathText.{path_text}
use Rattle.fs_lang.specs.declared.program.Program.{Program as Code}
use Rattle.fs_lang.specs.Meaning.{program_of}
use Rattle.pp_value.specs.Keys.{value_at, with_pair}
use Rattle.pkg_listing.proofs.SetLaws.{SameText, SamePath}
use Rattle.assumed_models.specs.declared.edits.Edit.{Edit}
use Rattle.assumed_models.specs.Edits.{edits_beside, marks_in, marks_of, places_of, or_none, AreFound, with_noted, with_all_noted, if_any, edits_at}
use Rattle.assumed_models.specs.LostEdits.{drops}
use Rattle.fs_semantics.proofs.Keys.{same_bool}

-- the path is made of segments
abbrev pub IsProper : Edit → Type 0
IsProper e = AllByRecursion IsSegment e.path

-- ---- places that are noted

-- after a value was put under a key, that one stands there, and elsewhere what stood
value_with : (key other : List ℕ) (x : List ℕ) (pairs : List (List ℕ × List ℕ)) → value_at other (with_pair key x pairs) ≡ cond (bytes_eq key other) (Some x) (value_at other pairs)
value_with key other x [] = refl
value_with key other x (p ∷ pairs) = at (bytes_eq p.0 key) refl (value_with key other x pairs)
  where
    inner : (u v : Bool) → u ≡ v → cond u (Some x) (value_at other pairs) ≡ cond v (Some x) (cond u (Some p.1) (value_at other pairs))
    inner true true e = refl
    inner true false e = absurd (true≢false e)
    inner false true e = absurd (true≢false (sym e))
    inner false false e = refl

    later : (u v : Bool) → (u ≡ true → v ≡ true → ⊥) → cond u (Some p.1) (cond v (Some x) (value_at other pairs)) ≡ cond v (Some x) (cond u (Some p.1) (value_at other pairs))
    later true true h = absurd (h refl refl)
    later true false h = refl
    later false v h = refl

    at : (t : Bool) → bytes_eq p.0 key ≡ t → value_at other (with_pair key x pairs) ≡ cond (bytes_eq key other) (Some x) (value_at other pairs)
        → value_at other (cond t ((p.0, x) ∷ pairs) (p ∷ with_pair key x pairs)) ≡ cond (bytes_eq key other) (Some x) (cond (bytes_eq p.0 other) (Some p.1) (value_at other pairs))
    at true e more = inner (bytes_eq p.0 other) (bytes_eq key other) (ap (λ k. bytes_eq k other) ((bytes_eq-Decides p.0 key).0 e))
    at false e more =
        ap (cond (bytes_eq p.0 other) (Some p.1)) more
        ∙ later (bytes_eq p.0 other) (bytes_eq key other) (λ f g. true≢false (sym ((bytes_eq-Decides p.0 key).1 ((bytes_eq-Decides p.0 other).0 f ∙ sym ((bytes_eq-Decides key other).0 g))) ∙ e))

-- the texts of paths are told to be equal exactly where the paths are
same_test : SameText → SamePath → (q p : Path) → AllByRecursion IsSegment q → AllByRecursion IsSegment p → bytes_eq (path_text q) (path_text p) ≡ path_eq q p
same_test texts paths q p is_q is_p =
    same_bool (bytes_eq (path_text q) (path_text p)) (path_eq q p)
    (λ h. (paths q p).1 (texts q p is_q is_p ((bytes_eq-Decides (path_text q) (path_text p)).0 h)))
    (λ h. (bytes_eq-Decides (path_text q) (path_text p)).1 (ap path_text ((paths q p).0 h)))

-- with further edits noted, the text of a path has its places of before and those of its edits
noted : SameText → SamePath → (edits : List Edit) (n : ℕ) (found : List (List ℕ × List ℕ)) (p : Path) → AllByRecursion IsProper edits → AllByRecursion IsSegment p
    → or_none (value_at (path_text p) (with_all_noted n edits found)) ≡ or_none (value_at (path_text p) found) ++ places_of n p edits
noted texts paths [] n found p are is = sym (append-nil (or_none (value_at (path_text p) found)))
noted texts paths (e ∷ edits) n found p are is =
    noted texts paths edits (n + 1) (with_noted e.path n found) p are.1 is
    ∙ (ap (λ o. or_none o ++ places_of (n + 1) p edits) (value_with (path_text e.path) (path_text p) (or_none (value_at (path_text e.path) found) ++ n ∷ []) found)
    ∙ at (path_eq e.path p) refl)
  where
    at : (t : Bool) → path_eq e.path p ≡ t → or_none (cond (bytes_eq (path_text e.path) (path_text p)) (Some (or_none (value_at (path_text e.path) found) ++ n ∷ [])) (value_at (path_text p) found)) ++ places_of (n + 1) p edits
        ≡ or_none (value_at (path_text p) found) ++ cond t (n ∷ places_of (n + 1) p edits) (places_of (n + 1) p edits)
    at true h =
        ap (λ t. or_none (cond t (Some (or_none (value_at (path_text e.path) found) ++ n ∷ [])) (value_at (path_text p) found)) ++ places_of (n + 1) p edits) (same_test texts paths e.path p are.0 is ∙ h)
        ∙ (append_assoc (or_none (value_at (path_text e.path) found)) (n ∷ []) (places_of (n + 1) p edits)
        ∙ ap (λ q. or_none (value_at (path_text q) found) ++ n ∷ places_of (n + 1) p edits) ((paths e.path p).0 h))
    at false h =
        ap (λ t. or_none (cond t (Some (or_none (value_at (path_text e.path) found) ++ n ∷ [])) (value_at (path_text p) found)) ++ places_of (n + 1) p edits) (same_test texts paths e.path p are.0 is ∙ h)

-- when all edits are noted from the start, the text of each path has the places of its edits
pub are_found : SameText → SamePath → (found : List (List ℕ × List ℕ)) (edits : List Edit) → AllByRecursion IsProper edits → found ≡ with_all_noted 0 edits [] → AreFound found edits
are_found texts paths found edits are h p is = ap (λ f. or_none (value_at (path_text p) f)) h ∙ noted texts paths edits 0 [] p are is

-- ---- what stands at the places

-- what comes behind a front stands at the front's length
stands_next : (front : List Edit) (e : Edit) (edits : List Edit) → slice_get (front ++ e ∷ edits) (length front) ≡ Some e
stands_next [] e edits = refl
stands_next (f ∷ front) e edits = stands_next front e edits

-- a front with one more is one longer
one_longer : (front : List Edit) (e : Edit) → length (front ++ e ∷ []) ≡ length front + 1
one_longer [] e = refl
one_longer (f ∷ front) e = let more = one_longer front e in omega (arith, more)

-- the edits at the places of a path are those of the path
behind : (front edits : List Edit) (p : Path) → edits_at (front ++ edits) (places_of (length front) p edits) ≡ filter (λ e. path_eq e.path p) edits
behind front [] p = refl
behind front (e ∷ edits) p =
    at (path_eq e.path p)
    (ap (λ n. edits_at (front ++ e ∷ edits) (places_of n p edits)) (sym (one_longer front e))
    ∙ (ap (λ l. edits_at l (places_of (length (front ++ e ∷ [])) p edits)) (sym (append_assoc front (e ∷ []) edits)) ∙ behind (front ++ e ∷ []) edits p))
  where
    at : (t : Bool) → edits_at (front ++ e ∷ edits) (places_of (length front + 1) p edits) ≡ filter (λ e. path_eq e.path p) edits
        → edits_at (front ++ e ∷ edits) (cond t (length front ∷ places_of (length front + 1) p edits) (places_of (length front + 1) p edits)) ≡ cond t (e ∷ filter (λ e. path_eq e.path p) edits) (filter (λ e. path_eq e.path p) edits)
    at true next = ap (λ o. if_any o (edits_at (front ++ e ∷ edits) (places_of (length front + 1) p edits))) (stands_next front e edits) ∙ ap (λ l. e ∷ l) next
    at false next = next

-- two tests may be asked in either order
both_ways : (f g : Edit → Bool) (edits : List Edit) → filter f (filter g edits) ≡ filter g (filter f edits)
both_ways f g [] = refl
both_ways f g (e ∷ edits) = at (f e) (g e) refl refl (both_ways f g edits)
  where
    at : (s t : Bool) → f e ≡ s → g e ≡ t → filter f (filter g edits) ≡ filter g (filter f edits)
        → filter f (cond t (e ∷ filter g edits) (filter g edits)) ≡ filter g (cond s (e ∷ filter f edits) (filter f edits))
    at true true h k more = ap (λ u. cond u (e ∷ filter f (filter g edits)) (filter f (filter g edits))) h ∙ (ap (λ l. e ∷ l) more ∙ sym (ap (λ u. cond u (e ∷ filter g (filter f edits)) (filter g (filter f edits))) k))
    at true false h k more = more ∙ sym (ap (λ u. cond u (e ∷ filter g (filter f edits)) (filter g (filter f edits))) k)
    at false true h k more = ap (λ u. cond u (e ∷ filter f (filter g edits)) (filter f (filter g edits))) h ∙ more
    at false false h k more = more

-- the marks of the edits at the places that are found
pub marks_found : (place : ℕ) (p : Path) (edits : List Edit) (found : List (List ℕ × List ℕ)) → AreFound found edits → AllByRecursion IsSegment p
    → drops (marks_in (edits_beside place (edits_at edits (or_none (value_at (path_text p) found))))) ≡ drops (marks_of (edits_beside place edits) p)
marks_found place p edits found are is =
    ap (λ l. drops (marks_in (edits_beside place (edits_at edits l)))) (are p is)
    ∙ (ap (λ l. drops (marks_in (edits_beside place l))) (behind [] edits p)
    ∙ ap (λ l. drops (marks_in l)) (both_ways (λ e. not (e.place == place)) (λ e. path_eq e.path p) edits))

-- ---- one edit after another

-- the drops of one edit and of others are those of the one ahead of those of the others
pub one_beside : (place : ℕ) (e : Edit) (edits : List Edit) → drops (marks_in (edits_beside place (e ∷ edits))) ≡ drops (marks_in (edits_beside place (e ∷ []))) ++ drops (marks_in (edits_beside place edits))
one_beside place e edits = at (not (e.place == place))
  where
    at : (t : Bool) → drops (marks_in (cond t (e ∷ edits_beside place edits) (edits_beside place edits))) ≡ drops (marks_in (cond t (e ∷ []) [])) ++ drops (marks_in (edits_beside place edits))
    at true = refl
    at false = refl

-- past the end no edit stands
none_stands : (edits : List Edit) (i : ℕ) → length edits ≤ i → slice_get edits i ≡ None
none_stands [] i h = refl
none_stands (e ∷ edits) zero h = absurd (omega (arith, h))
none_stands (e ∷ edits) (suc i) h = none_stands edits i (omega (arith, h))

-- where no edit stands nothing is dropped
pub none_there : (place : ℕ) (old : List Program) (edits : List Edit) (i : ℕ) → length edits ≤ i → old ≡ old ++ drops (marks_in (edits_beside place (if_any (slice_get edits i) [])))
none_there place old edits i h = sym (ap (λ o. old ++ drops (marks_in (edits_beside place (if_any o [])))) (none_stands edits i h) ∙ append-nil old)

-- with one more edit dropped, what was dropped and what is left are the same whole
pub next_drop : (place : ℕ) (edits : List Edit) (places : List ℕ) (i n d : ℕ) (old new whole : List Program) → i < length places → n ≡ get_or places i d
    → new ≡ old ++ drops (marks_in (edits_beside place (if_any (slice_get edits n) []))) → old ++ drops (marks_in (edits_beside place (edits_at edits (drop i places)))) ≡ whole
    → new ++ drops (marks_in (edits_beside place (edits_at edits (drop (i + 1) places)))) ≡ whole
next_drop place edits places i n d old new whole within at added before =
    let rest = drop (i + 1) places in
    let left : drop i places ≡ n ∷ rest = drop-cons places i d within ∙ (ap (λ m. m ∷ drop (suc i) places) (sym at) ∙ ap (λ j. n ∷ drop j places) (sym (add-one i))) in
    ap (λ l. l ++ drops (marks_in (edits_beside place (edits_at edits rest)))) added
    ∙ (append_assoc old (drops (marks_in (edits_beside place (if_any (slice_get edits n) [])))) (drops (marks_in (edits_beside place (edits_at edits rest))))
    ∙ (ap (λ l. old ++ l) (any_beside (slice_get edits n) (edits_at edits rest)) ∙ (ap (λ l. old ++ drops (marks_in (edits_beside place (edits_at edits l)))) (sym left) ∙ before)))
  where
    any_beside : (o : Option Edit) (more : List Edit) → drops (marks_in (edits_beside place (if_any o []))) ++ drops (marks_in (edits_beside place more)) ≡ drops (marks_in (edits_beside place (if_any o more)))
    any_beside None more = refl
    any_beside (Some e) more = sym (one_beside place e more)

-- ---- what is found

-- past the end nothing is left
past : (edits : List Edit) (i : ℕ) → length edits ≤ i → drop i edits ≡ []
past [] zero h = refl
past [] (suc i) h = refl
past (e ∷ edits) zero h = absurd (omega (arith, h))
past (e ∷ edits) (suc i) h = past edits i (omega (arith, h))

-- when no edit is left, the text of each path has the places of its edits
pub all_noted : SameText → SamePath → (found : List (List ℕ × List ℕ)) (place i : ℕ) (edits : List Edit) → length edits ≤ i → with_all_noted place (drop i edits) found ≡ with_all_noted 0 edits []
    → (AllByRecursion IsProper (drop i edits) → AllByRecursion IsProper edits) → AreFound found edits
all_noted texts paths found place i edits h is proper =
    are_found texts paths found edits (proper (subst (AllByRecursion IsProper) (sym (past edits i h)) tt)) (sym (ap (λ l. with_all_noted place l found) (past edits i h)) ∙ is)

-- steps that mean what they should do so by an equal name
same_ok : (a b : List Program) (r : Result (List Code) NoMemory) → a ≡ b → IfOk r (λ steps. map program_of steps ≡ a) → IfOk r (λ steps. map program_of steps ≡ b)
same_ok a b (Ok steps) e h = h ∙ e
same_ok a b (Err m) e h = tt

-- the drops of the edits at the places that are found are those of the marks of the path's edits
pub drops_found : (place : ℕ) (p : Path) (text : List ℕ) (edits slice now : List Edit) (places listed : List ℕ) (found : List (List ℕ × List ℕ)) (r : Result (List Code) NoMemory) → AreFound found edits → AllByRecursion IsSegment p
    → Some places ≡ value_at text found → text ≡ path_text p → listed ≡ places → slice ≡ edits → edits ≡ now
    → IfOk r (λ steps. map program_of steps ≡ drops (marks_in (edits_beside place (edits_at slice listed)))) → IfOk r (λ steps. map program_of steps ≡ drops (marks_of (edits_beside place now) p))
drops_found place p text edits slice now places listed found r are is at text_is listed_is slice_is now_is =
    same_ok (drops (marks_in (edits_beside place (edits_at slice listed)))) (drops (marks_of (edits_beside place now) p)) r
    ((λ i. drops (marks_in (edits_beside place (edits_at (slice_is i) (listed_is i)))))
    ∙ (ap (λ o. drops (marks_in (edits_beside place (edits_at edits (or_none o))))) (at ∙ ap (λ t. value_at t found) text_is)
    ∙ (marks_found place p edits found are is ∙ ap (λ l. drops (marks_of (edits_beside place l) p)) now_is)))

-- where no places are found the path has no marks to be dropped
pub none_found : (place : ℕ) (p : Path) (text : List ℕ) (edits now : List Edit) (found : List (List ℕ × List ℕ)) → AreFound found edits → AllByRecursion IsSegment p → None ≡ value_at text found → text ≡ path_text p → edits ≡ now
    → [] ≡ drops (marks_of (edits_beside place now) p)
none_found place p text edits now found are is at text_is now_is =
    ap (λ o. drops (marks_in (edits_beside place (edits_at edits (or_none o))))) (at ∙ ap (λ t. value_at t found) text_is)
    ∙ (marks_found place p edits found are is ∙ ap (λ l. drops (marks_of (edits_beside place l) p)) now_is)
