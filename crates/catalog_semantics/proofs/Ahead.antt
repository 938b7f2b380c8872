-- The parents that run before a class are those that aren't declared yet, each once, and each ahead of what inherits it.
use Rattle.std.proofs.Common.{◌≡◌, inl, inr, ℕ, zero, suc, ◌+◌, ◌<◌, ◌≤◌, Bool, true, false, cond, List, [], ◌∷◌, ◌++◌, map, length, Option, Some, None, Result, Ok, Err, refl, sym, ap, subst, ◌∙◌, arith}
use Rattle.std.specs.Prelude.{option_and_then}
use Rattle.std.specs.List.{IsDistinct, AllByRecursion}
use Rattle.std.specs.Str.{bytes_eq}
use Rattle.std.proofs.lemmas.Bool.{ltb-false}
use Rattle.std.proofs.lemmas.Slice.Eq.{bytes_eq-Decides}
use Rattle.rh_base.specs.declared.fault.Refusal.{Refusal}
use Rattle.pp_eval.specs.Evaluating.{◌>>=◌}
use Rattle.catalog_semantics.specs.Sites.{Definition, Site, definition_of, line_of, inherits_itself}
use Rattle.catalog_semantics.specs.States.{State, is_declared}
use Rattle.catalog_semantics.specs.Declaring.{class_ref, if_class, class_named, parents_by, line_down_to, parents_of}
use Rattle.catalog_semantics.specs.Parents.{HasNoneAhead, IsAhead, StandAhead, AreParents}
use Rattle.catalog_semantics.specs.Parents as ahead
use Rattle.catalog_semantics.proofs.Circles.{IsOwn, next, Ends, rank, ends_by, falls, goes_on, has_name}

-- ---- that they stand in line

-- equal results have equal lines
same_line : (xs ys : List Definition) → ◌≡◌ {A = Result (List Definition) Refusal} (Ok xs) (Ok ys) → ys ≡ xs
same_line xs ys h = cc

module _ (site : Site) (s : State) where
  -- those ahead of a class, and the class
  abbrev DownTo : Definition → List Definition → Type 0
  DownTo d line = (front : List Definition) × ((line ≡ front ++ d ∷ []) × StandAhead site s d front)

  -- what this gives for a class is the line down to it
  abbrev Finds : (Definition → Result (List Definition) Refusal) → Definition → Type 0
  Finds line d = (ds : List Definition) → line d ≡ Ok ds → DownTo d ds

  -- behind a parent that is known, the line is that of the parents ahead
  known_by : (line : Definition → Result (List Definition) Refusal) (at : ℕ) (d : Definition) (name : List ℕ) (ds : List Definition) → d.parent ≡ Some name → is_declared (class_ref name) s ≡ false
      → (o : Option Definition) → definition_of name site.classes ≡ o → ((p : Definition) → o ≡ Some p → Finds line p) → (if_class at name o >>= line) ≡ Ok ds → StandAhead site s d ds
  known_by line at d name ds is new None found f h = cc
  known_by line at d name ds is new (Some p) found f h =
      let down = f p refl ds h in
      ahead.parent p down.0 (record { name = name; parent = is; defined = found; new = new }) down.1.0 down.1.1

  -- so it is behind one that is declared already, or isn't
  declared_by : (line : Definition → Result (List Definition) Refusal) (at : ℕ) (d : Definition) (name : List ℕ) (ds : List Definition) → d.parent ≡ Some name → (b : Bool) → is_declared (class_ref name) s ≡ b
      → ((p : Definition) → definition_of name site.classes ≡ Some p → Finds line p) → cond b (Ok []) (class_named site at name >>= line) ≡ Ok ds → StandAhead site s d ds
  declared_by line at d name ds is true there f h = ahead.none (inr (name, (is, there))) (same_line [] ds h)
  declared_by line at d name ds is false new f h = known_by line at d name ds is new (definition_of name site.classes) refl f h

  -- so it is behind a parent, or none
  parent_by : (line : Definition → Result (List Definition) Refusal) (at : ℕ) (d : Definition) (ds : List Definition) (o : Option (List ℕ)) → d.parent ≡ o
      → ((p : Definition) → option_and_then (λ name. definition_of name site.classes) o ≡ Some p → Finds line p) → parents_by line site s at o ≡ Ok ds → StandAhead site s d ds
  parent_by line at d ds None is f h = ahead.none (inl is) (same_line [] ds h)
  parent_by line at d ds (Some name) is f h = declared_by line at d name ds is (is_declared (class_ref name) s) refl f h

  -- the line of the parents with the class behind them is the line down to it
  and_it : (d : Definition) (ds : List Definition) (r : Result (List Definition) Refusal) → ((front : List Definition) → r ≡ Ok front → StandAhead site s d front)
      → (r >>= λ parents. Ok (parents ++ d ∷ [])) ≡ Ok ds → DownTo d ds
  and_it d ds (Ok front) f h = (front, (same_line (front ++ d ∷ []) ds h, f front refl))
  and_it d ds (Err e) f h = cc

  -- what is gone through is the line down to a class, where its chain ends
  lines : (n : ℕ) (d : Definition) → Ends site.classes n (Some d) → Finds (line_down_to n site s) d
  lines zero d ends ds h = absurd ends
  lines (suc n) d ends ds h =
      and_it d ds (parents_by (line_down_to n site s) site s d.at d.parent)
      (λ front is. parent_by (line_down_to n site s) d.at d front d.parent refl (λ p found. lines n p (subst (Ends site.classes n) found ends)) is) h

  -- ---- that each stands once

  -- found by its own name, and with a shorter chain of parents than the other
  abbrev Below : ℕ → Definition → Definition → Type 0
  Below k d e = IsOwn site.classes e × (rank site.classes k (Some e) < rank site.classes k (Some d))

  -- what is below a class is below one with a longer chain
  lower : (k : ℕ) (p d : Definition) → rank site.classes k (Some p) < rank site.classes k (Some d) → (ps : List Definition) → AllByRecursion (Below k p) ps → AllByRecursion (Below k d) ps
  lower k p d low [] h = tt
  lower k p d low (e ∷ ps) h = let first = h.0.1 in ((h.0.0, omega arith), lower k p d low ps h.1)

  -- what holds of some and of one more holds of all
  and_last : (P : Definition → Type 0) (ps : List Definition) (p : Definition) → AllByRecursion P ps → P p → AllByRecursion P (ps ++ p ∷ [])
  and_last P [] p h k = (k, tt)
  and_last P (e ∷ ps) p h k = (h.0, and_last P ps p h.1 k)

  -- a class that is found is found by its own name
  own_by : (name : List ℕ) (p : Definition) → definition_of name site.classes ≡ Some p → IsOwn site.classes p
  own_by name p h = ap (λ k. definition_of k site.classes) (has_name name site.classes p h) ∙ h

  -- the class ahead is the parent
  next_is : (p d : Definition) → IsAhead site s p d → next site.classes d ≡ Some p
  next_is p d a = ap (option_and_then (λ name. definition_of name site.classes)) a.parent ∙ a.defined

  -- all that stand ahead of a class are below it
  all_below : (k : ℕ) (d : Definition) (ps : List Definition) → Ends site.classes k (Some d) → StandAhead site s d ps → AllByRecursion (Below k d) ps
  all_below k d ps ends (ahead.none none is) = subst (AllByRecursion (Below k d)) (sym is) tt
  all_below k d ps ends (ahead.parent p front a is more) =
      let step = next_is p d a in
      let up = subst (Ends site.classes k) step (goes_on site.classes k d ends) in
      let fall = falls site.classes k d ends in
      let same = ap (rank site.classes k) step in
      let low : rank site.classes k (Some p) < rank site.classes k (Some d) = omega arith in
      subst (AllByRecursion (Below k d)) (sym is) (and_last (Below k d) front p (lower k p d low front (all_below k p front up more)) (own_by a.name p a.defined, low))

  -- a class below another has another name
  apart : (k : ℕ) (e p : Definition) → Below k p e → IsOwn site.classes p → (t : Bool) → bytes_eq e.name p.name ≡ t → t ≡ false
  apart k e p low own false is = refl
  apart k e p low own true is =
      let same : Some e ≡ Some p = sym low.0 ∙ (ap (λ w. definition_of w site.classes) ((bytes_eq-Decides e.name p.name).0 is) ∙ own) in
      let level = ap (rank site.classes k) same in
      let less = low.1 in absurd (omega arith)

  -- so have all that are below it
  apart_from : (k : ℕ) (p : Definition) → IsOwn site.classes p → (ps : List Definition) → AllByRecursion (Below k p) ps → AllByRecursion (λ y. bytes_eq y p.name ≡ false) (map (λ e. e.name) ps)
  apart_from k p own [] h = tt
  apart_from k p own (e ∷ ps) h = (apart k e p h.0 own (bytes_eq e.name p.name) refl, apart_from k p own ps h.1)

  -- a name that isn't among some and isn't one more isn't among all
  one_more : (f : List ℕ) (xs : List (List ℕ)) (q : List ℕ) → AllByRecursion (λ y. bytes_eq f y ≡ false) xs → bytes_eq f q ≡ false → AllByRecursion (λ y. bytes_eq f y ≡ false) (xs ++ q ∷ [])
  one_more f [] q h k = (k, tt)
  one_more f (x ∷ xs) q h k = (h.0, one_more f xs q h.1 k)

  -- distinct names with a new one behind them are distinct
  distinct_on : (xs : List (List ℕ)) (q : List ℕ) → IsDistinct bytes_eq xs → AllByRecursion (λ y. bytes_eq y q ≡ false) xs → IsDistinct bytes_eq (xs ++ q ∷ [])
  unfolding IsDistinct
  distinct_on [] q h k = (tt, tt)
  distinct_on (x ∷ xs) q h k = (one_more x xs q h.0 k.0, distinct_on xs q h.1 k.1)

  -- one more class is one more name
  names_on : (ps : List Definition) (p : Definition) → map (λ (e : Definition). e.name) (ps ++ p ∷ []) ≡ map (λ (e : Definition). e.name) ps ++ p.name ∷ []
  names_on [] p = refl
  names_on (e ∷ ps) p = ap (λ (names : List (List ℕ)). e.name ∷ names) (names_on ps p)

  -- no names are distinct
  none_twice : IsDistinct bytes_eq []
  unfolding IsDistinct
  none_twice = tt

  -- those that stand ahead of a class have distinct names
  all_once : (k : ℕ) (d : Definition) (ps : List Definition) → Ends site.classes k (Some d) → StandAhead site s d ps → IsDistinct bytes_eq (map (λ e. e.name) ps)
  all_once k d ps ends (ahead.none none is) = subst (λ (qs : List Definition). IsDistinct bytes_eq (map (λ e. e.name) qs)) (sym is) none_twice
  all_once k d ps ends (ahead.parent p front a is more) =
      let step = next_is p d a in
      let up = subst (Ends site.classes k) step (goes_on site.classes k d ends) in
      let own = own_by a.name p a.defined in
      subst (λ (qs : List Definition). IsDistinct bytes_eq (map (λ e. e.name) qs)) (sym is)
      (subst (IsDistinct bytes_eq) (sym (names_on front p))
      (distinct_on (map (λ e. e.name) front) p.name (all_once k p front up more) (apart_from k p own front (all_below k p front up more))))

  -- ---- the whole

  -- a chain that meets no class twice ends
  chain_ends : (d : Definition) → inherits_itself site.classes d ≡ false → Ends site.classes (length site.classes) (Some d)
  chain_ends d h =
      let few = ltb-false (length site.classes) (length (line_of (length site.classes + 1) site.classes (Some d))) h in
      let more : length site.classes + 1 ≡ suc (length site.classes) = omega arith in
      ends_by site.classes (length site.classes) (Some d) (subst (λ n. length (line_of n site.classes (Some d)) ≤ length site.classes) more few)

  -- the parents that are gone through stand in line, each once
  pub parents_are : (d : Definition) (ps : List Definition) → inherits_itself site.classes d ≡ false → parents_of site s d ≡ Ok ps → AreParents site s d ps
  parents_are d ps fine h =
      let ends = chain_ends d fine in
      let above = goes_on site.classes (length site.classes) d ends in
      let line : StandAhead site s d ps = parent_by (line_down_to (length site.classes) site s) d.at d ps d.parent refl
      (λ p found. lines (length site.classes) p (subst (Ends site.classes (length site.classes)) found above)) h in
      record { ahead = line; once = all_once (length site.classes) d ps ends line }
