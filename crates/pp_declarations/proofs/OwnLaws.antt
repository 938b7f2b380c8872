-- The classes that run are those of the site.
use Rattle.std.proofs.Common.{◌≡◌, ℕ, zero, suc, ◌<◌, ◌≤◌, Bool, true, false, cond, List, [], ◌∷◌, ◌++◌, map, Option, Some, None, Result, Ok, Err, refl, sym, ap, subst, ◌∙◌, arith, Bor}
use Rattle.std.proofs.Math.Nat.{le-max_left, le-max_right}
use Rattle.std.specs.Str.{bytes_eq}
use Rattle.std.specs.List.{AllByRecursion}
use Rattle.rh_base.specs.declared.fault.Refusal.{Refusal}
use Rattle.pp_eval.specs.Evaluating.{◌>>=◌}
use Rattle.catalog_semantics.specs.declared.state.State.{State}
use Rattle.catalog_semantics.specs.Sites.{Definition, Site, definition_of}
use Rattle.catalog_semantics.specs.States.{is_declared}
use Rattle.catalog_semantics.specs.Declaring.{class_ref, if_class, class_named}
use Rattle.pp_declared_bodies.specs.Parents.{next_by, next_parent, and_above, nearest_first}
use Rattle.pp_declarations.specs.Classes.{IsOwn}
use Rattle.catalog_semantics.specs.Rooms.{most, block_depth}
use Rattle.pp_declarations.specs.Depth.{bound_of}
use Rattle.catalog_semantics.proofs.Circles.{has_name}

-- ---- how deep they are

-- how deep the body of a class is
abbrev depth_in : Definition → ℕ
depth_in d = block_depth d.body

-- equal classes as found are equal
same_one : (d e : Definition) → ◌≡◌ {A = Option Definition} (Some d) (Some e) → d ≡ e
same_one d e h = cc

-- a class that is found, here or further on, is no deeper than the deepest
within_head : (t : Bool) (c d : Definition) (more : Option Definition) (rest all : ℕ) → depth_in c ≤ all → rest ≤ all → (more ≡ Some d → depth_in d ≤ rest) → cond t (Some c) more ≡ Some d → depth_in d ≤ all
within_head true c d more rest all a b f h = let same = ap depth_in (same_one c d h) in omega arith
within_head false c d more rest all a b f h = let low = f h in omega arith

-- a class that is found is no deeper than the deepest
found_within : (name : List ℕ) (classes : List Definition) (d : Definition) → definition_of name classes ≡ Some d → depth_in d ≤ most (map depth_in classes)
found_within name [] d h = cc
found_within name (c ∷ classes) d h =
    within_head (bytes_eq c.name name) c d (definition_of name classes) (most (map depth_in classes)) (most (map depth_in (c ∷ classes)))
    (le-max_left (depth_in c) (most (map depth_in classes))) (le-max_right (depth_in c) (most (map depth_in classes))) (found_within name classes d) h

-- a class of the site is less deep than its bound
pub own_within : (site : Site) (d : Definition) → IsOwn site d → block_depth d.body < bound_of site
own_within site d h = let low = found_within d.name site.classes d h in omega arith

-- ---- which they are

-- a class that is found, here or further on, has the name
named_head : (t : Bool) (c d : Definition) (name : List ℕ) (more : Option Definition) → (t ≡ true → c.name ≡ name) → (more ≡ Some d → d.name ≡ name) → cond t (Some c) more ≡ Some d → d.name ≡ name
named_head true c d name more f g h = ap (λ (e : Definition). e.name) (sym (same_one c d h)) ∙ f refl
named_head false c d name more f g h = g h

-- a class that is found is one of the site
found_own : (site : Site) (name : List ℕ) (d : Definition) → definition_of name site.classes ≡ Some d → IsOwn site d
found_own site name d h = ap (λ n. definition_of n site.classes) (has_name name site.classes d h) ∙ h

-- equal results have equal classes
same_result : (d e : Definition) → ◌≡◌ {A = Result Definition Refusal} (Ok d) (Ok e) → d ≡ e
same_result d e h = cc

-- a class that isn't refused was found
by_found : (at : ℕ) (name : List ℕ) (d : Definition) (o : Option Definition) → if_class at name o ≡ Ok d → o ≡ Some d
by_found at name d None h = cc
by_found at name d (Some e) h = ap (λ (x : Definition). Some x) (same_result e d h)

-- a class that is named is one of the site
pub class_is_own : (site : Site) (at : ℕ) (name : List ℕ) (d : Definition) → class_named site at name ≡ Ok d → IsOwn site d
class_is_own site at name d h = found_own site name d (by_found at name d (definition_of name site.classes) h)

-- equal results have equal parents
same_next : (p : Option Definition) (q : Option Definition) → ◌≡◌ {A = Result (Option Definition) Refusal} (Ok p) (Ok q) → p ≡ q
same_next p q h = cc

module _ (site : Site) (s : State) where
  -- a parent that isn't declared yet is one of the site
  by_declared : (at : ℕ) (parent : List ℕ) (p : Definition) (b : Bool) (r : Result Definition Refusal) → ((d : Definition) → r ≡ Ok d → IsOwn site d)
      → cond b (Ok None) (r >>= λ d. Ok (Some d)) ≡ Ok (Some p) → IsOwn site p
  by_declared at parent p true r f h = let clash = same_next None (Some p) h in cc
  by_declared at parent p false (Ok d) f h = subst (IsOwn site) (same_one d p (same_next (Some d) (Some p) h)) (f d refl)
  by_declared at parent p false (Err e) f h = cc

  -- so is the next parent
  next_is_own : (at : ℕ) (parent : Option (List ℕ)) (p : Definition) → next_by site s at parent ≡ Ok (Some p) → IsOwn site p
  next_is_own at None p h = let clash = same_next None (Some p) h in cc
  next_is_own at (Some parent) p h = by_declared at parent p (is_declared (class_ref parent) s) (class_named site at parent) (λ d e. class_is_own site at parent d e) h

  -- each is one of the site
  abbrev AreOwn : List Definition → Type 0
  AreOwn ds = AllByRecursion (IsOwn site) ds

  -- equal results have equal lines
  same_line : (ds es : List Definition) → ◌≡◌ {A = Result (List Definition) Refusal} (Ok ds) (Ok es) → ds ≡ es
  same_line ds es h = cc

  -- a parent of the site in front of such makes such
  by_more : (p : Definition) (ds : List Definition) (r : Result (List Definition) Refusal) → IsOwn site p → ((es : List Definition) → r ≡ Ok es → AreOwn es) → (r >>= λ more. Ok (p ∷ more)) ≡ Ok ds → AreOwn ds
  by_more p ds (Ok more) own f h = subst AreOwn (same_line (p ∷ more) ds h) (own, f more refl)
  by_more p ds (Err e) own f h = cc

  -- so does the next one
  by_next : (above : Definition → Result (List Definition) Refusal) (ds : List Definition) (r : Result (Option Definition) Refusal) → ((p : Definition) → r ≡ Ok (Some p) → IsOwn site p)
      → ((p : Definition) (es : List Definition) → above p ≡ Ok es → AreOwn es) → (r >>= and_above above) ≡ Ok ds → AreOwn ds
  by_next above ds (Ok None) own f h = subst AreOwn (same_line [] ds h) tt
  by_next above ds (Ok (Some p)) own f h = by_more p ds (above p) (own p refl) (f p) h
  by_next above ds (Err e) own f h = cc

  -- the parents that are found are classes of the site
  pub line_is_own : (n : ℕ) (d : Definition) (ds : List Definition) → nearest_first n site s d ≡ Ok ds → AllByRecursion (IsOwn site) ds
  line_is_own zero d ds h = subst AreOwn (same_line [] ds h) tt
  line_is_own (suc n) d ds h = by_next (nearest_first n site s) ds (next_parent site s d) (λ p e. next_is_own d.at d.parent p e) (line_is_own n) h

-- ---- the last of a line

-- of classes of the site all but the last are such, and so is the last
pub last_own : (site : Site) (front : List Definition) (p : Definition) → AllByRecursion (IsOwn site) (front ++ p ∷ []) → AllByRecursion (IsOwn site) front × IsOwn site p
last_own site [] p h = (tt, h.0)
last_own site (d ∷ front) p h = let rest = last_own site front p h.1 in ((h.0, rest.0), rest.1)

-- without its last a list has one less in front of it
pub popped : (old new : List (Bor Definition)) (p : Bor Definition) → old ≡ new ++ p ∷ [] → map (λ (q : Bor Definition). q.now) old ≡ map (λ (q : Bor Definition). q.now) new ++ p.now ∷ []
popped old new p h = ap (map (λ (q : Bor Definition). q.now)) h ∙ mapped new
  where
    mapped : (front : List (Bor Definition)) → map (λ (q : Bor Definition). q.now) (front ++ p ∷ []) ≡ map (λ (q : Bor Definition). q.now) front ++ p.now ∷ []
    mapped [] = refl
    mapped (q ∷ front) = ap (λ (ds : List Definition). q.now ∷ ds) (mapped front)
