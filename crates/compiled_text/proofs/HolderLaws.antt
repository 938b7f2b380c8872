-- The containers of resources, as they are noted edge by edge.
use Rattle.std.proofs.Common.{◌≡◌, ℕ, zero, suc, ◌+◌, ◌<◌, ◌==◌, Bool, true, false, true≢false, cond, ◌||◌, ◌&&◌, not, List, [], ◌∷◌, ◌++◌, length, take, drop, get_or, set, slice_get, add-one, Option, Some, None, is_some, refl, sym, ap, ap₂, subst, ◌∙◌, eqb-true, arith}
use Rattle.std.specs.List.{AllByRecursion}
use Rattle.std.proofs.lemmas.Bool.{eq-eqb, and_parts}
use Rattle.std.proofs.lemmas.Option.{slice_get_within, same_Some}
use Rattle.std.proofs.Math.Seq.{drop-cons, take-suc}
use Rattle.compiled_text.specs.declared.catalog.CompiledResource.{CompiledResource}
use Rattle.compiled_text.specs.declared.catalog.Containment.{Containment}
use Rattle.compiled_text.specs.Compiled.{is_class_at, AreHeldOnce, first_outer, holder_of}
use Rattle.compiled_text.specs.Reading.{is_held, is_free, are_free, compiled_with, AreHolders}

-- ---- the container of a place

-- one more edge to another place changes no container of this one
outer_last_other : (edges : List Containment) (e : Containment) (place : ℕ) → (e.inner == place) ≡ false → first_outer place (edges ++ e ∷ []) ≡ first_outer place edges
outer_last_other [] e place h = ap (λ t. cond t (Some e.outer) None) h
outer_last_other (f ∷ edges) e place h = ap (cond (f.inner == place) (Some f.outer)) (outer_last_other edges e place h)

-- what is missing here and further on is missing in both
none_head : (t : Bool) (n : ℕ) (o : Option ℕ) → cond t (Some n) o ≡ None → (t ≡ false) × (o ≡ None)
none_head true n o h = absurd (some n h)
  where
    some : (n : ℕ) → ◌≡◌ {A = Option ℕ} (Some n) None → ⊥
    some n h = cc
none_head false n o h = (refl, h)

-- one more edge to a place without a container is the container's
outer_last : (edges : List Containment) (e : Containment) → first_outer e.inner edges ≡ None → first_outer e.inner (edges ++ e ∷ []) ≡ Some e.outer
outer_last [] e h = ap (λ t. cond t (Some e.outer) None) (eq-eqb e.inner e.inner refl)
outer_last (f ∷ edges) e h =
    let two = none_head (f.inner == e.inner) f.outer (first_outer e.inner edges) h in
    ap (λ t. cond t (Some f.outer) (first_outer e.inner (edges ++ e ∷ []))) two.0 ∙ outer_last edges e two.1

-- ---- slots

-- what is written to a slot stands there
slot_same : (l : List (Option ℕ)) (i : ℕ) (x : Option ℕ) → i < length l → slice_get (set l i x) i ≡ Some x
slot_same [] i x h = absurd (omega (arith, h))
slot_same (y ∷ l) zero x h = refl
slot_same (y ∷ l) (suc i) x h = slot_same l i x (omega (arith, h))

-- and no other slot changes
slot_other : (l : List (Option ℕ)) (i j : ℕ) (x : Option ℕ) → (i ≡ j → ⊥) → slice_get (set l i x) j ≡ slice_get l j
slot_other [] i j x n = refl
slot_other (y ∷ l) zero zero x n = absurd (n refl)
slot_other (y ∷ l) zero (suc j) x n = refl
slot_other (y ∷ l) (suc i) zero x n = refl
slot_other (y ∷ l) (suc i) (suc j) x n = slot_other l i j x (λ e. n (ap suc e))

-- ---- edge by edge

-- the containers are noted of some edges, and what is left is free where all are
pub record AreNoted (resources : List CompiledResource) (all done left : List Containment) (holders : List (Option ℕ)) : Type 0 where
  pub slots : AreHolders resources done holders
  pub free : are_free resources done left ≡ are_free resources [] all

-- each resource has a slot
slot_there : (resources : List CompiledResource) (all done left : List Containment) (holders : List (Option ℕ)) (place : ℕ) → AreNoted resources all done left holders → place < length resources → place < length holders
slot_there resources all done left holders place n h = slice_get_within holders place (holder_of (compiled_with resources done) place) (n.slots place h)

-- an edge to a class is noted without a change
class_noted : (resources : List CompiledResource) (all done left : List Containment) (e : Containment) (holders : List (Option ℕ)) → is_class_at resources e.inner ≡ true
    → AreNoted resources all done (e ∷ left) holders → AreNoted resources all (done ++ e ∷ []) left holders
class_noted resources all done left e holders class n = record {
  slots = λ place h. n.slots place h ∙ ap (λ o. Some o) (at place (e.inner == place) refl);
  free = sym (ap (λ t. (t || not (is_held e.inner done)) && are_free resources (done ++ e ∷ []) left) class) ∙ n.free;
}
  where
    at : (place : ℕ) (t : Bool) → (e.inner == place) ≡ t → cond (is_class_at resources place) None (first_outer place done) ≡ cond (is_class_at resources place) None (first_outer place (done ++ e ∷ []))
    at place true s =
        let here : is_class_at resources place ≡ true = ap (is_class_at resources) (sym (eqb-true e.inner place s)) ∙ class in
        ap (λ c. cond c None (first_outer place done)) here ∙ sym (ap (λ c. cond c None (first_outer place (done ++ e ∷ []))) here)
    at place false s = ap (cond (is_class_at resources place) None) (sym (outer_last_other done e place s))

-- what isn't a class has the container of its slot
slot_is : (resources : List CompiledResource) (all done left : List Containment) (holders : List (Option ℕ)) (place : ℕ) (o : Option ℕ) → is_class_at resources place ≡ false → place < length resources
    → AreNoted resources all done left holders → slice_get holders place ≡ Some o → first_outer place done ≡ o
slot_is resources all done left holders place o other h n is =
    sym (ap (λ c. cond c None (first_outer place done)) other) ∙ same_Some (holder_of (compiled_with resources done) place) o (sym (n.slots place h) ∙ is)

-- an edge to what has no container yet is noted in its slot
edge_noted : (resources : List CompiledResource) (all done left : List Containment) (e : Containment) (holders new : List (Option ℕ)) → is_class_at resources e.inner ≡ false → e.inner < length resources
    → slice_get holders e.inner ≡ Some None → new ≡ set holders e.inner (Some e.outer) → AreNoted resources all done (e ∷ left) holders → AreNoted resources all (done ++ e ∷ []) left new
edge_noted resources all done left e holders new other within none is n = record {
  slots = λ place h. ap (λ l. slice_get l place) is ∙ at place h (e.inner == place) refl;
  free = sym (ap₂ (λ c o. (c || not (is_some o)) && are_free resources (done ++ e ∷ []) left) other before) ∙ n.free;
}
  where
    before : first_outer e.inner done ≡ None
    before = slot_is resources all done (e ∷ left) holders e.inner None other within n none

    at : (place : ℕ) → place < length resources → (t : Bool) → (e.inner == place) ≡ t
        → slice_get (set holders e.inner (Some e.outer)) place ≡ Some (cond (is_class_at resources place) None (first_outer place (done ++ e ∷ [])))
    at place h true s =
        let same = eqb-true e.inner place s in
        subst (λ p. slice_get (set holders e.inner (Some e.outer)) p ≡ Some (cond (is_class_at resources p) None (first_outer p (done ++ e ∷ [])))) same
        (slot_same holders e.inner (Some e.outer) (slot_there resources all done (e ∷ left) holders e.inner n within)
        ∙ ap (λ o. Some o) (sym (ap₂ (λ c o. cond c None o) other (outer_last done e before))))
    at place h false s =
        slot_other holders e.inner place (Some e.outer) (λ k. true≢false (sym (eq-eqb e.inner place k) ∙ s))
        ∙ (n.slots place h ∙ ap (λ o. Some (cond (is_class_at resources place) None o)) (sym (outer_last_other done e place s)))

-- ---- the next of all edges

-- what is left begins with the edge at this place
next_left : (all : List Containment) (i : ℕ) (d : Containment) → i < length all → drop i all ≡ get_or all i d ∷ drop (i + 1) all
next_left all i d h = drop-cons all i d h ∙ ap (λ j. get_or all i d ∷ drop j all) (sym (add-one i))

-- with it one more is done
next_done : (all : List Containment) (i : ℕ) (d : Containment) → i < length all → take i all ++ get_or all i d ∷ [] ≡ take (i + 1) all
next_done all i d h = sym (ap (λ j. take j all) (add-one i) ∙ take-suc all i d h)

-- the containers of the edges before this place are noted
abbrev NotedTo : List CompiledResource → List Containment → ℕ → List (Option ℕ) → Type 0
NotedTo resources all i holders = AreNoted resources all (take i all) (drop i all) holders

-- the edge at this place is the first that is left
here : (resources : List CompiledResource) (all : List Containment) (i : ℕ) (d : Containment) (holders : List (Option ℕ)) → i < length all → NotedTo resources all i holders
    → AreNoted resources all (take i all) (get_or all i d ∷ drop (i + 1) all) holders
here resources all i d holders h n = subst (λ l. AreNoted resources all (take i all) l holders) (next_left all i d h) n

-- an edge to a class leaves the slots
pub class_next : (resources : List CompiledResource) (all : List Containment) (i : ℕ) (d : Containment) (holders : List (Option ℕ)) → i < length all → is_class_at resources (get_or all i d).inner ≡ true
    → NotedTo resources all i holders → NotedTo resources all (i + 1) holders
class_next resources all i d holders h class n =
    subst (λ l. AreNoted resources all l (drop (i + 1) all) holders) (next_done all i d h)
    (class_noted resources all (take i all) (drop (i + 1) all) (get_or all i d) holders class (here resources all i d holders h n))

-- each edge leads to a resource
pub inner_within : (count : ℕ) (all : List Containment) (i : ℕ) (d : Containment) → AllByRecursion (λ e. e.inner < count) all → i < length all → (get_or all i d).inner < count
inner_within count [] i d h k = absurd (omega (arith, k))
inner_within count (e ∷ all) zero d h k = h.0
inner_within count (e ∷ all) (suc i) d h k = inner_within count all i d h.1 (omega (arith, k))

-- a slot is there for what the next edge leads to
pub slot_next : (resources : List CompiledResource) (all : List Containment) (i : ℕ) (d : Containment) (holders : List (Option ℕ)) → AllByRecursion (λ e. e.inner < length resources) all → i < length all
    → NotedTo resources all i holders → (get_or all i d).inner < length holders
slot_next resources all i d holders within h n = slot_there resources all (take i all) (drop i all) holders (get_or all i d).inner n (inner_within (length resources) all i d within h)

-- an edge to what has no container yet is noted
pub edge_next : (resources : List CompiledResource) (all : List Containment) (i : ℕ) (d : Containment) (holders new : List (Option ℕ)) → AllByRecursion (λ e. e.inner < length resources) all → i < length all
    → is_class_at resources (get_or all i d).inner ≡ false → slice_get holders (get_or all i d).inner ≡ Some None → new ≡ set holders (get_or all i d).inner (Some (get_or all i d).outer)
    → NotedTo resources all i holders → NotedTo resources all (i + 1) new
edge_next resources all i d holders new within h other none is n =
    subst (λ l. AreNoted resources all l (drop (i + 1) all) new) (next_done all i d h)
    (edge_noted resources all (take i all) (drop (i + 1) all) (get_or all i d) holders new other (inner_within (length resources) all i d within h) none is (here resources all i d holders h n))

-- ---- contained once

-- with one more edge a place is contained if it was, or the edge leads to it
held_last : (place : ℕ) (edges : List Containment) (e : Containment) → is_held place (edges ++ e ∷ []) ≡ (is_held place edges || (e.inner == place))
held_last place [] e = at (e.inner == place)
  where
    at : (t : Bool) → is_some (cond t (Some e.outer) None) ≡ t
    at true = refl
    at false = refl
held_last place (f ∷ edges) e = at (f.inner == place) (held_last place edges e)
  where
    at : (t : Bool) → is_held place (edges ++ e ∷ []) ≡ (is_held place edges || (e.inner == place))
        → is_some (cond t (Some f.outer) (first_outer place (edges ++ e ∷ []))) ≡ (is_some (cond t (Some f.outer) (first_outer place edges)) || (e.inner == place))
    at true later = refl
    at false later = later

-- what is free behind more edges is free behind fewer
free_fewer : (class held here : Bool) → (class || not (held || here)) ≡ true → (class || not held) ≡ true
free_fewer true held here h = refl
free_fewer false true here h = h
free_fewer false false here h = refl

-- what the one more contains and is free all the same is a class
free_else : (class held here : Bool) → (class || not (held || here)) ≡ true → here ≡ true → class ≡ true
free_else true held here h s = refl
free_else false true here h s = absurd (true≢false (sym h))
free_else false false true h s = absurd (true≢false (sym h))
free_else false false false h s = absurd (true≢false (sym s))

-- what is free behind fewer is free behind one more, if it is a class where that contains it
free_more : (class held here : Bool) → (class || not held) ≡ true → (here ≡ true → class ≡ true) → (class || not (held || here)) ≡ true
free_more true held here h k = refl
free_more false true here h k = h
free_more false false true h k = k refl
free_more false false false h k = refl

-- each of these edges is free behind those before
abbrev AreFree : List CompiledResource → List Containment → List Containment → Type 0
AreFree resources before edges = AllByRecursion (λ f. is_free resources before f ≡ true) edges

-- edges that are free behind one more are free behind fewer, and lead to a class where that does
before_fewer : (resources : List CompiledResource) (before edges : List Containment) (e : Containment) → AreFree resources (before ++ e ∷ []) edges
    → AreFree resources before edges × AllByRecursion (λ f. f.inner ≡ e.inner → is_class_at resources e.inner ≡ true) edges
before_fewer resources before [] e h = (tt, tt)
before_fewer resources before (f ∷ edges) e h =
    let class = is_class_at resources f.inner in
    let held = is_held f.inner before in
    let free : (class || not (held || (e.inner == f.inner))) ≡ true = ap (λ t. class || not t) (sym (held_last f.inner before e)) ∙ h.0 in
    let rest = before_fewer resources before edges e h.1 in (
      (free_fewer class held (e.inner == f.inner) free, rest.0),
      ((λ k. ap (is_class_at resources) (sym k) ∙ free_else class held (e.inner == f.inner) free (eq-eqb e.inner f.inner (sym k))), rest.1),
    )

-- and the other way round
before_more : (resources : List CompiledResource) (before edges : List Containment) (e : Containment) → AreFree resources before edges
    → AllByRecursion (λ f. f.inner ≡ e.inner → is_class_at resources e.inner ≡ true) edges → AreFree resources (before ++ e ∷ []) edges
before_more resources before [] e h d = tt
before_more resources before (f ∷ edges) e h d =
    let class = is_class_at resources f.inner in
    let held = is_held f.inner before in (
      ap (λ t. class || not t) (held_last f.inner before e)
          ∙ free_more class held (e.inner == f.inner) h.0 (λ s. let same = eqb-true e.inner f.inner s in ap (is_class_at resources) (sym same) ∙ d.0 (sym same)),
      before_more resources before edges e h.1 d.1,
    )

-- edges that are told to be free contain nothing twice but classes
free_once : (resources : List CompiledResource) (before edges : List Containment) → are_free resources before edges ≡ true → AreFree resources before edges × AreHeldOnce resources edges
free_once resources before [] h = (tt, tt)
free_once resources before (e ∷ edges) h =
    let two = and_parts (is_free resources before e) (are_free resources (before ++ e ∷ []) edges) h in
    let rest = free_once resources (before ++ e ∷ []) edges two.1 in
    let fewer = before_fewer resources before edges e rest.0 in
    ((two.0, fewer.0), (fewer.1, rest.1))

-- and edges that contain nothing twice but classes are told to be free
once_free : (resources : List CompiledResource) (before edges : List Containment) → AreFree resources before edges → AreHeldOnce resources edges → are_free resources before edges ≡ true
once_free resources before [] h d = refl
once_free resources before (e ∷ edges) h d =
    ap₂ (λ a b. a && b) h.0 (once_free resources (before ++ e ∷ []) edges (before_more resources before edges e h.1 d.0) d.1)

-- behind no edges each is free
all_free : (resources : List CompiledResource) (edges : List Containment) → AreFree resources [] edges
all_free resources [] = tt
all_free resources (e ∷ edges) = (at (is_class_at resources e.inner), all_free resources edges)
  where
    at : (t : Bool) → (t || true) ≡ true
    at true = refl
    at false = refl

-- edges are told to be free exactly where they contain nothing twice but classes
pub once_where : (resources : List CompiledResource) (edges : List Containment)
    → (are_free resources [] edges ≡ true → AreHeldOnce resources edges) × (AreHeldOnce resources edges → are_free resources [] edges ≡ true)
once_where resources edges = ((λ h. (free_once resources [] edges h).1), (λ d. once_free resources [] edges (all_free resources edges) d))
