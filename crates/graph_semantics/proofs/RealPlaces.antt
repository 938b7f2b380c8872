-- Real resources and real plain resources, by their places.
use Rattle.std.proofs.Common.{◌≡◌, ℕ, zero, suc, ◌+◌, ◌<◌, List, [], ◌∷◌, length, Bool, true, false, cond, ◌&&◌, Option, Some, None, option_and_then, refl, sym, ap, subst, ◌∙◌, arith}
use Rattle.std.specs.Prelude.{slice_get, not}
use Rattle.std.specs.List.{Contains}
use Rattle.catalog_semantics.specs.declared.catalog.Resource.{Resource}
use Rattle.catalog_semantics.specs.Catalogs.{Catalog, is_plain_sort}
use Rattle.graph_semantics.specs.Relations.{real_at, if_real}
use Rattle.graph_semantics.specs.Automatic.{IsPlainAt}
use Rattle.graph_semantics.specs.Graphs.{plain_from, plain_places}
use Rattle.graph_semantics.proofs.Elements.{either_way, none_in, head_in, tail_in, in_cases, got_within}
use Rattle.graph_semantics.proofs.Basics.{no_way}
use Rattle.std.proofs.lemmas.Bool.{and_parts, not-true, and_from}
use Rattle.std.proofs.lemmas.Option.{same_Some}

-- ---- a real resource stands among the resources

-- a real resource stands there, and isn't virtual
real_stands : (o : Option Resource) (r : Resource) → option_and_then if_real o ≡ Some r → (o ≡ Some r) × (r.is_virtual ≡ false)
real_stands None r h = absurd (none_some r h) where
  none_some : (r : Resource) → ◌≡◌ {A = Option Resource} None (Some r) → ⊥
  none_some r h = cc
real_stands (Some q) r h = by_flag q.is_virtual refl h where
  by_flag : (t : Bool) → q.is_virtual ≡ t → cond t None (Some q) ≡ Some r → (◌≡◌ {A = Option Resource} (Some q) (Some r)) × (r.is_virtual ≡ false)
  by_flag true is k = absurd (none_some k) where
    none_some : ◌≡◌ {A = Option Resource} None (Some r) → ⊥
    none_some k = cc
  by_flag false is k = (k, subst (λ (x : Resource). x.is_virtual ≡ false) (same_Some q r k) is)

-- what is real at a place stands there
pub stands : (c : Catalog) (place : ℕ) (r : Resource) → real_at c place ≡ Some r → slice_get c.resources place ≡ Some r
stands c place r h = (real_stands (slice_get c.resources place) r h).0

-- and isn't virtual
pub isnt_virtual : (c : Catalog) (place : ℕ) (r : Resource) → real_at c place ≡ Some r → r.is_virtual ≡ false
isnt_virtual c place r h = (real_stands (slice_get c.resources place) r h).1

-- and the place is within the resources
pub within : (c : Catalog) (place : ℕ) (r : Resource) → real_at c place ≡ Some r → place < length c.resources
within c place r h = got_within c.resources place r (stands c place r h)

-- ---- plain places

-- a real plain resource stands at this index, whose place is counted from n
record StandsPlain (n : ℕ) (resources : List Resource) (k : ℕ) : Type 0 where
  pub index : ℕ
  pub resource : Resource
  pub at : slice_get resources index ≡ Some resource
  pub is : k ≡ n + index
  pub plain : is_plain_sort resource.sort ≡ true
  pub real : resource.is_virtual ≡ false

-- what stands among the others stands in all
one_on : (n k : ℕ) (r : Resource) (resources : List Resource) → StandsPlain (n + 1) resources k → StandsPlain n (r ∷ resources) k
one_on n k r resources h = record { index = suc h.index; resource = h.resource; at = h.at; is = omega (arith, h.is); plain = h.plain; real = h.real }

-- a place that is kept is that of a plain resource, here or further on
plain_step : (n k : ℕ) (r : Resource) (resources : List Resource) (t : Bool) → (is_plain_sort r.sort && not r.is_virtual) ≡ t → (Contains (plain_from (n + 1) resources) k → StandsPlain (n + 1) resources k)
    → Contains (cond t (n ∷ plain_from (n + 1) resources) (plain_from (n + 1) resources)) k → StandsPlain n (r ∷ resources) k
plain_step n k r resources true is f h =
    let both = and_parts (is_plain_sort r.sort) (not r.is_virtual) is in
    either_way (λ e. record { index = 0; resource = r; at = refl; is = omega (arith, e); plain = both.0; real = not-true r.is_virtual both.1 }) (λ m. one_on n k r resources (f m))
    (in_cases n k (plain_from (n + 1) resources) h)
plain_step n k r resources false is f h = one_on n k r resources (f h)

-- each place that is kept is that of a real plain resource
plain_stands : (n k : ℕ) (resources : List Resource) → Contains (plain_from n resources) k → StandsPlain n resources k
plain_stands n k [] h = absurd (none_in k h)
plain_stands n k (r ∷ resources) h = plain_step n k r resources (is_plain_sort r.sort && not r.is_virtual) refl (plain_stands (n + 1) k resources) h

-- a plain resource has its place kept
pub first_plain : (n : ℕ) (t : Bool) (rest : List ℕ) → t ≡ true → Contains (cond t (n ∷ rest) rest) n
first_plain n true rest h = head_in n rest
first_plain n false rest h = absurd (no_way h)

-- so have those further on
pub later_plain : (n k : ℕ) (t : Bool) (rest : List ℕ) → Contains rest k → Contains (cond t (n ∷ rest) rest) k
later_plain n k true rest h = tail_in n k rest h
later_plain n k false rest h = h

-- the place of each real plain resource is kept
plain_in_from : (n i : ℕ) (resources : List Resource) (r : Resource) → slice_get resources i ≡ Some r → (is_plain_sort r.sort && not r.is_virtual) ≡ true → Contains (plain_from n resources) (n + i)
plain_in_from n i [] r h p = absurd (none_some h) where
  none_some : ◌≡◌ {A = Option Resource} None (Some r) → ⊥
  none_some h = cc
plain_in_from n zero (q ∷ resources) r h p =
    let first : n ≡ n + 0 = omega arith in
    subst (Contains (plain_from n (q ∷ resources))) first
    (first_plain n (is_plain_sort q.sort && not q.is_virtual) (plain_from (n + 1) resources) (ap (λ (x : Resource). is_plain_sort x.sort && not x.is_virtual) (same_Some q r h) ∙ p))
plain_in_from n (suc i) (q ∷ resources) r h p =
    let next : (n + 1) + i ≡ n + suc i = omega arith in
    later_plain n (n + suc i) (is_plain_sort q.sort && not q.is_virtual) (plain_from (n + 1) resources)
    (subst (Contains (plain_from (n + 1) resources)) next (plain_in_from (n + 1) i resources r h p))

-- a resource that isn't virtual is real
pub real_of : (r : Resource) (t : Bool) → r.is_virtual ≡ t → t ≡ false → cond t None (Some r) ≡ Some r
real_of r true is h = absurd (no_way (sym h))
real_of r false is h = refl

-- at each place of a plain resource a real one stands
pub plain_at : (c : Catalog) (k : ℕ) → Contains (plain_places c) k → (r : Resource) × IsPlainAt c k r
plain_at c k h =
    let at = plain_stands 0 k c.resources h in
    let same : at.index ≡ k = omega (arith, at.is) in (
      at.resource,
      record {
        real = ap (option_and_then if_real) (subst (λ i. slice_get c.resources i ≡ Some at.resource) same at.at) ∙ real_of at.resource at.resource.is_virtual refl at.real;
        plain = at.plain;
      },
    )

-- and each real plain resource has its place among them
pub plain_in : (c : Catalog) (k : ℕ) (r : Resource) → IsPlainAt c k r → Contains (plain_places c) k
plain_in c k r h =
    let zero_more : 0 + k ≡ k = omega arith in
    subst (Contains (plain_places c)) zero_more
    (plain_in_from 0 k c.resources r (stands c k r h.real) (and_from (is_plain_sort r.sort) (not r.is_virtual) h.plain (ap not (isnt_virtual c k r h.real))))
