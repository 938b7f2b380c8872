-- Relations between nodes are those between resources.
use Rattle.std.proofs.Common.{◌≡◌, ℕ, ◌*◌, ◌<◌, List, [], ◌∷◌, ◌++◌, length, true, ◌&&◌, Option, Some, None, ◌⊎◌, inl, inr, map, refl, sym, ap, subst, ◌∙◌, arith, append_assoc, eqb-true, eq-eqb, option_and_then, option_map}
use Rattle.std.specs.Prelude.{Result, Ok, Err, ◌==◌}
use Rattle.std.specs.List.{Contains, flat_map}
use Rattle.std.proofs.lemmas.List.{map-append}
use Rattle.std.proofs.lemmas.List.Elements.{Contains-append_left, Contains-append_cases, Contains-push, Contains-push_cases}
use Rattle.rh_base.specs.declared.fault.Refusal.{Refusal}
use Rattle.pp_value.specs.declared.value.Ref.{Ref}
use Rattle.pp_eval.specs.Evaluating.{◌>>=◌}
use Rattle.catalog_semantics.specs.declared.catalog.Resource.{Resource}
use Rattle.catalog_semantics.specs.declared.catalog.Relation.{Relation}
use Rattle.catalog_semantics.specs.declared.catalog.Sort.{Sort}
use Rattle.catalog_semantics.specs.declared.catalog.Sort.TheVariants as sort
use Rattle.catalog_semantics.specs.States.{place_of}
use Rattle.catalog_semantics.specs.Catalogs.{Catalog, is_plain_sort}
use Rattle.graph_semantics.specs.Relations.{real_at, if_real_at, target_of, mentions, first_missing, metaparameter_relations, all_relations, Relates, IsRelated}
use Rattle.graph_semantics.specs.Graphs.{Node, Start, rank, last_node, Edge, Leads}
use Rattle.dep_graph.specs.Numbers.{last_at}
use Rattle.dep_graph.specs.Links.{with_nodes, with_link, with_links}
use Rattle.dep_graph.specs.Named.{has, is_linked}
use Rattle.dep_graph.specs.Whole.{AreLinks, bound_of}
use Rattle.dep_graph.specs.declared.targets.Side.TheVariants as side
use Rattle.dep_graph.specs.declared.links.Link.{Link}
use Rattle.graph_semantics.proofs.Elements.{either_way, none_in, head_in, tail_in, in_cases, any_in, in_any}
use Rattle.dep_graph.proofs.Resolved.{nodes_come, nodes_there, none_missing, one_missing}
use Rattle.graph_semantics.proofs.RealPlaces.{within}
use Rattle.dep_graph.proofs.ContainerLaws.{last_is, IsEdge}
use Rattle.graph_semantics.proofs.Basics.{no_way, err_ok, ok_same}
use Rattle.std.proofs.lemmas.Bool.{and_parts, and_from}
use Rattle.std.proofs.lemmas.Option.{same_Some}

-- ---- a target is real

-- what a reference names is real
pub target_real : (c : Catalog) (ref : Ref) (k : ℕ) → target_of c ref ≡ Some k → (r : Resource) × (real_at c k ≡ Some r)
target_real c ref k h = step (place_of ref c.resources) h where
  there : (place : ℕ) (t : Option Resource) → real_at c place ≡ t → option_map (λ r. place) t ≡ Some k → (r : Resource) × (real_at c k ≡ Some r)
  there place None is e = absurd (none_some e) where
    none_some : ◌≡◌ {A = Option ℕ} None (Some k) → ⊥
    none_some e = cc
  there place (Some r) is e = (r, subst (λ p. real_at c p ≡ Some r) (same_Some place k e) is)

  step : (o : Option ℕ) → option_and_then (if_real_at c) o ≡ Some k → (r : Resource) × (real_at c k ≡ Some r)
  step None e = absurd (none_some e) where
    none_some : ◌≡◌ {A = Option ℕ} None (Some k) → ⊥
    none_some e = cc
  step (Some place) e = there place (real_at c place) refl e

-- ---- a link is a relation

-- the sides of a link are those of a relation
pub record IsLinkOf (c : Catalog) (q : Relation) (l : Link) : Type 0 where
  pub from : with_nodes side.From c q.at q.from [] ≡ Ok l.from
  pub to : with_nodes side.To c q.at q.to [] ≡ Ok l.to

-- what stands for a relation: the next links, one more than before
record Next (c : Catalog) (q : Relation) (old more : List Link) : Type 0 where
  pub link : Link
  pub of : IsLinkOf c q link
  pub is : more ≡ old ++ link ∷ []

-- the link of a relation goes behind those before
next_link : (c : Catalog) (q : Relation) (old more : List Link) → with_link c q old ≡ Ok more → Next c q old more
next_link c q old more h = step (with_nodes side.From c q.at q.from []) (with_nodes side.To c q.at q.to []) refl refl h where
  step : (f t : Result (List ℕ) Refusal) → with_nodes side.From c q.at q.from [] ≡ f → with_nodes side.To c q.at q.to [] ≡ t
      → (f >>= λ from. t >>= λ to. Ok (old ++ record { from = from; to = to } ∷ [])) ≡ Ok more → Next c q old more
  step (Err r) t is at e = absurd (err_ok r more e)
  step (Ok from) (Err r) is at e = absurd (err_ok r more e)
  step (Ok from) (Ok to) is at e = record { link = record { from = from; to = to }; of = record { from = is; to = at }; is = sym (ok_same (old ++ record { from = from; to = to } ∷ []) more e) }

-- a link that came from a relation among these
pub record Comes (c : Catalog) (relations : List Relation) (l : Link) : Type 0 where
  pub relation : Relation
  pub among : Contains relations relation
  pub of : IsLinkOf c relation l

-- each link comes from a relation, or was there, where it is so of the others
comes_step : (c : Catalog) (q : Relation) (relations : List Relation) (old ls : List Link) (m : Result (List Link) Refusal) → with_link c q old ≡ m → (m >>= λ more. with_links c relations more) ≡ Ok ls
    → ((more : List Link) → with_links c relations more ≡ Ok ls → (l : Link) → Contains ls l → Contains more l ⊎ Comes c relations l)
    → (l : Link) → Contains ls l → Contains old l ⊎ Comes c (q ∷ relations) l
comes_step c q relations old ls (Err r) is h f l k = absurd (err_ok r ls h)
comes_step c q relations old ls (Ok more) is h f l k =
    let next = next_link c q old more is in
    either_way
    (λ m. either_way (λ was. inl was) (λ e. inr (record { relation = q; among = head_in q relations; of = subst (IsLinkOf c q) e next.of }))
    (Contains-push_cases old next.link l (subst (λ xs. Contains xs l) next.is m)))
    (λ rest. inr (record { relation = rest.relation; among = tail_in q rest.relation relations rest.among; of = rest.of }))
    (f more h l k)

-- each link comes from a relation, or was there
pub links_come : (c : Catalog) (relations : List Relation) (old ls : List Link) → with_links c relations old ≡ Ok ls → (l : Link) → Contains ls l → Contains old l ⊎ Comes c relations l
links_come c [] old ls h l k = inl (subst (λ xs. Contains xs l) (sym (ok_same old ls h)) k)
links_come c (q ∷ relations) old ls h l k = comes_step c q relations old ls (with_link c q old) refl h (λ more. links_come c relations more ls) l k

-- all that were there are there, and so is one for each relation
pub record HasLinks (c : Catalog) (relations : List Relation) (old ls : List Link) : Type 0 where
  pub stay : (l : Link) → Contains old l → Contains ls l
  pub there : (q : Relation) → Contains relations q → (l : Link) × Contains ls l × IsLinkOf c q l

-- each relation has its link, where it is so of the others
has_step : (c : Catalog) (q : Relation) (relations : List Relation) (old ls : List Link) (m : Result (List Link) Refusal) → with_link c q old ≡ m → (m >>= λ more. with_links c relations more) ≡ Ok ls
    → ((more : List Link) → with_links c relations more ≡ Ok ls → HasLinks c relations more ls) → HasLinks c (q ∷ relations) old ls
has_step c q relations old ls (Err r) is h f = absurd (err_ok r ls h)
has_step c q relations old ls (Ok more) is h f =
    let next = next_link c q old more is in
    let rest = f more h in
    record {
      stay = λ l k. rest.stay l (subst (λ xs. Contains xs l) (sym next.is) (Contains-append_left old (next.link ∷ []) l k));
      there = λ p k. either_way
          (λ e. (next.link, rest.stay next.link (subst (λ xs. Contains xs next.link) (sym next.is) (Contains-push old next.link)), subst (λ (x : Relation). IsLinkOf c x next.link) e next.of))
          (λ tail. rest.there p tail)
          (in_cases q p relations k);
    }

-- each relation has its link, and what was there stays
pub links_there : (c : Catalog) (relations : List Relation) (old ls : List Link) → with_links c relations old ≡ Ok ls → HasLinks c relations old ls
links_there c [] old ls h = record { stay = λ l k. subst (λ xs. Contains xs l) (ok_same old ls h) k; there = λ q k. absurd (none_in q k) }
links_there c (q ∷ relations) old ls h = has_step c q relations old ls (with_link c q old) refl h (λ more. links_there c relations more ls)

-- ---- the first reference to nothing

-- what a relation mentions are the references of its two sides
mentions_split : (q : Relation) (more : List (Ref × ℕ)) → mentions q ++ more ≡ map (λ ref. (ref, q.at)) q.from ++ (map (λ ref. (ref, q.at)) q.to ++ more)
mentions_split q more = ap (λ xs. xs ++ more) (map-append (λ (ref : Ref). (ref, q.at)) q.from q.to) ∙ append_assoc (map (λ ref. (ref, q.at)) q.from) (map (λ ref. (ref, q.at)) q.to) more

-- where links are made of all relations, no reference names nothing
pub nothing_missing : (c : Catalog) (relations : List Relation) (old ls : List Link) → with_links c relations old ≡ Ok ls → first_missing c (flat_map mentions relations) ≡ None
nothing_missing c [] old ls h = refl
nothing_missing c (q ∷ relations) old ls h = step (with_link c q old) refl h (λ more. nothing_missing c relations more ls) where
  step : (m : Result (List Link) Refusal) → with_link c q old ≡ m → (m >>= λ more. with_links c relations more) ≡ Ok ls
      → ((more : List Link) → with_links c relations more ≡ Ok ls → first_missing c (flat_map mentions relations) ≡ None) → first_missing c (mentions q ++ flat_map mentions relations) ≡ None
  step (Err r) is e f = absurd (err_ok r ls e)
  step (Ok more) is e f =
      let next = next_link c q old more is in
      ap (first_missing c) (mentions_split q (flat_map mentions relations))
      ∙ none_missing side.From c q.at q.from [] next.link.from (map (λ ref. (ref, q.at)) q.to ++ flat_map mentions relations) next.of.from
      ∙ none_missing side.To c q.at q.to [] next.link.to (flat_map mentions relations) next.of.to
      ∙ f more e

-- the refusal of a link is that of the first reference to nothing
link_missing : (c : Catalog) (q : Relation) (old : List Link) (r : Refusal) (more : List (Ref × ℕ)) → with_link c q old ≡ Err r → first_missing c (mentions q ++ more) ≡ Some r
link_missing c q old r more h = ap (first_missing c) (mentions_split q more) ∙ step (with_nodes side.From c q.at q.from []) (with_nodes side.To c q.at q.to []) refl refl h where
  step : (f t : Result (List ℕ) Refusal) → with_nodes side.From c q.at q.from [] ≡ f → with_nodes side.To c q.at q.to [] ≡ t
      → (f >>= λ from. t >>= λ to. Ok (old ++ record { from = from; to = to } ∷ [])) ≡ Err r
      → first_missing c (map (λ ref. (ref, q.at)) q.from ++ (map (λ ref. (ref, q.at)) q.to ++ more)) ≡ Some r
  step (Err x) t is at e = one_missing side.From c q.at q.from [] r (map (λ ref. (ref, q.at)) q.to ++ more) (is ∙ first_err x e) where
    first_err : (x : Refusal) → ◌≡◌ {A = Result (List Link) Refusal} (Err x) (Err r) → ◌≡◌ {A = Result (List ℕ) Refusal} (Err x) (Err r)
    first_err x e = let same : x ≡ r = cc in ap (λ (y : Refusal). Err y) same
  step (Ok from) (Err x) is at e =
      none_missing side.From c q.at q.from [] from (map (λ ref. (ref, q.at)) q.to ++ more) is
      ∙ one_missing side.To c q.at q.to [] r more (at ∙ first_err x e) where
        first_err : (x : Refusal) → ◌≡◌ {A = Result (List Link) Refusal} (Err x) (Err r) → ◌≡◌ {A = Result (List ℕ) Refusal} (Err x) (Err r)
        first_err x e = let same : x ≡ r = cc in ap (λ (y : Refusal). Err y) same
  step (Ok from) (Ok to) is at e = absurd (err_ok r (old ++ record { from = from; to = to } ∷ []) (sym e))

-- so is the refusal of all links
pub something_missing : (c : Catalog) (relations : List Relation) (old : List Link) (r : Refusal) → with_links c relations old ≡ Err r → first_missing c (flat_map mentions relations) ≡ Some r
something_missing c [] old r h = absurd (err_ok r old (sym h))
something_missing c (q ∷ relations) old r h = step (with_link c q old) refl h (λ more. something_missing c relations more r) where
  step : (m : Result (List Link) Refusal) → with_link c q old ≡ m → (m >>= λ more. with_links c relations more) ≡ Err r
      → ((more : List Link) → with_links c relations more ≡ Err r → first_missing c (flat_map mentions relations) ≡ Some r) → first_missing c (mentions q ++ flat_map mentions relations) ≡ Some r
  step (Err x) is e f = let same : x ≡ r = cc in link_missing c q old r (flat_map mentions relations) (is ∙ ap (λ (y : Refusal). Err y) same)
  step (Ok more) is e f =
      let next = next_link c q old more is in
      ap (first_missing c) (mentions_split q (flat_map mentions relations))
      ∙ none_missing side.From c q.at q.from [] next.link.from (map (λ ref. (ref, q.at)) q.to ++ flat_map mentions relations) next.of.from
      ∙ none_missing side.To c q.at q.to [] next.link.to (flat_map mentions relations) next.of.to
      ∙ f more e

-- ---- the sides of the catalog's links

-- the number is that of the last node of a resource that the relation puts first
pub record IsFirst (c : Catalog) (q : Relation) (x place : ℕ) : Type 0 where
  pub ref : Ref
  pub among : Contains q.from ref
  pub names : target_of c ref ≡ Some place
  pub is : x ≡ rank (last_at c place)

-- the number is that of the first node of a resource that the relation puts second
pub record IsSecond (c : Catalog) (q : Relation) (y place : ℕ) : Type 0 where
  pub ref : Ref
  pub among : Contains q.to ref
  pub names : target_of c ref ≡ Some place
  pub is : y ≡ 2 * place

-- each link of the catalog comes from a relation of it
pub link_of : (c : Catalog) (links : List Link) → AreLinks c links → (l : Link) → Contains links l → Comes c (all_relations c) l
link_of c links are l k = either_way (λ none. absurd (none_in l none)) (λ m. m) (links_come c (all_relations c) [] links are l k)

-- each number on the first side of a link is that of a resource that the relation puts first
pub first_of : (c : Catalog) (q : Relation) (l : Link) (x : ℕ) → IsLinkOf c q l → Contains l.from x → (place : ℕ) × IsFirst c q x place
first_of c q l x of h =
    either_way (λ none. absurd (none_in x none)) (λ n. (n.place, record { ref = n.ref; among = n.among; names = n.names; is = n.is }))
    (nodes_come side.From c q.at q.from [] l.from of.from x h)

-- and each on the second side of one that it puts second
pub second_of : (c : Catalog) (q : Relation) (l : Link) (y : ℕ) → IsLinkOf c q l → Contains l.to y → (place : ℕ) × IsSecond c q y place
second_of c q l y of h =
    either_way (λ none. absurd (none_in y none)) (λ n. (n.place, record { ref = n.ref; among = n.among; names = n.names; is = n.is }))
    (nodes_come side.To c q.at q.to [] l.to of.to y h)

-- a relation relates what it puts first to what it puts second
relates : (c : Catalog) (q : Relation) (x y a b : ℕ) → IsFirst c q x a → IsSecond c q y b → Relates c q a b
relates c q x y a b f s = record { left = f.ref; right = s.ref; from = f.among; to = s.among; from_is = f.names; to_is = s.names }

-- what a link joins, an edge joins
pub link_edge : (c : Catalog) (links : List Link) → AreLinks c links → (l : Link) (x y : ℕ) → Contains links l → Contains l.from x → Contains l.to y → IsEdge c (x, y)
link_edge c links are l x y among from to =
    let q = link_of c links are l among in
    let f = first_of c q.relation l x q.of from in
    let s = second_of c q.relation l y q.of to in
    let real = target_real c f.1.ref f.0 f.1.names in
    let leads : Leads c f.0 s.0 (last_node real.0.sort f.0) (Start s.0) = record { resource = real.0; real = real.1; from = refl; to = refl } in
    let both = relates c q.relation x y f.0 s.0 f.1 s.1 in
    record {
      from = last_node real.0.sort f.0;
      to = Start s.0;
      edge = either_way (λ m. Edge.metaparameter q.relation f.0 s.0 m both leads) (λ m. Edge.arrow q.relation f.0 s.0 m both leads)
          (Contains-append_cases (metaparameter_relations c) c.relations q.relation q.among);
      from_is = f.1.is ∙ ap rank (last_is c f.0 real.0 real.1);
      to_is = s.1.is;
    }

-- and what a relation relates, a link joins
pub related_link : (c : Catalog) (links : List Link) → AreLinks c links → (q : Relation) (a b : ℕ) → Contains (all_relations c) q → Relates c q a b
    → (l : Link) × Contains links l × Contains l.from (rank (last_at c a)) × Contains l.to (2 * b)
related_link c links are q a b among r =
    let have = (links_there c (all_relations c) [] links are).there q among in (
      have.0,
      have.1,
      (nodes_there side.From c q.at q.from [] have.0.from have.2.from).there r.left a r.from r.from_is,
      (nodes_there side.To c q.at q.to [] have.0.to have.2.to).there r.right b r.to r.to_is,
    )

-- ---- numbers of last nodes

-- the last node of a real resource is one of the nodes
pub low_last : (c : Catalog) (place : ℕ) (r : Resource) → real_at c place ≡ Some r → rank (last_at c place) < bound_of c
low_last c place r real = subst (λ (n : Node). rank n < bound_of c) (sym (last_is c place r real)) (by_sort r.sort (within c place r real)) where
  by_sort : (s : Sort) → place < length c.resources → rank (last_node s place) < bound_of c
  by_sort sort.Plain h = omega (arith, h)
  by_sort sort.Defined h = omega (arith, h)
  by_sort sort.Class h = omega (arith, h)

-- so are those on the first side of a link
pub low_from : (c : Catalog) (links : List Link) → AreLinks c links → (l : Link) (x : ℕ) → Contains links l → Contains l.from x → x < bound_of c
low_from c links are l x among from =
    let q = link_of c links are l among in
    let f = first_of c q.relation l x q.of from in
    let real = target_real c f.1.ref f.0 f.1.names in
    subst (λ n. n < bound_of c) (sym f.1.is) (low_last c f.0 real.0 real.1)

-- and those on the second
pub low_to : (c : Catalog) (links : List Link) → AreLinks c links → (l : Link) (y : ℕ) → Contains links l → Contains l.to y → y < bound_of c
low_to c links are l y among to =
    let q = link_of c links are l among in
    let s = second_of c q.relation l y q.of to in
    let real = target_real c s.1.ref s.0 s.1.names in
    let less = within c s.0 real.0 real.1 in
    let same = s.1.is in
    omega arith

-- ---- a relation stands directly from the one plain resource to the other

-- a last node with an even number is that of the resource at its place
last_even : (c : Catalog) (place a : ℕ) (r : Resource) → real_at c place ≡ Some r → 2 * a ≡ rank (last_at c place) → place ≡ a
last_even c place a r real h = by_sort r.sort (h ∙ ap rank (last_is c place r real)) where
  by_sort : (s : Sort) → 2 * a ≡ rank (last_node s place) → place ≡ a
  by_sort sort.Plain e = omega (arith, e)
  by_sort sort.Defined e = omega (arith, e)
  by_sort sort.Class e = omega (arith, e)

-- a number that is told to stand in a list does
has_in : (n : ℕ) (ns : List ℕ) → has n ns ≡ true → Contains ns n
has_in n ns h = let at = any_in (λ k. k == n) ns h in subst (Contains ns) (eqb-true at.0 n at.2) at.1

-- and one that stands there is told to
in_has : (n : ℕ) (ns : List ℕ) → Contains ns n → has n ns ≡ true
in_has n ns h = in_any (λ k. k == n) ns n h (eq-eqb n n refl)

-- where a link joins two places, a relation stands from the one to the other
pub linked_related : (c : Catalog) (links : List Link) → AreLinks c links → (a b : ℕ) → is_linked links (2 * a) (2 * b) ≡ true → IsRelated c a b
linked_related c links are a b h =
    let at = any_in (λ l. has (2 * a) l.from && has (2 * b) l.to) links h in
    let both = and_parts (has (2 * a) at.0.from) (has (2 * b) at.0.to) at.2 in
    let q = link_of c links are at.0 at.1 in
    let f = first_of c q.relation at.0 (2 * a) q.of (has_in (2 * a) at.0.from both.0) in
    let s = second_of c q.relation at.0 (2 * b) q.of (has_in (2 * b) at.0.to both.1) in
    let real = target_real c f.1.ref f.0 f.1.names in
    let first = last_even c f.0 a real.0 real.1 f.1.is in
    let second : s.0 ≡ b = let same = s.1.is in omega arith in
    (q.relation, q.among, subst (λ p. Relates c q.relation p b) first (subst (Relates c q.relation f.0) second (relates c q.relation (2 * a) (2 * b) f.0 s.0 f.1 s.1)))

-- the last node of a plain resource is its only one
plain_last : (s : Sort) (a : ℕ) → is_plain_sort s ≡ true → rank (last_node s a) ≡ 2 * a
plain_last sort.Plain a h = refl
plain_last sort.Defined a h = absurd (no_way h)
plain_last sort.Class a h = absurd (no_way h)

-- and where a relation stands from a plain resource, a link joins the two
pub related_linked : (c : Catalog) (links : List Link) → AreLinks c links → (a b : ℕ) (r : Resource) → real_at c a ≡ Some r → is_plain_sort r.sort ≡ true → IsRelated c a b
    → is_linked links (2 * a) (2 * b) ≡ true
related_linked c links are a b r real plain h =
    let at = related_link c links are h.0 a b h.1 h.2 in
    let first : rank (last_at c a) ≡ 2 * a = ap rank (last_is c a r real) ∙ plain_last r.sort a plain in
    in_any (λ l. has (2 * a) l.from && has (2 * b) l.to) links at.0 at.1
    (and_from (has (2 * a) at.0.from) (has (2 * b) at.0.to) (in_has (2 * a) at.0.from (subst (Contains at.0.from) first at.2)) (in_has (2 * b) at.0.to at.3))
