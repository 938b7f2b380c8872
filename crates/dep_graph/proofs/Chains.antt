-- Relations one after the other, and the references of each.
use Rattle.std.proofs.Common.{◌≡◌, ℕ, ◌+◌, ◌<◌, List, [], ◌∷◌, ◌++◌, length, get_or, drop, refl, sym, ap, subst, ◌∙◌}
use Rattle.std.proofs.lemmas.List.{drop_more}
use Rattle.std.specs.Prelude.{Result, Ok, Err}
use Rattle.std.specs.List.{flat_map}
use Rattle.rh_base.specs.declared.fault.Refusal.{Refusal}
use Rattle.rh_base.specs.declared.fault.Fault.{Fault}
use Rattle.rh_base.specs.declared.fault.Fault.TheVariants as fault
use Rattle.pp_value.specs.declared.value.Ref.{Ref}
use Rattle.pp_value.specs.declared.value.Value.{Value}
use Rattle.pp_value.specs.declared.value.Value.TheVariants as v
use Rattle.pp_value.specs.declared.value.Value.TheBlock as block
use Rattle.pp_eval.specs.Evaluating.{◌>>=◌, Refuses}
use Rattle.catalog_semantics.specs.declared.catalog.Relation.{Relation}
use Rattle.catalog_semantics.specs.Catalogs.{Catalog}
use Rattle.graph_semantics.specs.Relations.{references_within}
use Rattle.dep_graph.specs.Links.{node_of, with_nodes, with_link, with_links}
use Rattle.dep_graph.specs.declared.targets.Side.{Side}
use Rattle.dep_graph.specs.declared.links.Link.{Link}

-- the references within a list are those within its members
pub within_list : (xs : List Value) → references_within (v.List xs) ≡ flat_map references_within xs
unfolding block.hidden-the_row-Value-0 denote.Hole.Carrier.hidden
within_list [] = refl
within_list (x ∷ xs) = ap (λ rest. references_within x ++ rest) (within_list xs)

-- three steps may be grouped either way
joined : {A B C : Type 0} (m : Result A Refusal) (f : A → Result B Refusal) (g : B → Result C Refusal) → (m >>= f) >>= g ≡ m >>= (λ x. f x >>= g)
joined (Ok x) f g = refl
joined (Err r) f g = refl

-- steps that are the same go on alike
bound : {A B : Type 0} (m : Result A Refusal) (f g : A → Result B Refusal) → ((x : A) → f x ≡ g x) → m >>= f ≡ m >>= g
bound (Ok x) f g h = h x
bound (Err r) f g h = refl

-- ---- references

-- references in two parts give the nodes of one and then of the other
pub nodes_append : (s : Side) (c : Catalog) (at : ℕ) (xs ys : List Ref) (nodes : List ℕ)
    → with_nodes s c at (xs ++ ys) nodes ≡ with_nodes s c at xs nodes >>= λ more. with_nodes s c at ys more
nodes_append s c at [] ys nodes = refl
nodes_append s c at (x ∷ xs) ys nodes =
    bound (node_of s c at x) (λ n. with_nodes s c at (xs ++ ys) (nodes ++ n ∷ [])) (λ n. with_nodes s c at xs (nodes ++ n ∷ []) >>= λ more. with_nodes s c at ys more)
    (λ n. nodes_append s c at xs ys (nodes ++ n ∷ []))
    ∙ sym (joined (node_of s c at x) (λ n. with_nodes s c at xs (nodes ++ n ∷ [])) (λ more. with_nodes s c at ys more))

-- where those of the first are known, those of the second are left
pub next_nodes : (s : Side) (c : Catalog) (at : ℕ) (xs ys : List Ref) (nodes more : List ℕ) → with_nodes s c at xs nodes ≡ Ok more
    → with_nodes s c at (xs ++ ys) nodes ≡ with_nodes s c at ys more
next_nodes s c at xs ys nodes more h = nodes_append s c at xs ys nodes ∙ ap (λ m. m >>= λ more. with_nodes s c at ys more) h

-- a refusal of the first is one of both
pub nodes_end : (s : Side) (c : Catalog) (at : ℕ) (xs ys : List Ref) (nodes : List ℕ) (e : Fault) → Refuses (with_nodes s c at xs nodes) e
    → Refuses (with_nodes s c at (xs ++ ys) nodes) e
nodes_end s c at xs ys nodes (fault.Refused r) h = nodes_append s c at xs ys nodes ∙ ap (λ m. m >>= λ more. with_nodes s c at ys more) h
nodes_end s c at xs ys nodes (fault.Memory m) h = tt

-- ---- relations

-- relations in two parts give the links of one and then of the other
pub links_append : (c : Catalog) (xs ys : List Relation) (links : List Link)
    → with_links c (xs ++ ys) links ≡ with_links c xs links >>= λ more. with_links c ys more
links_append c [] ys links = refl
links_append c (x ∷ xs) ys links =
    bound (with_link c x links) (λ more. with_links c (xs ++ ys) more) (λ more. with_links c xs more >>= λ rest. with_links c ys rest)
    (λ more. links_append c xs ys more)
    ∙ sym (joined (with_link c x links) (λ more. with_links c xs more) (λ rest. with_links c ys rest))

-- where those of the first are known, those of the second are left
pub next_links : (c : Catalog) (xs ys : List Relation) (links more : List Link) → with_links c xs links ≡ Ok more
    → with_links c (xs ++ ys) links ≡ with_links c ys more
next_links c xs ys links more h = links_append c xs ys links ∙ ap (λ m. m >>= λ rest. with_links c ys rest) h

-- a refusal of the first is one of both
pub links_end : (c : Catalog) (xs ys : List Relation) (links : List Link) (e : Fault) → Refuses (with_links c xs links) e
    → Refuses (with_links c (xs ++ ys) links) e
links_end c xs ys links (fault.Refused r) h = links_append c xs ys links ∙ ap (λ m. m >>= λ rest. with_links c ys rest) h
links_end c xs ys links (fault.Memory m) h = tt

-- ---- a loop over what each says

module _ {X Q N : Type 0} (run : List Q → N → Result N Refusal) (F : X → List Q) where
  -- a turn that does one item leaves those behind it
  pub loop_more : ((xs ys : List Q) (n m : N) → run xs n ≡ Ok m → run (xs ++ ys) n ≡ run ys m)
      → (items : List X) (i : ℕ) (x : X) (n m : N) (w : Result N Refusal) → i < length items → x ≡ get_or items i x
      → run (flat_map F (drop i items)) n ≡ w → run (F x) n ≡ Ok m → run (flat_map F (drop (i + 1) items)) m ≡ w
  loop_more next items i x n m w h is before here =
      let at : drop i items ≡ x ∷ drop (i + 1) items = drop_more items i x h ∙ ap (λ y. y ∷ drop (i + 1) items) (sym is) in
      sym (next (F x) (flat_map F (drop (i + 1) items)) n m here) ∙ sym (ap (λ ys. run (flat_map F ys) n) at) ∙ before

  -- a refusal of one item is one of all that was left
  pub loop_stop : ((xs ys : List Q) (n : N) (e : Fault) → Refuses (run xs n) e → Refuses (run (xs ++ ys) n) e)
      → (items : List X) (i : ℕ) (x : X) (n : N) (w : Result N Refusal) (e : Fault) → i < length items → x ≡ get_or items i x
      → run (flat_map F (drop i items)) n ≡ w → Refuses (run (F x) n) e → Refuses w e
  loop_stop stop items i x n w e h is before here =
      let at : drop i items ≡ x ∷ drop (i + 1) items = drop_more items i x h ∙ ap (λ y. y ∷ drop (i + 1) items) (sym is) in
      subst (λ v. Refuses v e) (sym (ap (λ ys. run (flat_map F ys) n) at) ∙ before) (stop (F x) (flat_map F (drop (i + 1) items)) n e here)
