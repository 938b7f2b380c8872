-- Resources keep their sort, their holder and their reference, and their place; so what holds them stays a container.
use Rattle.std.proofs.Common.{◌≡◌, ◌⊎◌, inl, inr, ℕ, zero, suc, ◌+◌, Bool, true, false, cond, List, [], ◌∷◌, ◌++◌, map, Option, Some, None, Ok}
use Rattle.std.proofs.lemmas.Bool.{and_parts}
use Rattle.std.proofs.Common.{refl, sym, ap, ap₂, subst, ◌∙◌, append_assoc, arith}
use Rattle.std.specs.Prelude.{◌&&◌, IfSome, slice_get}
use Rattle.std.specs.List.{AllByRecursion}
use Rattle.std.proofs.lemmas.List.{append-nil}
use Rattle.std.proofs.lemmas.Slice.Eq.{bytes_eq-Decides}
use Rattle.std.specs.Str.{bytes_eq}
use Rattle.host_limits.specs.declared.limits.Limits.{Limits}
use Rattle.pp_syntax.specs.declared.tree.Manifest.{Manifest}
use Rattle.pp_value.specs.declared.value.Ref.{Ref}
use Rattle.pp_value.specs.declared.value.Value.{Value}
use Rattle.pp_value.specs.Values.{same_ref}
use Rattle.pp_eval.specs.Evaluating.{◌>>=◌}
use Rattle.pp_eval.specs.Scoping.{pairs_in}
use Rattle.pp_data.specs.declared.data.Level.{Level}
use Rattle.catalog_semantics.specs.declared.catalog.Sort.{Sort}
use Rattle.catalog_semantics.specs.declared.catalog.Resource.{Resource}
use Rattle.catalog_semantics.specs.declared.state.Default.{Default}
use Rattle.catalog_semantics.specs.declared.state.Holding.{Holding}
use Rattle.catalog_semantics.specs.declared.state.State.{State}
use Rattle.catalog_semantics.specs.Sites.{site_of}
use Rattle.catalog_semantics.specs.States.{with_defaults, as_added, is_class, with_resource, is_new, has_room, within_size, references_of, place_from, place_of}
use Rattle.catalog_semantics.specs.Declaring.{class_ref, entering, begun, ended}
use Rattle.catalog_semantics.specs.Catalogs.{is_plain_sort, filled_behind, first_state, is_called_for, made_real, state_after, round_limit, all_there, few_enough, Catalog, catalog_in, catalog_of}
use Rattle.catalog_semantics.specs.Frames.{Each, IsContainerAt}
use Rattle.catalog_semantics.proofs.Keeping.{step_each, then_each, bound_each}
use Rattle.catalog_semantics.proofs.Whole.{IsWholeFrame, whole_keeps, few_is}
use Rattle.catalog_laws.specs.Containers.{AreHeld, IsClassAt, HoldClasses}
use Rattle.rh_base.proofs.Lists.{all_last}

-- ---- what a resource keeps

-- what never changes of a resource: its sort, its holder and its reference
record Skeleton : Type 0 where
  sort : Sort
  holder : Option ℕ
  id : Ref

-- that of a resource
abbrev skeleton : Resource → Skeleton
skeleton r = record { sort = r.sort; holder = r.holder; id = r.id }

-- those of all
abbrev skeletons : List Resource → List Skeleton
skeletons resources = map skeleton resources

-- a class or a defined resource stands at the place
abbrev ContainerAt : List Skeleton → ℕ → Type 0
ContainerAt ks place = (k : Skeleton) × (slice_get ks place ≡ Some k) × (is_plain_sort k.sort ≡ false)

-- a class stands at the place
abbrev ClassAt : List Skeleton → ℕ → Type 0
ClassAt ks place = (k : Skeleton) × (name : List ℕ) × (slice_get ks place ≡ Some k) × (k.id ≡ class_ref name)

-- what holds it, if anything does, is a container
abbrev HasHolder : List Skeleton → Skeleton → Type 0
HasHolder ks k = IfSome k.holder (ContainerAt ks)

-- the holding puts a class into a container
abbrev HasClass : List Skeleton → Holding → Type 0
HasClass ks h = ContainerAt ks h.outer × ClassAt ks h.class

-- what runs is a container, and what holds
record Held (running : Option ℕ) (ks : List Skeleton) (holdings : List Holding) : Type 0 where
  runs : IfSome running (ContainerAt ks)
  holders : AllByRecursion (HasHolder ks) ks
  classes : AllByRecursion (HasClass ks) holdings

-- ---- more resources behind

-- what stands at a place stands there with more behind
got_in_front : {A : Type 0} (xs ys : List A) (i : ℕ) (x : A) → slice_get xs i ≡ Some x → slice_get (xs ++ ys) i ≡ Some x
got_in_front [] ys i x h = cc
got_in_front (y ∷ xs) ys zero x h = h
got_in_front (y ∷ xs) ys (suc i) x h = got_in_front xs ys i x h

-- so does a container
container_stays : (ks more : List Skeleton) (place : ℕ) → ContainerAt ks place → ContainerAt (ks ++ more) place
container_stays ks more place c = (c.0, got_in_front ks more place c.0 c.1, c.2)

-- so does a class
class_stays : (ks more : List Skeleton) (place : ℕ) → ClassAt ks place → ClassAt (ks ++ more) place
class_stays ks more place c = (c.0, c.1, got_in_front ks more place c.0 c.2, c.3)

-- and a container, if there is one
some_stays : (ks more : List Skeleton) (o : Option ℕ) → IfSome o (ContainerAt ks) → IfSome o (ContainerAt (ks ++ more))
some_stays ks more None c = tt
some_stays ks more (Some place) c = container_stays ks more place c

-- what follows for each holds of all
each_under : {A : Type 0} (P Q : A → Type 0) (xs : List A) → ((x : A) → P x → Q x) → AllByRecursion P xs → AllByRecursion Q xs
each_under P Q [] f h = tt
each_under P Q (x ∷ xs) f h = (f x h.0, each_under P Q xs f h.1)

-- one more resource is one more skeleton
map_more : (xs : List Resource) (y : Resource) → skeletons (xs ++ y ∷ []) ≡ skeletons xs ++ skeleton y ∷ []
map_more [] y = refl
map_more (x ∷ xs) y = ap (λ ks. skeleton x ∷ ks) (map_more xs y)

-- two lists of resources are two lists of skeletons
map_both : (xs ys : List Resource) → skeletons (xs ++ ys) ≡ skeletons xs ++ skeletons ys
map_both [] ys = refl
map_both (x ∷ xs) ys = ap (λ ks. skeleton x ∷ ks) (map_both xs ys)

-- one more resource that nothing holds, or what runs, keeps what holds a container
held_more : (running : Option ℕ) (ks : List Skeleton) (holdings : List Holding) (k : Skeleton) → Held running ks holdings → (k.holder ≡ None) ⊎ (k.holder ≡ running)
    → Held running (ks ++ k ∷ []) holdings
held_more running ks holdings k h holder = record {
  runs = some_stays ks (k ∷ []) running h.runs;
  holders = all_last (HasHolder (ks ++ k ∷ [])) ks k
      (each_under (HasHolder ks) (HasHolder (ks ++ k ∷ [])) ks (λ q c. some_stays ks (k ∷ []) q.holder c) h.holders) (last holder);
  classes = each_under (HasClass ks) (HasClass (ks ++ k ∷ [])) holdings (λ q c. (container_stays ks (k ∷ []) q.outer c.0, class_stays ks (k ∷ []) q.class c.1)) h.classes;
}
  where
    last : (k.holder ≡ None) ⊎ (k.holder ≡ running) → HasHolder (ks ++ k ∷ []) k
    last (inl none) = subst (λ o. IfSome o (ContainerAt (ks ++ k ∷ []))) (sym none) tt
    last (inr now) = subst (λ o. IfSome o (ContainerAt (ks ++ k ∷ []))) (sym now) (some_stays ks (k ∷ []) running h.runs)

-- ---- what defaults and realizations leave

-- one of two resources of one skeleton has it
skeleton_by : (b : Bool) (r q : Resource) → skeleton q ≡ skeleton r → skeleton (cond b r q) ≡ skeleton r
skeleton_by true r q h = refl
skeleton_by false r q h = h

-- defaults leave the skeleton
filled_skeleton : (defaults : List Default) (r : Resource) → skeleton (with_defaults defaults r) ≡ skeleton r
filled_skeleton defaults r = skeleton_by (is_class r) r _ refl

-- so does adding
added_skeleton : (s : State) (r : Resource) → skeleton (as_added s r) ≡ skeleton r
added_skeleton s r = either s.main_has_ended
  where
    either : (b : Bool) → skeleton (cond b (with_defaults s.defaults r) r) ≡ skeleton r
    either true = filled_skeleton s.defaults r
    either false = refl

-- so does making real
real_skeleton : (s : State) (r : Resource) → skeleton (made_real s r) ≡ skeleton r
real_skeleton s r = either (is_called_for s r)
  where
    either : (b : Bool) → skeleton (cond b (record r { is_virtual = false }) r) ≡ skeleton r
    either true = refl
    either false = refl

-- and of all
real_skeletons : (s : State) (resources : List Resource) → skeletons (map (made_real s) resources) ≡ skeletons resources
real_skeletons s [] = refl
real_skeletons s (r ∷ resources) = ap₂ (λ k ks. k ∷ ks) (real_skeleton s r) (real_skeletons s resources)

-- ---- states

-- Resources were added behind; what runs is as before; and what holds stays a container.
record Holds (s t : State) : Type 0 where
  more : List Skeleton
  grown : skeletons t.resources ≡ skeletons s.resources ++ more
  running : t.running ≡ s.running
  held : Held s.running (skeletons s.resources) s.holdings → Held t.running (skeletons t.resources) t.holdings

-- the same resources and holdings
alike : (s t : State) → skeletons t.resources ≡ skeletons s.resources → t.running ≡ s.running → t.holdings ≡ s.holdings → Holds s t
alike s t same running holdings = record {
  more = [];
  grown = same ∙ sym (append-nil (skeletons s.resources));
  running = running;
  held = λ h. subst (λ o. Held o (skeletons t.resources) t.holdings) (sym running)
      (subst (λ hs. Held s.running (skeletons t.resources) hs) (sym holdings) (subst (λ ks. Held s.running ks s.holdings) (sym same) h));
}

-- what is kept from one state to the next is kept over both
joined : (s t u : State) → Holds s t → Holds t u → Holds s u
joined s t u h k = record {
  more = h.more ++ k.more;
  grown = k.grown ∙ ap (λ ks. ks ++ k.more) h.grown ∙ append_assoc (skeletons s.resources) h.more k.more;
  running = k.running ∙ h.running;
  held = λ x. k.held (h.held x);
}

-- a resource that is added keeps what holds a container
adds : (r : Resource) (s : State) → (r.holder ≡ None) ⊎ (r.holder ≡ s.running) → Holds s (with_resource s (as_added s r))
adds r s holder = record {
  more = skeleton (as_added s r) ∷ [];
  grown = map_more s.resources (as_added s r);
  running = refl;
  held = λ h. subst (λ ks. Held s.running ks s.holdings) (sym (map_more s.resources (as_added s r)))
      (held_more s.running (skeletons s.resources) s.holdings (skeleton (as_added s r)) h (by holder));
}
  where
    same : (as_added s r).holder ≡ r.holder
    same = ap (λ (k : Skeleton). k.holder) (added_skeleton s r)

    by : (r.holder ≡ None) ⊎ (r.holder ≡ s.running) → ((as_added s r).holder ≡ None) ⊎ ((as_added s r).holder ≡ s.running)
    by (inl none) = inl (same ∙ none)
    by (inr now) = inr (same ∙ now)

-- the skeleton at a place is that of the resource there
of_resources : (resources : List Resource) (place : ℕ) (r : Resource) → slice_get resources place ≡ Some r → slice_get (skeletons resources) place ≡ Some (skeleton r)
of_resources [] place r h = cc
of_resources (q ∷ resources) zero r h = let same : ◌≡◌ {A = Resource} q r = cc in ap (λ (x : Resource). Some (skeleton x)) same
of_resources (q ∷ resources) (suc place) r h = of_resources resources place r h

-- a body that runs keeps what holds a container
bodies : (place : ℕ) (s t u : State) → IsContainerAt place s.resources → Holds s t → Holds (begun place t) u → Holds s (ended s u)
bodies place s t u at h k = record {
  more = h.more ++ k.more;
  grown = k.grown ∙ ap (λ ks. ks ++ k.more) h.grown ∙ append_assoc (skeletons s.resources) h.more k.more;
  running = refl;
  held = λ x.
      let a = h.held x in
      let stands : ContainerAt (skeletons t.resources) place = subst (λ ks. ContainerAt ks place) (sym h.grown)
      (container_stays (skeletons s.resources) h.more place (skeleton at.0, of_resources s.resources place at.0 at.1.0, at.1.1)) in
      let b = k.held (record { runs = stands; holders = a.holders; classes = a.classes }) in
      let whole = k.grown ∙ ap (λ ks. ks ++ k.more) h.grown ∙ append_assoc (skeletons s.resources) h.more k.more in
      record {
        runs = subst (λ ks. IfSome s.running (ContainerAt ks)) (sym whole) (some_stays (skeletons s.resources) (h.more ++ k.more) s.running x.runs);
        holders = b.holders;
        classes = b.classes;
      };
}

-- ---- the place of a class

-- references that are told to be the same are
same_is : (q r : Ref) → same_ref q r ≡ true → q ≡ r
same_is q r h =
    let both = and_parts (bytes_eq q.kind r.kind) (bytes_eq q.title r.title) h in
    ap₂ (λ k t. record { kind = k; title = t }) ((bytes_eq-Decides q.kind r.kind).0 both.0) ((bytes_eq-Decides q.title r.title).0 both.1)

-- the reference stands at this place, which is counted from n on
abbrev FoundAt : ℕ → Ref → List Resource → ℕ → Type 0
FoundAt n ref resources place = (i : ℕ) × (place ≡ n + i) × (r : Resource) × (slice_get resources i ≡ Some r) × (r.id ≡ ref)

-- what stands among the others stands in all
found_later : (n : ℕ) (ref : Ref) (q : Resource) (resources : List Resource) (place : ℕ) → FoundAt (n + 1) ref resources place → FoundAt n ref (q ∷ resources) place
found_later n ref q resources place h = (suc h.0, omega (arith, h.1), h.2, h.3, h.4)

-- what is found at the first or further on stands there
found_by : (b : Bool) (n : ℕ) (ref : Ref) (q : Resource) (resources : List Resource) (place : ℕ) → same_ref q.id ref ≡ b
    → (place_from (n + 1) ref (references_of resources) ≡ Some place → FoundAt (n + 1) ref resources place)
    → cond b (Some n) (place_from (n + 1) ref (references_of resources)) ≡ Some place → FoundAt n ref (q ∷ resources) place
found_by true n ref q resources place is later h = let same : n ≡ place = cc in (0, omega (arith, same), q, refl, same_is q.id ref is)
found_by false n ref q resources place is later h = found_later n ref q resources place (later h)

-- where a reference is found, it stands
found_at : (n : ℕ) (ref : Ref) (resources : List Resource) (place : ℕ) → place_from n ref (references_of resources) ≡ Some place → FoundAt n ref resources place
found_at n ref [] place h = cc
found_at n ref (q ∷ resources) place h = found_by (same_ref q.id ref) n ref q resources place refl (found_at (n + 1) ref resources place) h

-- where a class is found, it stands
class_found : (name : List ℕ) (resources : List Resource) (place : ℕ) → place_of (class_ref name) resources ≡ Some place → ClassAt (skeletons resources) place
class_found name resources place h =
    let found = found_at 0 (class_ref name) resources place h in
    let same : place ≡ found.0 = omega (arith, found.1) in
    subst (ClassAt (skeletons resources)) (sym same) (skeleton found.2, name, of_resources resources found.0 found.2 found.3, found.4)

-- a class that is put into the container that runs keeps what holds a container
holds : (name : List ℕ) (outer class : ℕ) (s : State) → s.running ≡ Some outer → place_of (class_ref name) s.resources ≡ Some class
    → Held s.running (skeletons s.resources) s.holdings → Held s.running (skeletons s.resources) (s.holdings ++ record { outer = outer; class = class } ∷ [])
holds name outer class s is at h = record {
  runs = h.runs;
  holders = h.holders;
  classes = all_last (HasClass (skeletons s.resources)) s.holdings (record { outer = outer; class = class }) h.classes
      (subst (λ o. IfSome o (ContainerAt (skeletons s.resources))) is h.runs, class_found name s.resources class at);
}

-- ---- defaults take hold

-- defaults that take hold leave the skeletons
fills : (defaults : List Default) (done resources all : List Resource) → skeletons (done ++ resources) ≡ skeletons all
    → Each (λ found. skeletons found ≡ skeletons all) (filled_behind defaults done resources)
fills defaults done [] all same = ap skeletons (sym (append-nil done)) ∙ same
fills defaults done (r ∷ rest) all same =
    step_each (λ found. skeletons found ≡ skeletons all) (within_size r.at (done ++ with_defaults defaults r ∷ rest)) _ (λ fits.
    fills defaults (done ++ with_defaults defaults r ∷ []) rest all (again ∙ same))
  where
    again : skeletons ((done ++ with_defaults defaults r ∷ []) ++ rest) ≡ skeletons (done ++ r ∷ rest)
    again =
        ap skeletons (append_assoc done (with_defaults defaults r ∷ []) rest) ∙ map_both done (with_defaults defaults r ∷ rest)
        ∙ ap (λ k. skeletons done ++ k ∷ skeletons rest) (filled_skeleton defaults r) ∙ sym (map_both done (r ∷ rest))

-- ---- a whole manifest

-- the main code and the rounds keep what holds a container
whole_holds : IsWholeFrame Holds
whole_holds = record {
  main = record {
    frame = record {
      same = λ s. alike s s refl refl refl;
      joined = joined;
      binds = λ at name x s. bound_each (Holds s) at name x s (alike s _ refl refl refl);
      adds = λ r sound s holder. step_each (Holds s) (is_new r s) _ (λ new. step_each (Holds s) (has_room r s) _ (λ room.
          step_each (Holds s) (within_size r.at (s.resources ++ as_added s r ∷ [])) _ (λ fits. adds r s holder)));
      bodies = λ place scope s t u at h k. bodies place s t u at (joined s (entering scope s) t (alike s (entering scope s) refl refl refl) h) k;
      holds = λ name outer class s is at. record {
        more = [];
        grown = sym (append-nil (skeletons s.resources));
        running = refl;
        held = holds name outer class s is at;
      };
      ties = λ ties s. alike s _ refl refl refl;
      collects = λ c s. alike s _ refl refl refl;
      wants = λ more s. alike s _ refl refl refl;
    };
    gives = λ kind attributes s fit. alike s _ refl refl refl;
    enters = λ s. alike s _ refl refl refl;
    fills =
        λ s. then_each (λ found. skeletons found ≡ skeletons s.resources) (Holds s) (filled_behind s.defaults [] s.resources) _
        (fills s.defaults [] s.resources s.resources refl)
        (λ found same. alike s (record s { main_has_ended = true; resources = found }) same refl refl);
  };
  realizes = λ s. alike s _ (real_skeletons s s.resources) refl refl;
  marks = λ place s. alike s _ refl refl refl;
}

-- ---- from what a resource keeps to the resource

-- a skeleton at a place is that of a resource there
resource_at : (resources : List Resource) (place : ℕ) (k : Skeleton) → slice_get (skeletons resources) place ≡ Some k → (r : Resource) × (slice_get resources place ≡ Some r) × (skeleton r ≡ k)
resource_at [] place k h = cc
resource_at (q ∷ resources) zero k h = let same : ◌≡◌ {A = Skeleton} (skeleton q) k = cc in (q, refl, same)
resource_at (q ∷ resources) (suc place) k h = resource_at resources place k h

-- a container by the skeletons is one
container_is : (resources : List Resource) (place : ℕ) → ContainerAt (skeletons resources) place → IsContainerAt place resources
container_is resources place c =
    let r = resource_at resources place c.0 c.1 in
    (r.0, (r.1, ap (λ (k : Skeleton). is_plain_sort k.sort) r.2 ∙ c.2))

-- and so is a class
class_is : (resources : List Resource) (place : ℕ) → ClassAt (skeletons resources) place → IsClassAt place resources
class_is resources place c =
    let r = resource_at resources place c.0 c.2 in
    (r.0, c.1, r.1, ap (λ (k : Skeleton). k.id) r.2 ∙ c.3)

-- and a container, if there is one
some_is : (resources : List Resource) (o : Option ℕ) → IfSome o (ContainerAt (skeletons resources)) → IfSome o (λ place. IsContainerAt place resources)
some_is resources None c = tt
some_is resources (Some place) c = container_is resources place c

-- so it is of what holds each resource
each_is : (all resources : List Resource) → AllByRecursion (HasHolder (skeletons all)) (skeletons resources)
    → AllByRecursion (λ (r : Resource). IfSome r.holder (λ place. IsContainerAt place all)) resources
each_is all [] h = tt
each_is all (r ∷ resources) h = (some_is all r.holder h.0, each_is all resources h.1)

-- what holds resources and classes are containers
abbrev CatalogHeld : Catalog → Type 0
CatalogHeld c = AreHeld c.resources × HoldClasses c.resources c.holdings

-- so it is of the catalog of a state in which it is
catalog_is : (t : State) → Held t.running (skeletons t.resources) t.holdings → CatalogHeld (catalog_in t)
catalog_is t h = (
  each_is t.resources t.resources h.holders,
  each_under (HasClass (skeletons t.resources)) (λ (q : Holding). IsContainerAt q.outer t.resources × IsClassAt q.class t.resources) t.holdings
      (λ q c. (container_is t.resources q.outer c.0, class_is t.resources q.class c.1)) h.classes,
)

-- and of that of a state after the rounds
ends_held : (t : State) → Held t.running (skeletons t.resources) t.holdings → Each CatalogHeld (all_there t.pending t >>= λ there. few_enough t >>= λ u. Ok (catalog_in u))
ends_held t h = step_each CatalogHeld (all_there t.pending t) _ (λ there.
    then_each (λ (u : State). u ≡ t) CatalogHeld (few_enough t) _ (few_is t)
    (λ u e. subst (λ (w : State). CatalogHeld (catalog_in w)) (sym e) (catalog_is t h)))

-- what holds resources and classes in a manifest's catalog are containers
pub catalog_held : (m : Manifest) (facts : Value) (node_name : List ℕ) (data_levels : List Level) (limits : Limits) (c : Catalog)
    → catalog_of m facts node_name data_levels limits ≡ Ok c → CatalogHeld c
catalog_held m facts node_name data_levels limits c h =
    subst (Each CatalogHeld) h (step_each CatalogHeld (site_of m data_levels (pairs_in facts) node_name) _ (λ site.
    then_each (Holds (first_state facts limits)) CatalogHeld (state_after (round_limit limits) site m.items facts limits) _
    (whole_keeps Holds whole_holds site m.items (round_limit limits) (first_state facts limits))
    (λ t k. ends_held t (k.held (record { runs = tt; holders = tt; classes = tt })))))
