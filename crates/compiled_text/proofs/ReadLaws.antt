-- What is read one after the other, and what is kept of it.
use Rattle.std.proofs.Common.{◌≡◌, ℕ, ◌+◌, ◌<◌, Bool, true, List, [], ◌∷◌, ◌++◌, length, get_or, drop, map, suc, append_assoc, add-one, Option, Some, None, option_map, refl, sym, ap, subst, subst₂, ◌∙◌}
use Rattle.std.specs.List.{AllByRecursion}
use Rattle.std.proofs.Math.Seq.{drop-cons}
use Rattle.serde_json.specs.Data.{Items}
use Rattle.serde_json.specs.declared.value.Value.{Value}
use Rattle.serde_json.specs.View.{view, items_view}
use Rattle.rh_base.specs.Reading.{◌>>=◌}
use Rattle.pp_value.specs.declared.value.Ref.{Ref}
use Rattle.compiled_text.specs.declared.catalog.CompiledResource.{CompiledResource}
use Rattle.compiled_text.specs.declared.catalog.Containment.{Containment}
use Rattle.compiled_text.specs.Compiled.{ids_of, counts_as, IsContainment, IsProperResource, IsKept}
use Rattle.compiled_text.specs.Reading.{resource_of, resources_of, edges_of, are_new, if_new, are_free, compiled_with, AreHolders}
use Rattle.compiled_text.proofs.RefLaws.{new_where}
use Rattle.compiled_text.proofs.HolderLaws.{once_where}
use Rattle.compiled_text.proofs.FormLaws.{edges_within}
use Rattle.rh_base.proofs.Lists.{all_last}
use Rattle.rh_base.proofs.Options.{if_some}
use Rattle.std.proofs.lemmas.Option.{same_Some}

-- ---- resources

-- these resources were read, and these values are left of what gives the whole
abbrev pub AreRead : List CompiledResource → List Value → Option (List CompiledResource) → Type 0
AreRead resources left whole = (option_map (λ more. resources ++ more) (resources_of (items_view left)) ≡ whole) × AllByRecursion IsProperResource resources

-- one more resource is one less to read
by_more : (o : Option (List CompiledResource)) (resources : List CompiledResource) (r : CompiledResource)
    → option_map (λ more. (resources ++ r ∷ []) ++ more) o ≡ option_map (λ more. resources ++ more) (option_map (λ more. r ∷ more) o)
by_more None resources r = refl
by_more (Some more) resources r = ap (λ (rs : List CompiledResource). Some rs) (append_assoc resources (r ∷ []) more)

-- so it is of what was read and what is left
one_more : (resources : List CompiledResource) (v : Value) (left : List Value) (r : CompiledResource) (whole : Option (List CompiledResource)) → resource_of (view v) ≡ Some r → IsProperResource r
    → AreRead resources (v ∷ left) whole → AreRead (resources ++ r ∷ []) left whole
one_more resources v left r whole is proper h = (
  by_more (resources_of (items_view left)) resources r
      ∙ (ap (λ o. option_map (λ more. resources ++ more) (o >>= (λ q. option_map (λ rs. q ∷ rs) (resources_of (items_view left))))) (sym is) ∙ h.0),
  all_last IsProperResource resources r h.1 proper,
)

-- so it is of the resource at a place
pub next_resource : (resources new : List CompiledResource) (values : List Value) (i : ℕ) (v : Value) (r : CompiledResource) (whole : Option (List CompiledResource)) → i < length values → v ≡ get_or values i v
    → resource_of (view v) ≡ Some r → IsProperResource r → new ≡ resources ++ r ∷ [] → AreRead resources (drop i values) whole → AreRead new (drop (i + 1) values) whole
next_resource resources new values i v r whole within at is proper pushed h =
    let next : drop i values ≡ v ∷ drop (i + 1) values =
    drop-cons values i v within ∙ (ap (λ w. w ∷ drop (suc i) values) (sym at) ∙ ap (λ j. v ∷ drop j values) (sym (add-one i))) in
    subst (λ rs. AreRead rs (drop (i + 1) values) whole) (sym pushed) (one_more resources v (drop (i + 1) values) r whole is proper (subst (λ l. AreRead resources l whole) next h))

-- ---- edges

-- each edge leads to a resource
all_inner : (resources : List CompiledResource) (edges : List Containment) → AllByRecursion (IsContainment resources) edges → AllByRecursion (λ e. e.inner < length resources) edges
all_inner resources [] h = tt
all_inner resources (e ∷ edges) h = (h.0.resource, all_inner resources edges h.1)

-- so do the edges that were read
pub inner_stand : (resources first second : List CompiledResource) (edges third : List Containment) (items : Items) → edges_of first items ≡ Some edges → first ≡ resources → second ≡ resources → third ≡ edges
    → AllByRecursion (λ e. e.inner < length second) third
inner_stand resources first second edges third items read is was are =
    subst₂ (λ rs es. AllByRecursion (λ e. e.inner < length rs) es) (is ∙ sym was) (sym are) (all_inner first edges (edges_within first items edges read))

-- ---- what is kept

-- references that are answered as new differ
new_of : (ids refs : List Ref) → if_new ids ≡ Some refs → (are_new [] ids ≡ true) × (refs ≡ ids)
new_of ids refs h = let two = if_some (are_new [] ids) (Some ids) refs h in (two.0, sym (same_Some ids refs two.1))

-- references, edges and containers that were found are kept beside the compiled catalog
pub kept : (resources first second third fourth : List CompiledResource) (edges fifth : List Containment) (items : Items) (refs : List Ref) (apart : Bool) (holders : List (Option ℕ))
    → AllByRecursion IsProperResource resources → if_new (ids_of first) ≡ Some refs → first ≡ resources → apart ≡ are_new [] (map counts_as second) → apart ≡ true → second ≡ resources
    → edges_of third items ≡ Some edges → third ≡ resources → are_free fourth [] fifth ≡ true → AreHolders fourth fifth holders → fourth ≡ resources → fifth ≡ edges → IsKept refs holders (compiled_with resources edges)
kept resources first second third fourth edges fifth items refs apart holders proper new first_is told so second_is read third_is free are fourth_is fifth_is =
    let differ = new_of (ids_of first) refs new in record {
      sound = record {
        references = (new_where (ids_of resources)).0 (ap (λ rs. are_new [] (ids_of rs)) (sym first_is) ∙ differ.0);
        apart = (new_where (map counts_as resources)).0 (ap (λ rs. are_new [] (map counts_as rs)) (sym second_is) ∙ (sym told ∙ so));
        edges = subst (λ rs. AllByRecursion (IsContainment rs) edges) third_is (edges_within third items edges read);
        once = (once_where resources edges).0 (sym (λ i. are_free (fourth_is i) [] (fifth_is i)) ∙ free);
      };
      proper = proper;
      refs_are = differ.1 ∙ ap ids_of first_is;
      holders_are = subst₂ (λ rs es. AreHolders rs es holders) fourth_is fifth_is are;
    }
