-- The resources of a catalog are sound.
use Rattle.std.proofs.Common.{◌≡◌, ℕ, Bool, true, false, cond, List, [], ◌∷◌, ◌++◌, map, Result, Ok, Err, refl, ap, sym, ◌∙◌, subst, append_assoc}
use Rattle.std.specs.Prelude.{filter}
use Rattle.std.specs.List.{AllByRecursion}
use Rattle.std.specs.Str.{bytes_eq}
use Rattle.rh_base.specs.declared.fault.Refusal.{Refusal}
use Rattle.host_limits.specs.declared.limits.Limits.{Limits}
use Rattle.pp_syntax.specs.declared.tree.Manifest.{Manifest}
use Rattle.pp_value.specs.declared.value.Value.{Value}
use Rattle.pp_value.specs.Values.{Pair, HasDistinctKeys}
use Rattle.pp_eval.specs.Evaluating.{◌>>=◌}
use Rattle.pp_eval.specs.Scoping.{pairs_in}
use Rattle.pp_data.specs.declared.data.Level.{Level}
use Rattle.catalog_semantics.specs.declared.catalog.Resource.{Resource}
use Rattle.catalog_semantics.specs.Sites.{site_of}
use Rattle.catalog_semantics.specs.States.{State, Default, defaults_of, lacks, is_class, with_defaults, as_added, is_new, has_room}
use Rattle.catalog_semantics.specs.States.{within_size, added}
use Rattle.catalog_semantics.specs.Attributes.{names_of, AreClean, AreDistinct}
use Rattle.catalog_semantics.proofs.DistinctNames.{distinct_behind, distinct_filled}
use Rattle.std.proofs.lemmas.List.{append-nil}
use Rattle.std.proofs.lemmas.Slice.Eq.{bytes_eq-Decides}
use Rattle.catalog_semantics.specs.Catalogs.{filled_behind, first_state, is_called_for, made_real, state_after, round_limit}
use Rattle.catalog_semantics.specs.Catalogs.{all_there, few_enough, Catalog, catalog_in, catalog_of}
use Rattle.catalog_semantics.specs.Frames.{Each, IsSound, AreSound}
use Rattle.catalog_semantics.proofs.Keeping.{Keeps, step_each, then_each, bound_each}
use Rattle.catalog_semantics.proofs.Clean.{both_clean}
use Rattle.catalog_semantics.proofs.Whole.{IsWholeFrame, whole_keeps, few_is}
use Rattle.rh_base.proofs.Lists.{all_last}

-- the defaults are clean, and no name stands twice among those of a type
pub record SoundDefaults (defaults : List Default) : Type 0 where
  pub clean : AllByRecursion (λ (d : Default). AreClean d.attributes) defaults
  pub named : (kind : List ℕ) → HasDistinctKeys (defaults_of kind defaults)

-- the resources are sound, and the defaults
pub record SoundState (s : State) : Type 0 where
  pub resources : AreSound s.resources
  pub defaults : SoundDefaults s.defaults

-- where the one is sound, so is the other
abbrev StaySound : State → State → Type 0
StaySound s t = SoundState s → SoundState t

-- one of two lists of clean attributes is clean
if_clean : (b : Bool) (xs ys : List Pair) → AreClean xs → AreClean ys → AreClean (cond b xs ys)
if_clean true xs ys h k = h
if_clean false xs ys h k = k

-- the defaults of a type are clean
defaults_clean : (kind : List ℕ) (defaults : List Default) → AllByRecursion (λ (d : Default). AreClean d.attributes) defaults
    → AreClean (defaults_of kind defaults)
defaults_clean kind [] h = tt
defaults_clean kind (d ∷ defaults) h =
    if_clean (bytes_eq d.kind kind) _ _ (both_clean d.attributes (defaults_of kind defaults) h.0 (defaults_clean kind defaults h.1))
    (defaults_clean kind defaults h.1)

-- clean attributes of which some are left out are clean
filter_clean : (test : Pair → Bool) (xs : List Pair) → AreClean xs → AreClean (filter test xs)
filter_clean test [] h = tt
filter_clean test (x ∷ xs) h =
    if_clean (test x) (x ∷ filter test xs) (filter test xs) (h.0, filter_clean test xs h.1) (filter_clean test xs h.1)

-- one of two sound resources is sound
if_sound : (b : Bool) (x y : Resource) → IsSound x → IsSound y → IsSound (cond b x y)
if_sound true x y h k = h
if_sound false x y h k = k

-- a resource with its defaults is sound
filled_sound : (defaults : List Default) (r : Resource) → SoundDefaults defaults → IsSound r → IsSound (with_defaults defaults r)
filled_sound defaults r d h =
    if_sound (is_class r) r _ h (
      (
        both_clean r.attrs _ h.0.0 (filter_clean (lacks r.attrs) (defaults_of r.id.kind defaults) (defaults_clean r.id.kind defaults d.clean)),
        distinct_filled r.attrs (defaults_of r.id.kind defaults) h.0.1 (d.named r.id.kind),
      ),
      h.1,
    )

-- ---- one more default

-- one more default goes behind those of its type
behind : (kind : List ℕ) (defaults : List Default) (d : Default) → defaults_of kind (defaults ++ d ∷ []) ≡ defaults_of kind defaults ++ cond (bytes_eq d.kind kind) d.attributes []
behind kind [] d = by_test (bytes_eq d.kind kind)
  where
    by_test : (t : Bool) → cond t (d.attributes ++ []) [] ≡ cond t d.attributes []
    by_test true = append-nil d.attributes
    by_test false = refl
behind kind (e ∷ defaults) d = by_test (bytes_eq e.kind kind) (behind kind defaults d)
  where
    by_test : (t : Bool) → defaults_of kind (defaults ++ d ∷ []) ≡ defaults_of kind defaults ++ cond (bytes_eq d.kind kind) d.attributes []
        → cond t (e.attributes ++ defaults_of kind (defaults ++ d ∷ [])) (defaults_of kind (defaults ++ d ∷ [])) ≡ cond t (e.attributes ++ defaults_of kind defaults) (defaults_of kind defaults) ++ cond (bytes_eq d.kind kind) d.attributes []
    by_test true h = ap (λ (ps : List Pair). e.attributes ++ ps) h ∙ sym (append_assoc e.attributes (defaults_of kind defaults) (cond (bytes_eq d.kind kind) d.attributes []))
    by_test false h = h

-- defaults with one more have distinct names for each type, where the new ones are new
named_more : (kind : List ℕ) (attributes : List Pair) (defaults : List Default) → ((k : List ℕ) → HasDistinctKeys (defaults_of k defaults)) → AreDistinct (names_of (defaults_of kind defaults)) attributes
    → (k : List ℕ) → HasDistinctKeys (defaults_of k (defaults ++ record { kind = kind; attributes = attributes } ∷ []))
named_more kind attributes defaults named fit k =
    subst HasDistinctKeys (sym (behind k defaults (record { kind = kind; attributes = attributes }))) (by_test (bytes_eq kind k) refl)
  where
    by_test : (t : Bool) → bytes_eq kind k ≡ t → HasDistinctKeys (defaults_of k defaults ++ cond t attributes [])
    by_test true e =
        let same : kind ≡ k = (bytes_eq-Decides kind k).0 e in
        distinct_behind (defaults_of k defaults) attributes (named k) (subst (λ (w : List ℕ). AreDistinct (names_of (defaults_of w defaults)) attributes) same fit)
    by_test false e = subst HasDistinctKeys (sym (append-nil (defaults_of k defaults))) (named k)

-- a resource that is added keeps all sound
adds_sound : (r : Resource) → IsSound r → Keeps StaySound (added r)
adds_sound r sound s = step_each (StaySound s) (is_new r s) _ (λ new. step_each (StaySound s) (has_room r s) _ (λ room.
    step_each (StaySound s) (within_size r.at (s.resources ++ as_added s r ∷ [])) _ (λ fits h. record {
      resources =
          all_last IsSound s.resources (as_added s r) h.resources
          (if_sound s.main_has_ended (with_defaults s.defaults r) r (filled_sound s.defaults r h.defaults sound) sound);
      defaults = h.defaults;
    })))

-- so do defaults that take hold
fills_sound : (defaults : List Default) (done resources : List Resource) → SoundDefaults defaults
    → AreSound done → AreSound resources → Each AreSound (filled_behind defaults done resources)
fills_sound defaults done [] d h k = h
fills_sound defaults done (r ∷ resources) d h k =
    step_each AreSound (within_size r.at (done ++ with_defaults defaults r ∷ resources)) _ (λ fits.
    fills_sound defaults (done ++ with_defaults defaults r ∷ []) resources d
    (all_last IsSound done (with_defaults defaults r) h (filled_sound defaults r d k.0)) k.1)

-- what is so under a condition is given under it
under : {X : Type 0} (Q : X → Type 0) (A : Type 0) (x : Result X Refusal) → (A → Each Q x) → Each (λ t. A → Q t) x
under Q A (Ok t) h = h
under Q A (Err e) h = tt

-- resources that are made real stay sound
real_sound : (s : State) (resources : List Resource) → AreSound resources → AreSound (map (made_real s) resources)
real_sound s [] h = tt
real_sound s (r ∷ resources) h = (if_sound (is_called_for s r) (record r { is_virtual = false }) r h.0 h.0, real_sound s resources h.1)

-- the main code and the rounds keep all sound
whole_sound : IsWholeFrame StaySound
whole_sound = record {
  main = record {
    frame = record {
      same = λ s h. h;
      joined = λ s t u h k x. k (h x);
      binds = λ at name x s. bound_each (StaySound s) at name x s (λ h. record { resources = h.resources; defaults = h.defaults });
      adds = λ r sound s holder. adds_sound r sound s;
      bodies =
          λ place scope s t u at h k x. let a = h (record { resources = x.resources; defaults = x.defaults }) in
          let b = k (record { resources = a.resources; defaults = a.defaults }) in
          record { resources = b.resources; defaults = b.defaults };
      holds = λ name outer class s is at h. record { resources = h.resources; defaults = h.defaults };
      ties = λ ties s h. record { resources = h.resources; defaults = h.defaults };
      collects = λ c s h. record { resources = h.resources; defaults = h.defaults };
      wants = λ more s h. record { resources = h.resources; defaults = h.defaults };
    };
    gives =
        λ kind attributes s fit h. record {
          resources = h.resources;
          defaults = record {
            clean = all_last (λ (d : Default). AreClean d.attributes) s.defaults _ h.defaults.clean fit.0;
            named = named_more kind attributes s.defaults h.defaults.named fit.1;
          };
        };
    enters = λ s h. record { resources = h.resources; defaults = h.defaults };
    fills =
        λ s. then_each (λ (all : List Resource). SoundState s → AreSound all) (StaySound s) (filled_behind s.defaults [] s.resources) _
        (under AreSound (SoundState s) (filled_behind s.defaults [] s.resources) (λ h. fills_sound s.defaults [] s.resources h.defaults tt h.resources))
        (λ all sound h. record { resources = sound h; defaults = h.defaults });
  };
  realizes = λ s h. record { resources = real_sound s s.resources h.resources; defaults = h.defaults };
  marks = λ place s h. record { resources = h.resources; defaults = h.defaults };
}

-- the resources of the catalog are sound
abbrev CatalogSound : Catalog → Type 0
CatalogSound c = AreSound c.resources

-- a sound state gives a sound catalog
ends_sound : (t : State) → SoundState t → Each CatalogSound (all_there t.pending t >>= λ there. few_enough t >>= λ u. Ok (catalog_in u))
ends_sound t h = step_each CatalogSound (all_there t.pending t) _ (λ there.
    then_each (λ (u : State). u ≡ t) CatalogSound (few_enough t) _ (few_is t)
    (λ u e. subst (λ (w : State). AreSound w.resources) (sym e) h.resources))

-- the resources of a manifest's catalog are sound
pub catalog_sound : (m : Manifest) (facts : Value) (node_name : List ℕ) (data_levels : List Level) (limits : Limits) (c : Catalog)
    → catalog_of m facts node_name data_levels limits ≡ Ok c → AreSound c.resources
catalog_sound m facts node_name data_levels limits c h =
    subst (Each CatalogSound) h (step_each CatalogSound (site_of m data_levels (pairs_in facts) node_name) _ (λ site.
    then_each (StaySound (first_state facts limits)) CatalogSound (state_after (round_limit limits) site m.items facts limits) _
    (whole_keeps StaySound whole_sound site m.items (round_limit limits) (first_state facts limits))
    (λ t k. ends_sound t (k (record { resources = tt; defaults = record { clean = tt; named = λ kind. tt } })))))
