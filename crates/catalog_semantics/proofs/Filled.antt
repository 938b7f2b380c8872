-- Defaults take hold in all resources, or the first for which there is no room is refused.
use Rattle.std.proofs.Common.{◌≡◌, ℕ, ◌<◌, ◌≤◌, Bool, true, false, cond, List, [], ◌∷◌, ◌++◌, map, Result, Ok, Err, refl, sym, ap, subst, ◌∙◌, arith, append_assoc}
use Rattle.std.specs.Prelude.{nat_lt, codes}
use Rattle.std.proofs.lemmas.List.{append-nil}
use Rattle.std.proofs.lemmas.Bool.{ltb-true, ltb-false}
use Rattle.rh_base.specs.declared.fault.Refusal.{Refusal}
use Rattle.pp_eval.specs.Evaluating.{◌>>=◌, refusal}
use Rattle.catalog_semantics.specs.declared.catalog.Resource.{Resource}
use Rattle.catalog_semantics.specs.declared.state.Default.{Default}
use Rattle.catalog_semantics.specs.States.{State, with_defaults, size_of_resources, attributes_limit}
use Rattle.catalog_semantics.specs.Filling.{IsFirstTooLarge}
use Rattle.catalog_semantics.specs.Catalogs.{filled_behind, main_ended}

-- equal results have equal states
same_state : (s t : State) → ◌≡◌ {A = Result State Refusal} (Ok s) (Ok t) → t ≡ s
same_state s t h = cc

-- and equal lists
same_list : (x y : List Resource) → ◌≡◌ {A = Result (List Resource) Refusal} (Ok x) (Ok y) → y ≡ x
same_list x y h = cc

module _ (defaults : List Default) where
  -- some resources with their defaults, one that has them now, and the others
  abbrev here : List Resource → Resource → List Resource → List Resource
  here done r resources = done ++ with_defaults defaults r ∷ resources

  -- one more resource has its defaults
  abbrev next : List Resource → Resource → List Resource
  next done r = done ++ with_defaults defaults r ∷ []

  -- ---- all

  -- these are the first ones, and the others with their defaults
  abbrev AllFilled : List Resource → List Resource → List Resource → Type 0
  AllFilled done resources all = all ≡ done ++ map (with_defaults defaults) resources

  -- where there is room for one, and the others have their defaults, all have
  by_room : (done : List Resource) (r : Resource) (resources all : List Resource) (b : Bool) → (filled_behind defaults (next done r) resources ≡ Ok all → AllFilled (next done r) resources all)
      → (cond b (Err (refusal 32 r.at (codes "attributes"))) (Ok (here done r resources)) >>= λ _. filled_behind defaults (next done r) resources) ≡ Ok all → AllFilled done (r ∷ resources) all
  by_room done r resources all true f h = cc
  by_room done r resources all false f h = f h ∙ append_assoc done (with_defaults defaults r ∷ []) (map (with_defaults defaults) resources)

  -- the resources that are found all have their defaults
  all_filled : (done resources all : List Resource) → filled_behind defaults done resources ≡ Ok all → AllFilled done resources all
  all_filled done [] all h = same_list done all h ∙ sym (append-nil done)
  all_filled done (r ∷ resources) all h = by_room done r resources all (nat_lt attributes_limit (size_of_resources (here done r resources))) (all_filled (next done r) resources all) h

  -- ---- the first for which there is no room

  -- so behind some that have their defaults
  record IsFirst (done resources : List Resource) (e : Refusal) : Type 0 where
    pub front : List Resource
    pub resource : Resource
    pub back : List Resource
    pub whole : resources ≡ front ++ resource ∷ back
    pub large : attributes_limit < size_of_resources (done ++ (map (with_defaults defaults) (front ++ resource ∷ []) ++ back))
    pub first : (before : List Resource) (r : Resource) (behind : List Resource) → front ≡ before ++ r ∷ behind
        → size_of_resources (done ++ (map (with_defaults defaults) (before ++ r ∷ []) ++ (behind ++ resource ∷ back))) ≤ attributes_limit
    pub is : e ≡ refusal 32 resource.at (codes "attributes")

  -- equal lists begin alike
  same_head : (q r : Resource) (qs rs : List Resource) → ◌≡◌ {A = List Resource} (q ∷ qs) (r ∷ rs) → (q ≡ r) × (qs ≡ rs)
  same_head q r qs rs h = (cc, cc)

  -- the first for which there is no room among the others is the first in all, if there is room for this one
  one_on : (done : List Resource) (r : Resource) (resources : List Resource) (e : Refusal) → size_of_resources (here done r resources) ≤ attributes_limit → IsFirst (next done r) resources e
      → IsFirst done (r ∷ resources) e
  one_on done r resources e fits f = record {
    front = r ∷ f.front;
    resource = f.resource;
    back = f.back;
    whole = ap (λ (rs : List Resource). r ∷ rs) f.whole;
    large = subst (λ (rs : List Resource). attributes_limit < size_of_resources rs) (append_assoc done (with_defaults defaults r ∷ []) (map (with_defaults defaults) (f.front ++ f.resource ∷ []) ++ f.back)) f.large;
    first = by;
    is = f.is;
  }
    where
      by : (before : List Resource) (q : Resource) (behind : List Resource) → (r ∷ f.front) ≡ before ++ q ∷ behind
          → size_of_resources (done ++ (map (with_defaults defaults) (before ++ q ∷ []) ++ (behind ++ f.resource ∷ f.back))) ≤ attributes_limit
      by [] q behind h =
          let same = same_head r q f.front behind h in
          subst (λ (n : ℕ). n ≤ attributes_limit)
          (λ i. size_of_resources (done ++ with_defaults defaults (same.0 i) ∷ ((f.whole ∙ ap (λ (rs : List Resource). rs ++ f.resource ∷ f.back) same.1) i))) fits
      by (b ∷ before) q behind h =
          let same = same_head r b f.front (before ++ q ∷ behind) h in
          subst (λ (rs : List Resource). size_of_resources rs ≤ attributes_limit)
          (append_assoc done (with_defaults defaults r ∷ []) (map (with_defaults defaults) (before ++ q ∷ []) ++ (behind ++ f.resource ∷ f.back))
          ∙ ap (λ (x : Resource). done ++ with_defaults defaults x ∷ (map (with_defaults defaults) (before ++ q ∷ []) ++ (behind ++ f.resource ∷ f.back))) same.0)
          (f.first before q behind same.1)

  -- equal results have equal refusals
  same_refusal : (x e : Refusal) → ◌≡◌ {A = Result (List Resource) Refusal} (Err x) (Err e) → e ≡ x
  same_refusal x e h = cc

  -- a refusal is at this one, where there is no room for it, or at one of the others
  by_size : (done : List Resource) (r : Resource) (resources : List Resource) (e : Refusal) (b : Bool) → nat_lt attributes_limit (size_of_resources (here done r resources)) ≡ b
      → (filled_behind defaults (next done r) resources ≡ Err e → IsFirst (next done r) resources e)
      → (cond b (Err (refusal 32 r.at (codes "attributes"))) (Ok (here done r resources)) >>= λ _. filled_behind defaults (next done r) resources) ≡ Err e → IsFirst done (r ∷ resources) e
  by_size done r resources e true large f h = record {
    front = [];
    resource = r;
    back = resources;
    whole = refl;
    large = ltb-true attributes_limit (size_of_resources (here done r resources)) large;
    first = λ before q behind is. absurd (nothing before q behind is);
    is = same_refusal (refusal 32 r.at (codes "attributes")) e h;
  }
    where
      nothing : (before : List Resource) (q : Resource) (behind : List Resource) → ◌≡◌ {A = List Resource} [] (before ++ q ∷ behind) → ⊥
      nothing [] q behind is = cc
      nothing (b ∷ before) q behind is = cc
  by_size done r resources e false small f h =
      let fits = ltb-false attributes_limit (size_of_resources (here done r resources)) small in
      one_on done r resources e (omega arith) (f h)

  -- the refusal is at the first for which there is no room
  first_large : (done resources : List Resource) (e : Refusal) → filled_behind defaults done resources ≡ Err e → IsFirst done resources e
  first_large done [] e h = cc
  first_large done (r ∷ resources) e h =
      by_size done r resources e (nat_lt attributes_limit (size_of_resources (here done r resources))) refl (first_large (next done r) resources e) h

-- where the list is found, or refused, so is the state
pub ends_filled : (s t : State) → main_ended s ≡ Ok t → t ≡ record s { main_has_ended = true; resources = map (with_defaults s.defaults) s.resources }
ends_filled s t h = by (filled_behind s.defaults [] s.resources) refl h
  where
    by : (x : Result (List Resource) Refusal) → filled_behind s.defaults [] s.resources ≡ x → (x >>= λ all. Ok (record s { main_has_ended = true; resources = all })) ≡ Ok t
        → t ≡ record s { main_has_ended = true; resources = map (with_defaults s.defaults) s.resources }
    by (Ok all) is k = same_state (record s { main_has_ended = true; resources = all }) t k ∙ ap (λ (rs : List Resource). record s { main_has_ended = true; resources = rs }) (all_filled s.defaults [] s.resources all is)
    by (Err e) is k = cc

-- the main code ends with a refusal at the first resource for which there is no room
pub ends_refused : (s : State) (e : Refusal) → main_ended s ≡ Err e → IsFirstTooLarge s.defaults s.resources e
ends_refused s e h =
    let f = first_large s.defaults [] s.resources e (refused (filled_behind s.defaults [] s.resources) h) in
    record { front = f.front; resource = f.resource; back = f.back; whole = f.whole; large = f.large; first = f.first; is = f.is }
  where
    refused : (x : Result (List Resource) Refusal) → (x >>= λ all. Ok (record s { main_has_ended = true; resources = all })) ≡ Err e → x ≡ Err e
    refused (Ok all) k = cc
    refused (Err d) k = let same : d ≡ e = cc in ap (λ (y : Refusal). Err y) same
