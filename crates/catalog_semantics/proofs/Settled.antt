-- After the rounds another one changes nothing.
use Rattle.std.proofs.Common.{◌≡◌, Bool, true, false, cond, not, ◌&&◌, ◌||◌, List, [], ◌∷◌, map, Option, Some, None, refl, ap, ◌∙◌}
use Rattle.std.specs.List.{list_any}
use Rattle.std.specs.Str.{bytes_eq}
use Rattle.pp_value.specs.Values.{same_ref}
use Rattle.catalog_semantics.specs.declared.catalog.Resource.{Resource}
use Rattle.catalog_semantics.specs.declared.state.Wish.{Wish, Wish-F, fold-Wish}
use Rattle.catalog_semantics.specs.declared.state.Wish.TheOpen as open_wish
use Rattle.catalog_semantics.specs.declared.state.Collector.{Collector}
use Rattle.catalog_semantics.specs.States.{State, is_class}
use Rattle.catalog_semantics.specs.Collecting.{meets_by, meets, meets_any, matches}
use Rattle.catalog_semantics.specs.Catalogs.{is_called_for, made_real, realized}

-- Whether a resource is virtual doesn't matter to what it matches.
meets_real : (r : Resource) (w : Wish) → meets (record r { is_virtual = false }) w ≡ meets r w
unfolding meets
meets_real r w = ap (λ (f : Wish-F Bool → Bool). fold-Wish Bool f w) (λ i. λ d. by r d i)
  where
    by : (r : Resource) (d : Wish-F Bool) → meets_by (record r { is_virtual = false }) d ≡ meets_by r d
    by r (open_wish.Or all) = refl
    by r (open_wish.And all) = refl
    by r (open_wish.Equal name x) = refl
    by r (open_wish.Differ name x) = refl

-- nor does it matter to a search, or to none
any_real : (r : Resource) (w : Option Wish) → meets_any (record r { is_virtual = false }) w ≡ meets_any r w
any_real r None = refl
any_real r (Some w) = meets_real r w

-- and of all collectors
some_real : (r : Resource) (collectors : List Collector)
    → list_any (λ c. matches c (record r { is_virtual = false })) collectors ≡ list_any (λ c. matches c r) collectors
some_real r [] = refl
some_real r (c ∷ collectors) = λ i. (not (is_class r) && bytes_eq r.id.kind c.kind && any_real r c.wish i) || some_real r collectors i

-- whether a resource is called for doesn't depend on whether it is virtual
called_real : (s : State) (r : Resource) → is_called_for s (record r { is_virtual = false }) ≡ is_called_for s r
called_real s r = ap (λ (b : Bool). b || list_any (λ p. same_ref p.target r.id) s.pending) (some_real r s.collectors)

-- a resource that was made real stays as it is
real_again : (s : State) (r : Resource) → made_real (realized s) (made_real s r) ≡ made_real s r
real_again s r = again (is_called_for s r) refl
  where
    again : (b : Bool) → is_called_for s r ≡ b
        → made_real (realized s) (cond b (record r { is_virtual = false }) r) ≡ cond b (record r { is_virtual = false }) r
    again true e = ap (λ (w : Bool). cond w (record r { is_virtual = false }) (record r { is_virtual = false })) (called_real s r ∙ e)
    again false e = ap (λ (w : Bool). cond w (record r { is_virtual = false }) r) e

-- and so do all
all_again : (s : State) (resources : List Resource)
    → map (made_real (realized s)) (map (made_real s) resources) ≡ map (made_real s) resources
all_again s [] = refl
all_again s (r ∷ resources) = λ i. real_again s r i ∷ all_again s resources i

-- What was made real once stays so.
pub realized_again : (s : State) → realized (realized s) ≡ realized s
realized_again s = ap (λ (w : List Resource). record s { resources = w }) (all_again s s.resources)
