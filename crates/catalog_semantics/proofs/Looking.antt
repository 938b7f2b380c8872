-- What class data say counts only where it is looked up.
use Rattle.std.proofs.Common.{◌≡◌, ℕ, cond, List, [], ◌∷◌, map, Option, Result, Ok, Err, refl, ap, ◌∙◌}
use Rattle.std.specs.List.{AllByRecursion}
use Rattle.rh_base.specs.declared.fault.Refusal.{Refusal}
use Rattle.host_limits.specs.declared.limits.Limits.{Limits}
use Rattle.pp_syntax.specs.declared.tree.Param.{Param}
use Rattle.pp_syntax.specs.declared.tree.Item.{Item}
use Rattle.pp_syntax.specs.declared.tree.Item.TheVariants as item
use Rattle.pp_syntax.specs.declared.tree.Manifest.{Manifest}
use Rattle.pp_value.specs.declared.value.Value.{Value}
use Rattle.pp_eval.specs.References.{plain_name}
use Rattle.pp_eval.specs.Evaluating.{◌>>=◌}
use Rattle.pp_eval.specs.Scoping.{pairs_in}
use Rattle.pp_data.specs.declared.data.Level.{Level}
use Rattle.pp_data.specs.Lookup.{key_of, lookup}
use Rattle.catalog_semantics.specs.Sites.{Parameter, Site, class_parameter, is_taken, stands_twice, with_class, gathered_one, gathered}
use Rattle.catalog_semantics.specs.Sites.{with_its_node, no_definitions}
use Rattle.catalog_semantics.specs.Frames.{AgreeOnItem, AgreeOn}
use Rattle.catalog_semantics.specs.Catalogs.{catalog_of, catalog_from}

module _ (find other : List ℕ → Option Value) where
  -- look-ups that agree give parameters the same values
  params_agree : (name : List ℕ) (params : List Param) → AllByRecursion (λ p. find (key_of name p.name) ≡ other (key_of name p.name)) params
      → map (class_parameter find name) params ≡ map (class_parameter other name) params
  params_agree name [] h = refl
  params_agree name (p ∷ params) h =
      λ i. record { name = p.name; kind = p.kind; default = p.default; from_data = h.0 i } ∷ params_agree name params h.1 i

  -- and gather the same of an item
  item_agrees : (x : Item) (site : Site) → AgreeOnItem find other x → gathered_one find x site ≡ gathered_one other x site
  item_agrees (item.Class at name params parent body) site h =
      ap (λ (ps : List Parameter). cond (is_taken site (plain_name name)) (Err (stands_twice at (plain_name name)))
      (Ok (with_class at name ps parent body site))) (params_agree name params h)
  item_agrees (item.Define at name params body) site h = refl
  item_agrees (item.Node at names body) site h = refl
  item_agrees (item.Defaults at kind attrs) site h = refl
  item_agrees (item.Plain s) site h = refl

  -- what goes on alike from a result is the same
  goes_on : (f g : Site → Result Site Refusal) (r : Result Site Refusal) → ((x : Site) → f x ≡ g x) → (r >>= f) ≡ (r >>= g)
  goes_on f g (Ok x) h = h x
  goes_on f g (Err e) h = refl

  -- they gather the same of all items
  pub gathered_agrees : (items : List Item) (site : Site) → AgreeOn find other items → gathered find items site ≡ gathered other items site
  gathered_agrees [] site h = refl
  gathered_agrees (x ∷ items) site h = ap (λ (r : Result Site Refusal). r >>= gathered find items) (item_agrees x site h.0)
      ∙ goes_on (gathered find items) (gathered other items) (gathered_one other x site) (λ more. gathered_agrees items more h.1)

-- class data whose look-ups agree give the same catalog
pub catalogs_agree : (m : Manifest) (facts : Value) (node_name : List ℕ) (data_levels others : List Level) (limits : Limits)
    → AgreeOn (lookup data_levels (pairs_in facts)) (lookup others (pairs_in facts)) m.items
    → catalog_of m facts node_name data_levels limits ≡ catalog_of m facts node_name others limits
catalogs_agree m facts node_name data_levels others limits h =
    ap (λ (r : Result Site Refusal). (r >>= with_its_node) >>= λ site. catalog_from site m.items facts limits)
    (gathered_agrees (lookup data_levels (pairs_in facts)) (lookup others (pairs_in facts)) m.items (no_definitions node_name) h)
