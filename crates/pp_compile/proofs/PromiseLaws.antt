-- What is so of each catalog of a text.
use Rattle.std.proofs.Common.{◌≡◌, ◌≤◌, ℕ, List, Result, Ok, Err, IfOk, refl, sym, ap, subst, ◌∙◌}
use Rattle.rh_base.specs.declared.fault.Fault.{Fault}
use Rattle.rh_base.specs.declared.fault.Refusal.{Refusal}
use Rattle.host_limits.specs.declared.limits.Limits.{Limits}
use Rattle.pp_syntax.specs.declared.tree.Item.{Item}
use Rattle.pp_syntax.specs.declared.tree.Manifest.{Manifest}
use Rattle.pp_value.specs.declared.value.Value.{Value}
use Rattle.pp_eval.specs.Evaluating.{◌>>=◌}
use Rattle.pp_eval.specs.Scoping.{pairs_in}
use Rattle.pp_data.specs.declared.data.Level.{Level}
use Rattle.catalog_semantics.specs.declared.state.State.{State}
use Rattle.catalog_semantics.specs.Sites.{Site, site_of}
use Rattle.catalog_semantics.specs.Frames.{Each}
use Rattle.catalog_semantics.specs.Catalogs.{Catalog, catalog_of, catalog_from, catalog_in, state_after, round_limit, all_there, few_enough, IsSettled}
use Rattle.catalog_semantics.proofs.Whole.{few_is}
use Rattle.pp_compile.specs.Sources.{IsParsed, IsCatalogOf, IsSettledCatalog}

-- one manifest, one catalog or one refusal
pub one_answer : ((text : List ℕ) (m n : Manifest) → IsParsed text m → IsParsed text n → m ≡ n) → (text : List ℕ) (facts : Value) (node_name : List ℕ) (data_levels : List Level) (limits : Limits) (v w : Result Catalog Refusal)
    → IsCatalogOf text facts node_name data_levels limits v → IsCatalogOf text facts node_name data_levels limits w → v ≡ w
one_answer one text facts node_name data_levels limits v w a b =
    a.is ∙ (ap (λ m. catalog_of m facts node_name data_levels limits) (one text a.manifest b.manifest a.parsed b.parsed) ∙ sym b.is)

-- what is so of the catalog of the manifest is so of what is answered
pub promised : (text : List ℕ) (facts : Value) (node_name : List ℕ) (data_levels : List Level) (limits : Limits) (P : Catalog → Type 0)
    → ((c : Catalog) (has : IsCatalogOf text facts node_name data_levels limits (Ok c)) → catalog_of has.manifest facts node_name data_levels limits ≡ Ok c → P c)
    → (r : Result Catalog Fault) → IfOk r (λ c. IsCatalogOf text facts node_name data_levels limits (Ok c)) → IfOk r P
promised text facts node_name data_levels limits P f (Ok c) has = f c has (sym has.is)
promised text facts node_name data_levels limits P f (Err e) has = tt

-- ---- the last state

-- equal results have equal catalogs
same_catalog : (c d : Catalog) → ◌≡◌ {A = Result Catalog Refusal} (Ok c) (Ok d) → c ≡ d
same_catalog c d h = cc

-- a catalog that isn't refused for its size is that of the state
counted : (t : State) (f : Result State Refusal) (c : Catalog) → few_enough t ≡ f → (f >>= λ u. Ok (catalog_in u)) ≡ Ok c → c ≡ catalog_in t
counted t (Err e) c is h = cc
counted t (Ok u) c is h = sym (same_catalog (catalog_in u) c h) ∙ ap catalog_in (subst (Each (λ (w : State). w ≡ t)) is (few_is t))

-- so is one of which all that is to be realized is there
asked : (t : State) (r : Result State Refusal) (c : Catalog) → (r >>= λ there. few_enough t >>= λ u. Ok (catalog_in u)) ≡ Ok c → c ≡ catalog_in t
asked t (Err e) c h = cc
asked t (Ok w) c h = counted t (few_enough t) c refl h

module _
    (settled : (site : Site) (items : List Item) (facts : Value) (limits : Limits) (t : State) → state_after (round_limit limits) site items facts limits ≡ Ok t → IsSettled t)
    (enough : (site : Site) (items : List Item) (facts : Value) (limits : Limits) (n : ℕ) → round_limit limits ≤ n → state_after n site items facts limits ≡ state_after (round_limit limits) site items facts limits)
    (text : List ℕ) (facts : Value) (node_name : List ℕ) (data_levels : List Level) (limits : Limits) where
  -- the catalog of a state after enough rounds is a settled one
  in_state : (m : Manifest) (c : Catalog) (site : Site) → IsParsed text m → site_of m data_levels (pairs_in facts) node_name ≡ Ok site → (r : Result State Refusal) → state_after (round_limit limits) site m.items facts limits ≡ r
      → (r >>= λ t. all_there t.pending t >>= λ there. few_enough t >>= λ u. Ok (catalog_in u)) ≡ Ok c → IsSettledCatalog text facts node_name data_levels limits c
  in_state m c site p gathered (Err e) is h = cc
  in_state m c site p gathered (Ok t) is h = record {
    manifest = m;
    parsed = p;
    site = site;
    gathered = gathered;
    state = t;
    reached = λ n many. enough site m.items facts limits n many ∙ is;
    settled = settled site m.items facts limits t is;
    is = asked t (all_there t.pending t) c h;
  }

  -- so is that of what a manifest defines
  in_site : (m : Manifest) (c : Catalog) → IsParsed text m → (r : Result Site Refusal) → site_of m data_levels (pairs_in facts) node_name ≡ r → (r >>= λ site. catalog_from site m.items facts limits) ≡ Ok c
      → IsSettledCatalog text facts node_name data_levels limits c
  in_site m c p (Err e) is h = cc
  in_site m c p (Ok site) is h = in_state m c site p is (state_after (round_limit limits) site m.items facts limits) refl h

  -- the catalog of a text is a settled one
  pub is_settled : (c : Catalog) (has : IsCatalogOf text facts node_name data_levels limits (Ok c)) → catalog_of has.manifest facts node_name data_levels limits ≡ Ok c → IsSettledCatalog text facts node_name data_levels limits c
  is_settled c has h = in_site has.manifest c has.parsed (site_of has.manifest data_levels (pairs_in facts) node_name) refl h
