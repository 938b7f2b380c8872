-- From what is lexed and parsed to a manifest and its catalog.
use Rattle.std.proofs.Common.{◌≡◌, inl, inr, ℕ, List, Result, Ok, Err, IfOk, IfErr, IsErrAnd, OnOk, sym, ap, subst, ◌∙◌}
use Rattle.std.specs.Prelude.{IsUtf8}
use Rattle.rh_base.specs.declared.fault.Fault.{Fault}
use Rattle.rh_base.specs.declared.fault.Fault.TheVariants as fault
use Rattle.rh_base.specs.declared.fault.Refusal.{Refusal}
use Rattle.host_limits.specs.declared.limits.Limits.{Limits}
use Rattle.rh_base.specs.Refused.{IfRefused}
use Rattle.pp_eval.specs.Evaluating.{◌>>=◌, AnswersBy, Refuses}
use Rattle.catalog_semantics.specs.Sites.{Site}
use Rattle.pp_syntax.specs.declared.tree.Manifest.{Manifest}
use Rattle.pp_syntax.specs.Tokens.{Lexeme}
use Rattle.pp_syntax.specs.Spelling.{Spells}
use Rattle.pp_syntax.specs.LeftOut.{IsNowhere, IsLeftOut}
use Rattle.pp_syntax.specs.Depth.{IsTooDeep}
use Rattle.pp_syntax.specs.Statements.{IsManifest}
use Rattle.pp_value.specs.declared.value.Value.{Value}
use Rattle.pp_data.specs.declared.data.Level.{Level}
use Rattle.catalog_semantics.specs.Catalogs.{Catalog, catalog_of}
use Rattle.pp_compile.specs.Sources.{IsParsed, IsCatalogOf, IsSourceRefusal, IsCatalogRefusal}

-- tokens that are parsed make the manifest of the text
pub parsed : (text : List ℕ) (tokens : List Lexeme) (r : Result Manifest Fault) → IsUtf8 text → Spells text tokens → IfOk r (λ m. IsManifest m tokens) → OnOk r (IsNowhere IsLeftOut tokens) → OnOk r (IsNowhere IsTooDeep tokens)
    → IfOk r (IsParsed text)
parsed text tokens (Ok m) utf8 spelled derived all_in shallow = record {
  utf8 = utf8;
  tokens = tokens;
  spelled = spelled;
  all_in = all_in;
  shallow = shallow;
  derived = derived;
}
parsed text tokens (Err e) utf8 spelled derived all_in shallow = tt

-- what is due of the manifest is due of the text
pub is_catalog : (text : List ℕ) (m : Manifest) (facts : Value) (node_name : List ℕ) (data_levels : List Level) (limits : Limits) (v : Result Catalog Refusal) → IsParsed text m → catalog_of m facts node_name data_levels limits ≡ v
    → IsCatalogOf text facts node_name data_levels limits v
is_catalog text m facts node_name data_levels limits v p h = record { manifest = m; parsed = p; is = sym h }

-- ---- from a site on

-- what follows a site that is known follows it
pub site_known : (r : Result Site Refusal) (f : Site → Result Catalog Refusal) (site : Site) → r ≡ Ok site → (r >>= f) ≡ f site
site_known r f site h = ap (λ (x : Result Site Refusal). x >>= f) h

-- a refusal of the site is one of the catalog
pub site_refused : (r : Result Site Refusal) (f : Site → Result Catalog Refusal) (e : Fault) → Refuses r e → Refuses (r >>= f) e
site_refused r f (fault.Refused x) h = ap (λ (y : Result Site Refusal). y >>= f) h
site_refused r f (fault.Memory m) h = tt

-- an error is an answer where it is due
pub answered : (v : Result Catalog Refusal) (r : Result Catalog Fault) (e : Fault) → IsErrAnd r (λ d. d ≡ e) → Refuses v e → AnswersBy (λ x. x) v r
answered v (Ok c) e h k = absurd h
answered v (Err d) e h k = subst (Refuses v) (sym h) k

-- ---- from a manifest on

module _ (text : List ℕ) (m : Manifest) (facts : Value) (node_name : List ℕ) (data_levels : List Level) (limits : Limits) (p : IsParsed text m) (v : Result Catalog Refusal) (is : catalog_of m facts node_name data_levels limits ≡ v) where
  -- a catalog that is answered is that of the text
  pub catalog_found : (r : Result Catalog Fault) → AnswersBy (λ x. x) v r → IfOk r (λ c. IsCatalogOf text facts node_name data_levels limits (Ok c))
  catalog_found (Ok c) h = is_catalog text m facts node_name data_levels limits (Ok c) p (is ∙ h)
  catalog_found (Err e) h = tt

  -- a refusal that is answered is the first of the text
  pub catalog_refused : (r : Result Catalog Fault) → AnswersBy (λ x. x) v r → IfErr r (λ e. IfRefused e (IsCatalogRefusal text facts node_name data_levels limits))
  catalog_refused (Ok c) h = tt
  catalog_refused (Err (fault.Refused x)) h = inr (is_catalog text m facts node_name data_levels limits (Err x) p (is ∙ h))
  catalog_refused (Err (fault.Memory n)) h = tt

-- so is one of the text itself
pub source_refused : (text : List ℕ) (facts : Value) (node_name : List ℕ) (data_levels : List Level) (limits : Limits) (r : Result Catalog Fault) (e : Fault) → IsErrAnd r (λ d. d ≡ e) → IfRefused e (IsSourceRefusal text)
    → IfErr r (λ d. IfRefused d (IsCatalogRefusal text facts node_name data_levels limits))
source_refused text facts node_name data_levels limits (Ok c) e h k = absurd h
source_refused text facts node_name data_levels limits (Err d) e h k = subst (λ (x : Fault). IfRefused x (IsCatalogRefusal text facts node_name data_levels limits)) (sym h) (by e k)
  where
    by : (e : Fault) → IfRefused e (IsSourceRefusal text) → IfRefused e (IsCatalogRefusal text facts node_name data_levels limits)
    by (fault.Refused x) k = inl k
    by (fault.Memory m) k = tt
