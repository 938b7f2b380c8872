-- Texts, the manifests that they spell, and what refuses them.
use Rattle.std.specs.Prelude.{◌≡◌, ◌⊎◌, ◌≤◌, ℕ, List, Result, Ok, Err, IsUtf8}
use Rattle.rh_base.specs.declared.fault.Refusal.{Refusal}
use Rattle.host_limits.specs.declared.limits.Limits.{Limits}
use Rattle.pp_syntax.specs.declared.tree.Manifest.{Manifest}
use Rattle.pp_syntax.specs.Tokens.{Lexeme}
use Rattle.pp_syntax.specs.Spelling.{Spells}
use Rattle.pp_syntax.specs.LeftOut.{IsNowhere, IsLeftOut}
use Rattle.pp_syntax.specs.Depth.{IsTooDeep}
use Rattle.pp_syntax.specs.Statements.{IsManifest}
use Rattle.pp_syntax.specs.Lexing.{IsTextRefusal, IsLexicalRefusal}
use Rattle.pp_parser.specs.Refusing.{IsParseRefusal}
use Rattle.pp_value.specs.declared.value.Value.{Value}
use Rattle.pp_data.specs.declared.data.Level.{Level}
use Rattle.pp_eval.specs.Scoping.{pairs_in}
use Rattle.catalog_semantics.specs.Sites.{Site, site_of}
use Rattle.catalog_semantics.specs.declared.state.State.{State}
use Rattle.catalog_semantics.specs.Catalogs.{Catalog, catalog_of, catalog_in, state_after, round_limit, IsSettled}

-- the manifest that a text spells, in this language and within its depth
pub record IsParsed (text : List ℕ) (manifest : Manifest) : Type 0 where
  pub utf8 : IsUtf8 text
  pub tokens : List Lexeme
  pub spelled : Spells text tokens
  pub all_in : IsNowhere IsLeftOut tokens
  pub shallow : IsNowhere IsTooDeep tokens
  pub derived : IsManifest manifest tokens

-- The text spells a manifest, in this language and within its depth, and within the limits this is its catalog or its first refusal.
pub record IsCatalogOf (text : List ℕ) (facts : Value) (node_name : List ℕ) (data_levels : List Level) (limits : Limits)
    (answer : Result Catalog Refusal) : Type 0 where
  pub manifest : Manifest
  pub parsed : IsParsed text manifest
  pub is : answer ≡ catalog_of manifest facts node_name data_levels limits

-- The main code of the text's manifest and as many rounds as one likes, if they are enough, lead to a state that another round
-- leaves as it is, and this is its catalog.
pub record IsSettledCatalog (text : List ℕ) (facts : Value) (node_name : List ℕ) (data_levels : List Level) (limits : Limits) (c : Catalog)
    : Type 0 where
  pub manifest : Manifest
  pub parsed : IsParsed text manifest
  pub site : Site
  pub gathered : site_of manifest data_levels (pairs_in facts) node_name ≡ Ok site
  pub state : State
  pub reached : (n : ℕ) → round_limit limits ≤ n → state_after n site manifest.items facts limits ≡ Ok state
  pub settled : IsSettled state
  pub is : c ≡ catalog_in state

-- the text's tokens are refused, or spell no manifest
abbrev pub IsSyntaxFault : List ℕ → Refusal → Type 0
IsSyntaxFault text r = IsUtf8 text × (tokens : List Lexeme) × Spells text tokens × IsParseRefusal tokens r

-- the text spells no manifest, and this is the first reason
abbrev pub IsSourceRefusal : List ℕ → Refusal → Type 0
IsSourceRefusal text r = IsTextRefusal text r ⊎ ((IsUtf8 text × IsLexicalRefusal text r) ⊎ IsSyntaxFault text r)

-- the text spells no manifest, or the manifest has no catalog, and this is the first reason
abbrev pub IsCatalogRefusal : List ℕ → Value → List ℕ → List Level → Limits → Refusal → Type 0
IsCatalogRefusal text facts node_name data_levels limits r =
    IsSourceRefusal text r ⊎ IsCatalogOf text facts node_name data_levels limits (Err r)
