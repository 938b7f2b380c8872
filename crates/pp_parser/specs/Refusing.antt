-- Which tokens are refused before they are parsed, and how.
use Rattle.std.specs.Prelude.{◌⊎◌, ℕ, List, codes}
use Rattle.rh_base.specs.declared.fault.Refusal.{Refusal}
use Rattle.rh_base.specs.Refused.{IsRefusal}
use Rattle.pp_syntax.specs.Tokens.{Lexeme}
use Rattle.pp_syntax.specs.LeftOut.{IsFirst, IsNowhere, IsLeftOut}
use Rattle.pp_syntax.specs.Depth.{IsTooDeep}
use Rattle.pp_syntax.specs.declared.tree.Manifest.{Manifest}
use Rattle.pp_syntax.specs.Spelling.{Spells}
use Rattle.pp_syntax.specs.Statements.{IsManifest}

-- 14 at the first token that is left out, with its text
pub record IsLeftOutRefusal (tokens : List Lexeme) (r : Refusal) : Type 0 where
  pub token : Lexeme
  pub first : IsFirst IsLeftOut tokens token
  pub refusal : IsRefusal 14 token.at token.text r

-- 13 at the first token that is nested too deep, where none is left out
pub record IsDepthRefusal (tokens : List Lexeme) (r : Refusal) : Type 0 where
  pub all_in : IsNowhere IsLeftOut tokens
  pub token : Lexeme
  pub first : IsFirst IsTooDeep tokens token
  pub refusal : IsRefusal 13 token.at (codes "nesting") r

-- a token is left out, or one is nested too deep
abbrev pub IsCheckRefusal : List Lexeme → Refusal → Type 0
IsCheckRefusal tokens r = IsLeftOutRefusal tokens r ⊎ IsDepthRefusal tokens r

-- ---- parsing

-- some text spells these tokens
abbrev pub AreLexed : List Lexeme → Type 0
AreLexed tokens = (text : List ℕ) × Spells text tokens

-- 12, at some place
abbrev pub RefusesSyntax : Refusal → Type 0
RefusesSyntax r = (at : ℕ) × IsRefusal 12 at (codes "syntax") r

-- the tokens spell no tree, where none is left out and none is nested too deep
pub record IsSyntaxRefusal (tokens : List Lexeme) (r : Refusal) : Type 0 where
  pub all_in : IsNowhere IsLeftOut tokens
  pub shallow : IsNowhere IsTooDeep tokens
  pub no_tree : (m : Manifest) → IsManifest m tokens → ⊥
  pub refusal : RefusesSyntax r

-- why tokens are refused: before they are parsed, or since they spell no tree
abbrev pub IsParseRefusal : List Lexeme → Refusal → Type 0
IsParseRefusal tokens r = IsCheckRefusal tokens r ⊎ IsSyntaxRefusal tokens r
