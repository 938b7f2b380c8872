-- The canonical text of a manifest.
use Rattle.std.specs.Prelude.{ℕ, List, IsUtf8}
use Rattle.pp_syntax.specs.declared.tree.Manifest.{Manifest}
use Rattle.pp_syntax.specs.Tokens.{Lexeme}
use Rattle.pp_syntax.specs.Spelling.{Spells}
use Rattle.pp_syntax.specs.LeftOut.{IsNowhere, IsLeftOut}
use Rattle.pp_syntax.specs.Statements.{IsManifest}
use Rattle.pp_print.specs.Words.{text_of}
use Rattle.pp_print.specs.Statements.{manifest_words}
use Rattle.pp_print.specs.Places.{SameButPlaces}

-- Some text in UTF-8 spells the manifest.
pub record IsSpelled (m : Manifest) : Type 0 where
  pub text : List ℕ
  pub tokens : List Lexeme
  pub utf8 : IsUtf8 text
  pub spelled : Spells text tokens
  pub derived : IsManifest m tokens

-- the words of the manifest as one text
abbrev pub canonical : Manifest → List ℕ
canonical m = text_of (manifest_words m)

-- The text is UTF-8, it is tokens of which none is left out of the language, and they spell this manifest, places aside.
pub record ReadsBack (text : List ℕ) (m : Manifest) : Type 0 where
  pub utf8 : IsUtf8 text
  pub tokens : List Lexeme
  pub spelled : Spells text tokens
  pub all_in : IsNowhere IsLeftOut tokens
  pub tree : Manifest
  pub derived : IsManifest tree tokens
  pub same : SameButPlaces m tree
