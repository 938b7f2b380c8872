-- A text is read in one way, or refused, but not both.
use Rattle.std.proofs.Common.{◌≡◌, inl, inr, ℕ, List, Result, Ok, Err, sym, ap, subst, ◌∙◌}
use Rattle.std.specs.Prelude.{IsUtf8}
use Rattle.rh_base.specs.declared.fault.Refusal.{Refusal}
use Rattle.pp_syntax.specs.declared.tree.Manifest.{Manifest}
use Rattle.pp_syntax.specs.Tokens.{Lexeme}
use Rattle.pp_syntax.specs.Spelling.{Spells, FailsAt}
use Rattle.pp_syntax.specs.LeftOut.{IsFirst, IsNowhere, IsLeftOut}
use Rattle.pp_syntax.specs.Depth.{IsTooDeep}
use Rattle.pp_syntax.specs.Statements.{IsManifest}
use Rattle.pp_syntax.specs.Lexing.{IsTextRefusal, IsLexicalRefusal}
use Rattle.pp_parser.specs.Refusing.{AreLexed, IsParseRefusal}
use Rattle.pp_compile.specs.Sources.{IsParsed, IsSyntaxFault, IsSourceRefusal}

-- a text spells one list of tokens at most
abbrev pub OneSpelling : Type 0
OneSpelling = (text : List ℕ) (ts us : List Lexeme) → Spells text ts → Spells text us → ts ≡ us

-- tokens that some text spells are one manifest at most
abbrev pub OneManifest : Type 0
OneManifest = (m n : Manifest) (tokens : List Lexeme) → AreLexed tokens → IsManifest m tokens → IsManifest n tokens → m ≡ n

-- a text spells one manifest at most
pub same_manifest : OneSpelling → OneManifest → (text : List ℕ) (m n : Manifest) → IsParsed text m → IsParsed text n → m ≡ n
same_manifest spelling manifest text m n p q =
    let tokens : p.tokens ≡ q.tokens = spelling text p.tokens q.tokens p.spelled q.spelled in
    manifest m n q.tokens (text, q.spelled) (subst (IsManifest m) tokens p.derived) q.derived

-- what stands nowhere isn't the first
not_first : (P : List Lexeme → Lexeme → List Lexeme → Type 0) (tokens : List Lexeme) (t : Lexeme) → IsNowhere P tokens → IsFirst P tokens t → ⊥
not_first P tokens t h first = h first.front t first.back first.whole first.here

-- the tokens of a text that spells a manifest aren't refused
parsed_not_refused : (text : List ℕ) (m : Manifest) (r : Refusal) (p : IsParsed text m) → IsParseRefusal p.tokens r → ⊥
parsed_not_refused text m r p (inl (inl out)) = not_first IsLeftOut p.tokens out.token p.all_in out.first
parsed_not_refused text m r p (inl (inr deep)) = not_first IsTooDeep p.tokens deep.token p.shallow deep.first
parsed_not_refused text m r p (inr syntax) = syntax.no_tree m p.derived

-- a text that spells a manifest isn't refused
pub not_refused : OneSpelling → ((text : List ℕ) (ts : List Lexeme) (at : ℕ) → Spells text ts → FailsAt text at → ⊥)
    → (text : List ℕ) (m : Manifest) (r : Refusal) → IsParsed text m → IsSourceRefusal text r → ⊥
not_refused spelling either text m r p (inl bytes) = bytes.0 p.utf8
not_refused spelling either text m r p (inr (inl lexical)) = either text p.tokens lexical.1.0 p.spelled lexical.1.1
not_refused spelling either text m r p (inr (inr fault)) =
    parsed_not_refused text m r p (subst (λ (ts : List Lexeme). IsParseRefusal ts r) (spelling text fault.1 p.tokens fault.2 p.spelled) fault.3)
