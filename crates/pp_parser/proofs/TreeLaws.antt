-- From what reading items finds to what parsing answers.
use Rattle.std.proofs.Common.{◌≡◌, inr, ℕ, zero, suc, ◌+◌, ◌<◌, ◌^◌, Bool, true, false, cond, List, [], ◌∷◌, length, Option, Some, None, refl, sym, ap, subst, ◌∙◌, arith}
use Rattle.std.specs.Str.{bytes_eq}
use Rattle.std.proofs.lemmas.List.{length-map}
use Rattle.std.specs.Prelude.{codes}
use Rattle.rh_base.specs.declared.fault.Refusal.{Refusal}
use Rattle.rh_base.specs.declared.fault.Fault.{Fault}
use Rattle.rh_base.specs.declared.fault.Fault.TheVariants as fault
use Rattle.rh_base.specs.Refused.{IfRefused}
use Rattle.pp_readers.specs.declared.misread.Misread.{Misread}
use Rattle.pp_syntax.specs.declared.token.Kind.{Kind}
use Rattle.pp_syntax.specs.declared.token.Kind.TheVariants as kind
use Rattle.pp_syntax.specs.declared.token.Token.{Token}
use Rattle.pp_syntax.specs.declared.lexer.place.Place.{Place}
use Rattle.pp_syntax.specs.declared.tree.Item.{Item}
use Rattle.pp_syntax.specs.declared.tree.Manifest.{Manifest}
use Rattle.pp_syntax.specs.Opened.{Ending, in_hole}
use Rattle.pp_syntax.specs.Tokens.{Lexeme, int_value}
use Rattle.pp_syntax.specs.Spelling.{Reads, ends, gap, token, stuck, NumberStands, kind_at, bracket_kind}
use Rattle.pp_syntax.specs.Lexing.{lexemes_of, lexeme_of}
use Rattle.pp_syntax.specs.LeftOut.{IsNowhere, IsLeftOut}
use Rattle.pp_syntax.specs.Depth.{IsTooDeep}
use Rattle.pp_syntax.specs.Statements.{IsManifest}
use Rattle.pp_readers.specs.Marks.{Found}
use Rattle.rh_base.specs.Reading.{◌>>=◌}
use Rattle.pp_readers.specs.Parsed.{NumbersFit, Fails}
use Rattle.pp_readers.specs.Expressions.{with_first}
use Rattle.pp_readers.proofs.Finding.{with_first_some}
use Rattle.pp_readers.specs.Combining.{Reader, many}
use Rattle.pp_parser.specs.ItemReading.{has_token, items_at}
use Rattle.pp_parser.specs.Refusing.{AreLexed, RefusesSyntax, IsParseRefusal}
use Rattle.pp_parser.proofs.ItemsWhole.{items_at_found, items_at_read}
use Rattle.pp_parser.proofs.WithinStatements.{bounded, unbounded}
use Rattle.rh_base.proofs.Options.{bind_some}

-- ---- the numbers of tokens that a text spells fit

-- a bracket is no INT
by_bracket : (p : Place) (s : List ℕ) → bracket_kind p s ≡ kind.Int → ⊥
by_bracket p s h = by_tests (bytes_eq s (codes "[")) p.tight (bytes_eq s (codes "}")) (in_hole p.opened) h
  where
    by_tests : (a b c d : Bool) → cond a (cond b kind.Tight kind.Loose) (cond c (cond d kind.HoleEnd kind.Sign) kind.Sign) ≡ kind.Int → ⊥
    by_tests true true c d k = cc
    by_tests true false c d k = cc
    by_tests false b true true k = cc
    by_tests false b true false k = cc
    by_tests false b false d k = cc

-- a token that is an INT where it stands fits 64 bits with a sign
number_fits : (p : Place) (k : Kind) (s rest : List ℕ) → NumberStands k s rest → kind_at p k s ≡ kind.Int → int_value s < 2 ^ 63
number_fits p kind.Int s rest n h = n.0
number_fits p kind.Sign s rest n h = absurd (by_bracket p s h)
number_fits p k s rest n h = cc

-- so does each number that is read
pub numbers_fit : {p : Place} {text : List ℕ} {tokens : List Lexeme} {e : Ending} → Reads p text tokens e → NumbersFit tokens
numbers_fit (ends t u e) = subst NumbersFit (sym u) tt
numbers_fit (gap s rest w g more) = numbers_fit more
numbers_fit {p} (token k s rest more w at u reads) =
    subst NumbersFit (sym u) ((λ int. number_fits p at.spelled s rest at.number (sym at.kind_is ∙ int)), numbers_fit reads)
numbers_fit (stuck n g t u e) = subst NumbersFit (sym u) tt

-- so does each number of tokens that some text spells
pub lexed_fit : (tokens : List Lexeme) → AreLexed tokens → NumbersFit tokens
lexed_fit tokens h = numbers_fit h.1

-- ---- items are read to the last token

-- reading items stops where none begins
many_to_end : {X : Type 0} (test : List Lexeme → Bool) (item : Reader X) (n : ℕ) (ts : List Lexeme) (x : List X × List Lexeme) → many test item n ts ≡ Some x → test x.1 ≡ false
many_to_end test item zero ts x h = cc
many_to_end {X} test item (suc n) ts x h = by_test (λ us y. many_to_end test item n us y) (test ts) refl h
  where
    by_test : ((us : List Lexeme) (y : List X × List Lexeme) → many test item n us ≡ Some y → test y.1 ≡ false) → (v : Bool) → test ts ≡ v → cond v (item ts >>= λ x. with_first x.0 (many test item n x.1)) (Some ([], ts)) ≡ Some x → test x.1 ≡ false
    by_test others false p k =
        let same : ◌≡◌ {A = List X × List Lexeme} ([], ts) x = cc in
        ap (λ (y : List X × List Lexeme). test y.1) (sym same) ∙ p
    by_test others true p k =
        let a = bind_some (item ts) (λ x. with_first x.0 (many test item n x.1)) x k in
        let b = with_first_some a.0.0 (many test item n a.0.1) x a.2 in
        ap (λ (y : List X × List Lexeme). test y.1) (sym b.2) ∙ others a.0.1 b.0 b.1

-- where no token begins, none is left
none_left : (ts : List Lexeme) → has_token ts ≡ false → ts ≡ []
none_left [] h = refl
none_left (t ∷ ts) h = cc

-- items that are read are read to the end
pub items_to_end : (depth : ℕ) (ts : List Lexeme) (ys : List Item) (rest : List Lexeme) → items_at depth ts ≡ Some (ys, rest) → items_at depth ts ≡ Some (ys, [])
items_to_end depth ts ys rest h = h ∙ ap (λ r. Some (ys, r)) (none_left rest (many_to_end has_token _ (length ts + 1) ts (ys, rest) h))

-- ---- what parsing answers

-- tokens that are read as items are a manifest
pub tree_found : (ts rest : List Lexeme) (n : ℕ) (ys : List Item) → items_at n ts ≡ Some (ys, rest) → IsManifest (record { items = ys }) ts
tree_found ts rest n ys h = (suc (length ts), unbounded ys n ts (items_at_found n ts ys (items_to_end n ts ys rest h)))

-- and the items of a manifest are read
pub tree_read : (ts : List Lexeme) (n : ℕ) (m : Manifest) → n ≡ length ts + 1 → NumbersFit ts → IsManifest m ts → items_at n ts ≡ Some (m.items, [])
tree_read ts n m e f h =
    ap (λ k. items_at k ts) e ∙ items_at_read (length ts + 1) ts m.items (bounded m.items h.0 ts h.1) f (omega arith)

-- the manifest of tokens is the one that is read
pub same_tree : (ts rest : List Lexeme) (n : ℕ) (ys : List Item) (m : Manifest) → n ≡ length ts + 1 → NumbersFit ts → items_at n ts ≡ Some (ys, rest) → IsManifest m ts → ◌≡◌ {A = Manifest} (record { items = ys }) m
same_tree ts rest n ys m e f h k =
    let same : ◌≡◌ {A = Found (List Item)} (Some (ys, rest)) (Some (m.items, [])) = sym h ∙ tree_read ts n m e f k in
    let pair : ◌≡◌ {A = List Item × List Lexeme} (ys, rest) (m.items, []) = cc in
    ap (λ (p : List Item × List Lexeme). record { items = p.0 }) pair

-- tokens that can't be read as items are no manifest
pub no_tree : (ts : List Lexeme) (n : ℕ) (m : Manifest) → n ≡ length ts + 1 → NumbersFit ts → items_at n ts ≡ None → IsManifest m ts → ⊥
no_tree ts n m e f h k = let c : ◌≡◌ {A = Found (List Item)} None (Some (m.items, [])) = sym h ∙ tree_read ts n m e f k in cc

-- lexed tokens spell one manifest at most
pub one_tree : (m n : Manifest) (ts : List Lexeme) → AreLexed ts → IsManifest m ts → IsManifest n ts → m ≡ n
one_tree m n ts l h k = same_tree ts [] (length ts + 1) m.items n refl (lexed_fit ts l) (tree_read ts (length ts + 1) m refl (lexed_fit ts l) h) k

-- the definitions speak of as many tokens as the code has
pub told_length : (tokens : List Token) → length (lexemes_of tokens) ≡ length tokens
told_length tokens = length-map tokens lexeme_of

-- and of as many turns
pub turns_are : (tokens : List Token) → length tokens + 1 ≡ length (lexemes_of tokens) + 1
turns_are tokens = ap (λ n. n + 1) (sym (told_length tokens))

-- nothing was read
pub fails_as : {Y : Type 0} (e f : Misread) (read : Option Y) → e ≡ f → Fails e read → Fails f read
fails_as e f read same h = subst (λ (m : Misread). Fails m read) same h

-- where nothing is refused, nothing is said of a refusal
pub refused_never : (e : Fault) (P : Refusal → Type 0) → ⊥ → IfRefused e P
refused_never e P none = absurd none

-- a refusal of the syntax, where nothing was read
pub refuses_syntax : (ts : List Lexeme) (n : ℕ) (e : Fault) → n ≡ length ts + 1 → AreLexed ts → IsNowhere IsLeftOut ts → IsNowhere IsTooDeep ts → items_at n ts ≡ None → IfRefused e RefusesSyntax → IfRefused e (IsParseRefusal ts)
refuses_syntax ts n (fault.Refused r) e l all shallow h k = inr (record { all_in = all; shallow = shallow; no_tree = λ m t. no_tree ts n m e (lexed_fit ts l) h t; refusal = k })
refuses_syntax ts n (fault.Memory m) e l all shallow h k = tt
