-- Single tokens, and tokens behind one another.
use Rattle.std.proofs.Common.{◌≡◌, ℕ, ◌&&◌, Bool, true, false, cond, List, [], ◌∷◌, ◌++◌, Some, None, refl, sym, ap, ◌∙◌, append_assoc}
use Rattle.std.proofs.lemmas.Slice.Eq.{bytes_eq-Decides}
use Rattle.std.specs.Str.{bytes_eq}
use Rattle.pp_syntax.specs.declared.token.Kind.{Kind}
use Rattle.pp_syntax.specs.declared.token.Kind.TheVariants as kind
use Rattle.pp_syntax.specs.Tokens.{Lexeme}
use Rattle.pp_syntax.specs.Phrases as phrases
use Rattle.pp_syntax.specs.Phrases.{◌then◌}
use Rattle.pp_readers.specs.Marks.{is_kind, mark}
use Rattle.rh_base.specs.Reading.{◌>>=◌}
use Rattle.pp_readers.specs.Parsed.{Begins}

-- what begins the tokens, and what begins those behind it, begin them together
unfoldable pub joins : {A B : List Lexeme → Type 0} {ts mid rest : List Lexeme} → Begins A ts mid → Begins B mid rest → Begins (A then B) ts rest
joins a b = record {
  front = a.front ++ b.front;
  spelled = record { front = a.front; back = b.front; first = a.spelled; second = b.spelled; whole = refl };
  whole = a.whole ∙ ap (λ r. a.front ++ r) b.whole ∙ sym (append_assoc a.front b.front _);
}

-- tokens that begin with what is spelled by one rule do so by each rule that follows from it
unfoldable pub maps : {A B : List Lexeme → Type 0} {ts rest : List Lexeme} → ((us : List Lexeme) → A us → B us) → Begins A ts rest → Begins B ts rest
maps f a = record { front = a.front; spelled = f a.front a.spelled; whole = a.whole }

-- kinds that are told to be one are
pub same_kind : (j k : Kind) → is_kind j k ≡ true → j ≡ k
same_kind kind.Word kind.Word h = refl
same_kind kind.Ref kind.Ref h = refl
same_kind kind.Var kind.Var h = refl
same_kind kind.Int kind.Int h = refl
same_kind kind.Float kind.Float h = refl
same_kind kind.Sq kind.Sq h = refl
same_kind kind.DqOpen kind.DqOpen h = refl
same_kind kind.DqText kind.DqText h = refl
same_kind kind.DqVar kind.DqVar h = refl
same_kind kind.Hole kind.Hole h = refl
same_kind kind.HoleEnd kind.HoleEnd h = refl
same_kind kind.DqClose kind.DqClose h = refl
same_kind kind.Tight kind.Tight h = refl
same_kind kind.Loose kind.Loose h = refl
same_kind kind.Keyword kind.Keyword h = refl
same_kind kind.Sign kind.Sign h = refl
same_kind kind.LeftOut kind.LeftOut h = refl
same_kind j k h = cc

-- each kind is told to be itself
pub itself_kind : (k : Kind) → is_kind k k ≡ true
itself_kind kind.Word = refl
itself_kind kind.Ref = refl
itself_kind kind.Var = refl
itself_kind kind.Int = refl
itself_kind kind.Float = refl
itself_kind kind.Sq = refl
itself_kind kind.DqOpen = refl
itself_kind kind.DqText = refl
itself_kind kind.DqVar = refl
itself_kind kind.Hole = refl
itself_kind kind.HoleEnd = refl
itself_kind kind.DqClose = refl
itself_kind kind.Tight = refl
itself_kind kind.Loose = refl
itself_kind kind.Keyword = refl
itself_kind kind.Sign = refl
itself_kind kind.LeftOut = refl

-- a token that is found stands first
pub mark_found : (k : Kind) (s : List ℕ) (ts : List Lexeme) (x : ℕ × List Lexeme) → mark k s ts ≡ Some x → ts ≡ record { kind = k; text = s; at = x.0 } ∷ x.1
mark_found k s [] x h = cc
mark_found k s (t ∷ ts) x h = by_tests (is_kind t.kind k) (bytes_eq t.text s) refl refl h
  where
    by_tests : (a b : Bool) → is_kind t.kind k ≡ a → bytes_eq t.text s ≡ b → cond (a && b) (Some (t.at, ts)) None ≡ Some x → t ∷ ts ≡ record { kind = k; text = s; at = x.0 } ∷ x.1
    by_tests true true p q e =
        let one : t.kind ≡ k = same_kind t.kind k p in
        let two : t.text ≡ s = (bytes_eq-Decides t.text s).0 q in
        let three : ◌≡◌ {A = ℕ × List Lexeme} (t.at, ts) x = cc in
        ap (λ (j : Kind). record { kind = j; text = t.text; at = t.at } ∷ ts) one ∙ ap (λ (u : List ℕ). record { kind = k; text = u; at = t.at } ∷ ts) two ∙ ap (λ (y : ℕ × List Lexeme). record { kind = k; text = s; at = y.0 } ∷ y.1) three
    by_tests true false p q e = cc
    by_tests false b p q e = cc

-- a token of this kind and text, at this place
pub marked_at : (k : Kind) (s : List ℕ) (ts : List Lexeme) (x : ℕ × List Lexeme) → mark k s ts ≡ Some x → Begins (phrases.Token k s x.0) ts x.1
marked_at k s ts x h = record { front = record { kind = k; text = s; at = x.0 } ∷ []; spelled = refl; whole = mark_found k s ts x h }

-- tokens in which such a token is found begin with it
pub marked : (k : Kind) (s : List ℕ) (ts : List Lexeme) (x : ℕ × List Lexeme) → mark k s ts ≡ Some x → Begins (phrases.Some k s) ts x.1
marked k s ts x h = record { front = record { kind = k; text = s; at = x.0 } ∷ []; spelled = (x.0, refl); whole = mark_found k s ts x h }
