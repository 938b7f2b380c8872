-- From a verdict to what is explained of it.
use Rattle.std.proofs.Common.{◌≡◌, inr, ◌-◌, ℕ, List, [], ◌++◌, refl, sym, ap, subst, subst₂, ◌∙◌}
use Rattle.fs_semantics.specs.Programs.{Program}
use Rattle.fs_semantics.specs.Orders.{IsExchange, outcome}
use Rattle.fs_semantics.specs.FileTree.{Path, Tree}
use Rattle.given_hosts.specs.Given.{IsDeterministicFrom, IsCounterexampleFrom, SucceedsFrom, IsSecondRunCounterexampleFrom}
use Rattle.orders.specs.Relation.{Relation, Comes}
use Rattle.order_encode.specs.declared.witness.Witness.{Witness}
use Rattle.order_encode.specs.declared.witness.Witness.TheVariants as witness
use Rattle.determinism.specs.declared.first.Sure.{Sure}
use Rattle.verdict.specs.declared.verdicts.Second.{Second}
use Rattle.verdict.specs.declared.verdicts.Second.TheVariants as second
use Rattle.verdict.specs.declared.verdicts.Ends.{Ends}
use Rattle.verdict.specs.declared.verdicts.Ends.TheVariants as ends
use Rattle.verdict.specs.declared.verdicts.Verdict.{Verdict}
use Rattle.verdict.specs.declared.verdicts.Verdict.TheVariants as verdict
use Rattle.given_verdict.specs.First.{IsDifferenceFrom}
use Rattle.order_encode.specs.Witnesses.{IsFirstExtension}
use Rattle.given_verdict.specs.Second.{IsChangeFrom}
use Rattle.given_verdict.specs.Answers.{IsVerdictFrom}
use Rattle.verdict_report.specs.Lines.{fails_line}
use Rattle.explained_runs.specs.Told.{TellsApart, TellsAgain, TellsFromNothing}
use Rattle.explain_report.specs.Lines.{apart_text, again_text}
use Rattle.explain_report.specs.Steps.{EndHolds}
use Rattle.explain_report.specs.Told.{IsEnding, ExplainsDifference, ExplainsChange}
use Rattle.explained_runs.proofs.RunLaws.{some_end}

-- ---- the end of the text

-- and where none has, it tells where the first extension fails from the given folders alone
pub ends_never : (given : List Path) (names : List (List ℕ)) (es : List Program) (order : Relation) (line last : List ℕ) → (SucceedsFrom given es (Comes order) → ⊥) → TellsFromNothing given names es order line → last ≡ fails_line ++ line
    → IsEnding given names es order last
ends_never given names es order line last never told is = inr (never, line, told, is)

-- ---- a second run

-- a first run that a second one changes has ended in a tree
succeeds_first : (given : List Path) (es : List Program) (order : Relation) (t : Tree) (turns : List ℕ) → IsSecondRunCounterexampleFrom given es (Comes order) t turns → SucceedsFrom given es (Comes order)
succeeds_first given es order t turns changed = record {
  tree = t;
  is_tree = record { is_tree = changed.shows.is_tree; stand = changed.stand };
  order = turns;
  allowed = changed.shows.allowed;
  ends = some_end (outcome es turns t) changed.shows.after changed.shows.ends;
}

-- where a second run changes something the report explains it
pub explains_change : (given : List Path) (names : List (List ℕ)) (es : List Program) (order : Relation) (head lines shown text : List ℕ) (w : Witness) (t : Tree) (o turns : List ℕ) → w ≡ witness.Twice t o → turns ≡ o
    → ((r : Relation) → IsSecondRunCounterexampleFrom given es (Comes r) t turns → TellsAgain given names es r turns lines) → shown ≡ lines → text ≡ again_text head shown
    → IsDeterministicFrom given es (Comes order) → IsChangeFrom given es order w → ExplainsChange given names es order head (record { status = 2; text = text })
explains_change given names es order head lines shown text w t o turns is same told all whole deterministic change =
    let of : IsSecondRunCounterexampleFrom given es (Comes order) t o × (given ≡ [] → IsFirstExtension order o) = subst (IsChangeFrom given es order) is change in
    let by : IsSecondRunCounterexampleFrom given es (Comes order) t turns = subst (λ (p : List ℕ). IsSecondRunCounterexampleFrom given es (Comes order) t p) (sym same) of.0 in
    record {
      status = refl;
      deterministic = deterministic;
      turns = turns;
      is_first = λ empty. subst (IsFirstExtension order) (sym same) (of.1 empty);
      lines = lines;
      told = told order by;
      succeeds = succeeds_first given es order t turns by;
      text = whole ∙ ap (again_text head) all;
    }

-- ---- two orders

-- where two orders differ the report explains it
pub explains_difference : (given : List Path) (names : List (List ℕ)) (es : List Program) (order : Relation) (head lines shown text : List ℕ) (w : Witness) (t : Tree) (l r left right : List ℕ) → w ≡ witness.Orders t l r
    → left ≡ l → right ≡ r → ((o : Relation) → IsCounterexampleFrom given es (Comes o) t left right → IsExchange (Comes o) left right → TellsApart given names es o lines) → shown ≡ lines → text ≡ apart_text head shown
    → IsDifferenceFrom given es (Comes order) w → ExplainsDifference given names es order head (record { status = 1; text = text })
explains_difference given names es order head lines shown text w t l r left right is same_left same_right told all whole difference =
    let of : IsCounterexampleFrom given es (Comes order) t l r × IsExchange (Comes order) l r = subst (IsDifferenceFrom given es (Comes order)) is difference in
    let by : IsCounterexampleFrom given es (Comes order) t left right × IsExchange (Comes order) left right =
    subst₂ (λ (p : List ℕ) (q : List ℕ). IsCounterexampleFrom given es (Comes order) t p q × IsExchange (Comes order) p q) (sym same_left) (sym same_right) of in
    record { status = refl; lines = lines; told = told order by.0 by.1; text = whole ∙ ap (apart_text head) all }

-- ---- the last question

-- what a verdict answers to the last question is so
end_told : (given : List Path) (es : List Program) (order : Relation) (budget : ℕ) (k : ℕ) (s : Sure) (again : Second) (end : Ends)
    → IsVerdictFrom given es order budget (verdict.Judged k s again end) → EndHolds given es order end
end_told given es order budget k s again (ends.From w) said = said.succeeds
end_told given es order budget k s again (ends.Never v) said = said.fails

-- what is answered to the last question of a verdict is so
pub end_is_so : (given folders : List Path) (es : List Program) (order : Relation) (budget : ℕ) (judged : Verdict) (k : ℕ) (s : Sure) (again : Second) (end : Ends)
    → judged ≡ verdict.Judged k s again end → folders ≡ given → IsVerdictFrom given es order budget judged → EndHolds folders es order end
end_is_so given folders es order budget judged k s again end is same said =
    subst (λ g. EndHolds g es order end) (sym same) (end_told given es order budget k s again end (subst (IsVerdictFrom given es order budget) is said))
