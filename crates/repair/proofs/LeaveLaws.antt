-- Arrows that are left out, one by one.
use Rattle.std.proofs.Common.{◌≡◌, ◌≢◌, inl, ℕ, List, [], ◌∷◌, ◌++◌, length, get_or, refl, sym, subst, arith, append_assoc, append-nil}
use Rattle.std.specs.List.{All, Contains}
use Rattle.std.proofs.lemmas.List.Elements.{All-append, All-contains, All-contains_itself, Contains-append_left, Contains-append_right, Contains-get_or}
use Rattle.fs_semantics.specs.Programs.{Program}
use Rattle.fs_semantics.specs.Orders.{Told, IsDeterministic}
use Rattle.orders.specs.Relation.{Relation, comes, Comes, IsStrictOrder}
use Rattle.repair.specs.Arrows.{ComesWith, step, CanBeAdded}
use Rattle.repair.specs.Repairs.{AreNeeded, PointRight}
use Rattle.repair.specs.Answers.{IsRepaired, IsSpentWith}
use Rattle.repair.specs.Steps.{WereMissing, AreLeft, AreNeededBeside}
use Rattle.repair.specs.declared.repaired.Repaired.TheVariants as repaired
use Rattle.cnf.specs.Formulas.{Formula}
use Rattle.cnf.specs.declared.log.Log.{Log}
use Rattle.repair.proofs.RunLaws.{deterministic_by_more}
use Rattle.repair.proofs.ArrowLaws.{deterministic_more, runs_of_fewer, added_fewer, no_arrows}
use Rattle.repair.proofs.AddLaws.{none_pushed}

-- a list of no length is empty
pub no_items : (xs : List (ℕ × ℕ)) → length xs ≡ 0 → xs ≡ []
no_items [] e = refl
no_items (x ∷ xs) e = absurd (omega (arith, e))

-- with one list between two others there is all that the two have
between_more : (xs ys zs : List (ℕ × ℕ)) → All (Contains ((xs ++ ys) ++ zs)) (xs ++ zs)
between_more xs ys zs = All-append (Contains ((xs ++ ys) ++ zs)) xs zs
    (λ k d h. Contains-append_left (xs ++ ys) zs (get_or xs k d) (Contains-append_left xs ys (get_or xs k d) (Contains-get_or xs k d h)))
    (λ k d h. Contains-append_right (xs ++ ys) zs (get_or zs k d) (Contains-get_or zs k d h))

-- where more arrows point the way that succeeds, fewer do
pub right_fewer : (es : List Program) (order : Relation) (arrows more : List (ℕ × ℕ)) → All (Contains more) arrows → PointRight es order more → PointRight es order arrows
right_fewer es order arrows more sub p = record {
  tree = p.tree;
  is_tree = p.is_tree;
  run = p.run;
  follows = runs_of_fewer order arrows more sub (length es) p.run p.follows;
  ends = p.ends;
  other = p.other;
  allowed = p.allowed;
  differ = p.differ;
}

module _ (es : List Program) (order : Relation) where
  -- the graph is deterministic with the arrows
  abbrev Sure : List (ℕ × ℕ) → Type 0
  Sure arrows = IsDeterministic es (ComesWith order arrows)

  module _ (all rest needed : List (ℕ × ℕ)) (arrow : ℕ × ℕ) where
    -- the graph is deterministic without it
    pub left_out : AreLeft es order all (rest ++ arrow ∷ []) needed → Sure (rest ++ needed) → AreLeft es order all rest needed
    left_out left sure = record {
      among = λ k d h. All-contains (Contains all) ((rest ++ arrow ∷ []) ++ needed) (get_or (rest ++ needed) k d) left.among (between_more rest (arrow ∷ []) needed k d h);
      deterministic = sure;
      needed = λ front one back e d. left.needed front one back e
          (deterministic_more order (rest ++ (front ++ back)) ((rest ++ arrow ∷ []) ++ (front ++ back)) (between_more rest (arrow ∷ []) (front ++ back)) es d);
    }

    -- an arrow without which the graph isn't deterministic is needed with the others that are
    needed_on : AreNeededBeside es order (rest ++ arrow ∷ []) needed → (Sure (rest ++ needed) → ⊥) → AreNeededBeside es order rest (arrow ∷ needed)
    needed_on old other [] one back e d = let same : needed ≡ back = cc in other (subst (λ xs. Sure (rest ++ xs)) (sym same) d)
    needed_on old other (x ∷ front) one back e d =
        let first : x ≡ arrow = cc in
        let same : needed ≡ front ++ one ∷ back = cc in
        old front one back same
        (subst Sure (sym (append_assoc rest (arrow ∷ []) (front ++ back))) (subst (λ y. Sure (rest ++ y ∷ (front ++ back))) first d))

    -- it isn't
    pub stays : AreLeft es order all (rest ++ arrow ∷ []) needed → (Sure (rest ++ needed) → ⊥) → AreLeft es order all rest (arrow ∷ needed)
    stays left other = record {
      among = subst (All (Contains all)) (append_assoc rest (arrow ∷ []) needed) left.among;
      deterministic = subst Sure (append_assoc rest (arrow ∷ []) needed) left.deterministic;
      needed = needed_on left.needed other;
    }

  -- the last one that was added is needed
  pub begun : (rest : List (ℕ × ℕ)) (arrow : ℕ × ℕ) → WereMissing es order (rest ++ arrow ∷ []) → Sure (rest ++ arrow ∷ []) → AreLeft es order (rest ++ arrow ∷ []) rest (arrow ∷ [])
  begun rest arrow were sure = record {
    among = All-contains_itself (rest ++ arrow ∷ []);
    deterministic = sure;
    needed = needed_on (rest ++ arrow ∷ []) rest [] arrow (λ front one back e d. none_pushed front one back e)
        (λ d. were.last rest arrow refl (subst Sure (append-nil rest) d));
  }

  module _ (strict : IsStrictOrder order) where
    -- a graph that is deterministic with no arrows is deterministic
    nothing_to : Sure [] → IsDeterministic es (Told (comes order))
    nothing_to = deterministic_by_more (ComesWith order []) (Comes order) (λ a b h. (no_arrows order strict a b).0 h) es

    -- and one that is deterministic is so with any arrows
    from_nothing : (arrows : List (ℕ × ℕ)) → IsDeterministic es (Told (comes order)) → Sure arrows
    from_nothing arrows = deterministic_by_more (Comes order) (ComesWith order arrows) (λ a b h. step (inl h)) es

    -- of a graph that is deterministic no arrow is needed
    nothing_needed : (arrows : List (ℕ × ℕ)) → AreNeeded es order arrows → IsDeterministic es (Told (comes order)) → arrows ≡ []
    nothing_needed [] needed det = refl
    nothing_needed (x ∷ arrows) needed det = absurd (needed [] x arrows refl (from_nothing arrows det))

    -- when all arrows were looked at, those that are needed repair the graph, and all is said of the answer
    pub all_looked_at : {budget : ℕ} (all needed : List (ℕ × ℕ)) → WereMissing es order all → all ≢ [] → AreLeft es order all [] needed → IsRepaired es order budget (repaired.Done needed)
    all_looked_at all needed were some left =
        let added = added_fewer order needed all left.among were.added in
        record {
          added = added;
          repairs = record { added = added; deterministic = left.deterministic };
          needed = left.needed;
          right = λ h. right_fewer es order needed all left.among (were.right some);
          nothing = ((λ e. nothing_to (subst Sure e left.deterministic)), nothing_needed needed left.needed);
          spent = tt;
        }

    -- and so it is where none was missing
    pub none_to_look_at : {budget : ℕ} → WereMissing es order [] → Sure [] → IsRepaired es order budget (repaired.Done [])
    none_to_look_at were sure = record {
      added = were.added;
      repairs = record { added = were.added; deterministic = sure };
      needed = λ front one back e d. none_pushed front one back e;
      right = were.right;
      nothing = ((λ e. nothing_to sure), (λ d. refl));
      spent = tt;
    }

  -- and where the budget was spent
  pub budget_spent : {budget : ℕ} (arrows : List (ℕ × ℕ)) (f : Formula) (log : Log) → CanBeAdded order arrows → IsSpentWith es order budget arrows f log.steps
      → IsRepaired es order budget (repaired.Spent arrows f log)
  budget_spent arrows f log added spent = record { added = added; repairs = tt; needed = tt; right = tt; nothing = tt; spent = spent }

  -- what is added while arrows are left out
  pub added_among : (all rest needed : List (ℕ × ℕ)) (arrow : ℕ × ℕ) → CanBeAdded order all → AreLeft es order all (rest ++ arrow ∷ []) needed → CanBeAdded order (rest ++ needed)
  added_among all rest needed arrow added left = added_fewer order (rest ++ needed) all
      (λ k d h. All-contains (Contains all) ((rest ++ arrow ∷ []) ++ needed) (get_or (rest ++ needed) k d) left.among (between_more rest (arrow ∷ []) needed k d h)) added
