-- What goes on from one state to the next.
use Rattle.std.proofs.Common.{◌≡◌, ℕ, ◌+◌, ◌<◌, List, [], ◌∷◌, ◌++◌, length, refl, sym, ap, ◌∙◌, subst, append_assoc}
use Rattle.std.proofs.Math.ListN.{set}
use Rattle.std.proofs.lemmas.List.{append-nil}
use Rattle.unit_propagation.specs.Stored.{exchanged}
use Rattle.unit_propagation.specs.Trails.{Way}
use Rattle.unit_propagation.specs.declared.propagate.Visited.{Visited}
use Rattle.unit_propagation.specs.declared.propagate.Visited.TheVariants as visited
use Rattle.unit_propagation.specs.Watching.{clause, Extends, Continues}
use Rattle.unit_propagation.specs.Visits.{Forces}
use Rattle.unit_propagation.proofs.Exchanges.{has_now, has_then, long}

-- clauses stay and the trail grows by nothing, where variables, levels and literals are the same
pub extends_same : (f : List (List ℕ)) (t t2 : Way) → t2.vars ≡ t.vars → t2.starts ≡ t.starts → t2.literals ≡ t.literals → Extends f t f t2
extends_same f t t2 a b c = record { count = refl; into = λ n x h. h; back = λ n x h. h; vars = a; starts = b; more = []; literals = c ∙ sym (append-nil t.literals) }

-- one extension after another is an extension
pub extends_on : (f g h : List (List ℕ)) (t s r : Way) → Extends f t g s → Extends g s h r → Extends f t h r
extends_on f g h t s r a b = record {
  count = b.count ∙ a.count;
  into = λ n x p. b.into n x (a.into n x p);
  back = λ n x p. a.back n x (b.back n x p);
  vars = b.vars ∙ a.vars;
  starts = b.starts ∙ a.starts;
  more = a.more ++ b.more;
  literals = b.literals ∙ ap (λ x. x ++ b.more) a.literals ∙ append_assoc t.literals a.more b.more;
}

-- where nothing changes, propagation of a literal continues
pub continues_same : (f : List (List ℕ)) (t : Way) → Continues f t f t
continues_same f t = record { extends = extends_same f t t refl refl refl; done = refl }

-- one part of the propagation of a literal, and then another, are such a part
pub continues_on : (f g h : List (List ℕ)) (t s r : Way) → Continues f t g s → Continues g s h r → Continues f t h r
continues_on f g h t s r a b = record { extends = extends_on f g h t s r a.extends b.extends; done = b.done ∙ a.done }

-- to set the literal that a clause forces, or to find it false, continues the propagation
pub continues_forced : (f : List (List ℕ)) (t s : Way) (literal r : ℕ) (out : Visited) → Forces t s literal r out → Continues f t f s
continues_forced f t s literal r visited.Gone h = absurd h
continues_forced f t s literal r (visited.Kept b) h =
    subst (Continues f t f) (sym h.2) (record { extends = record { count = refl; into = λ n x p. p; back = λ n x p. p; vars = refl; starts = refl; more = literal ∷ []; literals = refl }; done = refl })
continues_forced f t s literal r visited.False h = subst (Continues f t f) (sym h.1) (continues_same f t)

-- to exchange two literals of a clause continues the propagation
pub continues_moved : (f f2 : List (List ℕ)) (t : Way) (n j k : ℕ) → n < length f → j < length (clause f n) → k < length (clause f n) → f2 ≡ set f n (exchanged (clause f n) j k) → Continues f t f2 t
continues_moved f f2 t n j k there in_j in_k e =
    subst (λ x. Continues f t x t) (sym e)
    (record {
      extends = record {
        count = long f n j k there in_j in_k;
        into = λ m x p. has_now f n j k there in_j in_k m x p;
        back = λ m x p. has_then f n j k there in_j in_k m x p;
        vars = refl;
        starts = refl;
        more = [];
        literals = sym (append-nil t.literals);
      };
      done = refl;
    })

-- one literal more is to be propagated, and then it is
pub extends_step : (f g : List (List ℕ)) (t s r : Way) → s ≡ record { vars = t.vars; literals = t.literals; reasons = t.reasons; starts = t.starts; done = t.done + 1 } → Continues f s g r → Extends f t g r
extends_step f g t s r e h =
    let same : Extends f t f s = extends_same f t s (ap (λ (x : Way). x.vars) e) (ap (λ (x : Way). x.starts) e) (ap (λ (x : Way). x.literals) e) in
    extends_on f f g t s r same h.extends
