-- What is added to a text, one after the other.
use Rattle.std.proofs.Common.{◌≡◌, ℕ, List, [], ◌∷◌, ◌++◌, ap, sym, ◌∙◌, append_assoc, append-nil}
use Rattle.std.specs.List.{flat_map}

-- one more is added
pub next_added : {X : Type 0} (f : X → List ℕ) (text new whole : List ℕ) (x : X) (old rest : List X) → old ≡ x ∷ rest → text ++ flat_map f old ≡ whole → new ≡ text ++ f x → new ++ flat_map f rest ≡ whole
next_added f text new whole x old rest next so_far is =
    ap (λ l. l ++ flat_map f rest) is ∙ (append_assoc text (f x) (flat_map f rest) ∙ (ap (λ l. text ++ flat_map f l) (sym next) ∙ so_far))

-- all are added
pub all_added : {X : Type 0} (f : X → List ℕ) (text whole : List ℕ) (old : List X) → old ≡ [] → text ++ flat_map f old ≡ whole → text ≡ whole
all_added f text whole old none so_far = sym (append-nil text) ∙ (ap (λ l. text ++ flat_map f l) (sym none) ∙ so_far)
