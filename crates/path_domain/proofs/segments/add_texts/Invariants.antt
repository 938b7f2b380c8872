use Rattle.std.proofs.Common.{◌≡◌, ◌||◌, ℕ, List, drop}
use Rattle.finite_domain.specs.Domains.{is_text_among}
use Rattle.path_domain.specs.Segments.{texts_in}
use Rattle.path_domain.proofs.segments.add_texts.Given as goal

-- the texts so far and those to come
abbrev pub invariant-loop-text : goal.invariant-loop-text
invariant-loop-text l = (c : List ℕ) → (is_text_among c (drop l.text-index l.texts) || texts_in l.set c) ≡ (is_text_among c l.texts || texts_in l.fn.set c)
